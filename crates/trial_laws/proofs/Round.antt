-- A round: where it is done, its pages have its byte, and nothing else changes; where one is abandoned, the count of these says so.
use Prim.Native.Nat.{ℕ, zero, suc, ◌+◌, ◌-◌, ◌<◌}
use mathlib.Core.Bool.{Bool, true, false, cond, ◌&&◌, ◌||◌}
use mathlib.Core.List.{List, [], ◌∷◌}
use mathlib.Core.Path.{◌≡◌, refl, sym, ap, ◌∙◌}
use native.Mathlib.Omega.{arith}
use lib.Dec.{ltb, leb, eqb}
use borrow.Author.Tests.{eqb-true, eqb-false, ne_eqb, le-leb, le-ltb, lt-ltb, ltb-false}
use Rattle.bounded.proofs.Tests.{case_on, row_keeps}
use Rattle.words.specs.Words.{Bytes}
use Rattle.layout.specs.declared.Sizes.{Sizes}
use Rattle.refinement.specs.Reference.{Cell, none, byte, laid_over}
use Rattle.refinement.specs.Statement.{Lent}
use Rattle.trials.specs.declared.Ask.{Ask}
use Rattle.trials.specs.declared.Ask.TheVariants.{Begin, Write, Free, Checkpoint, Commit, Abort}
use Rattle.trials.specs.Trials.{call_of, Tried, made, with_room, put, put_all, committed, counted, as_done, as_abandoned, played}
use Rattle.trial_laws.specs.Pages.{is_listed, marked}
use Rattle.trial_laws.proofs.Standing.{Stands, wrote, no_writes, stands-refused, stands-begin, stands-free, stands-checkpoint, stands-write, stands-commit, stands-as}

-- what holds of both answers of a test, each where it is the one
pub row-splits : (P : Tried → Type 0) (b : Bool) (x y : Tried) → (b ≡ true → P x) → (b ≡ false → P y) → P (cond b x y)
row-splits P true x y p q = p refl
row-splits P false x y p q = q refl

-- ---- what no call changes, no round does up to its end: the counts of rounds

module _ (g : Tried → ℕ) (kept : (a : Ask) (t : Tried) → g (made a t) ≡ g t) where
  room-same : (a : Ask) (t : Tried) → g (with_room a t) ≡ g t
  unfolding with_room
  room-same a t =
      row_keeps (λ (u : Tried). g u ≡ g t) (eqb (made a t).number 19) (made a (made Checkpoint (made a t))) (made a t)
      (kept a (made Checkpoint (made a t)) ∙ (kept Checkpoint (made a t) ∙ kept a t)) (kept a t)

  put_same : (b p : ℕ) (t : Tried) → g (put b p t) ≡ g t
  unfolding put
  put_same b p t =
      let u = made (Write p b) t in
      let f = with_room Free u in
      let e : g f ≡ g t = room-same Free u ∙ kept (Write p b) t in
      row_keeps (λ (w : Tried). g w ≡ g t) (eqb u.number 15) (cond (eqb f.number 0) (made (Write p b) f) f) u
      (row_keeps (λ (w : Tried). g w ≡ g t) (eqb f.number 0) (made (Write p b) f) f (kept (Write p b) f ∙ e) e) (kept (Write p b) t)

  all_same : (b : ℕ) (ps : List ℕ) (t : Tried) → g (put_all b ps t) ≡ g t
  unfolding put_all
  all_same b [] t = refl
  all_same b (p ∷ ps) t =
      let u = put b p t in
      row_keeps (λ (w : Tried). g w ≡ g t) (eqb u.number 0) (put_all b ps u) u (all_same b ps u ∙ put_same b p t) (put_same b p t)

  committed-same : (t : Tried) → g (committed t) ≡ g t
  unfolding committed
  committed-same t = row_keeps (λ (w : Tried). g w ≡ g t) (eqb t.number 0) (with_room Commit t) t (room-same Commit t) refl

  pub round_same : (ps : List ℕ) (b : ℕ) (t : Tried) → g (committed (put_all b ps (made Begin t))) ≡ g t
  round_same ps b t = committed-same (put_all b ps (made Begin t)) ∙ (all_same b ps (made Begin t) ∙ kept Begin t)

pub made-done : (a : Ask) (t : Tried) → (made a t).done ≡ t.done
unfolding made
made-done a t = refl

pub made-abandoned : (a : Ask) (t : Tried) → (made a t).abandoned ≡ t.abandoned
unfolding made
made-abandoned a t = refl

-- a round more is counted, as long as there are fewer than 1,000
pub counted-more : (n : ℕ) → n < 1000 → counted n ≡ n + 1
counted-more n h = rw (lt-ltb n 1000 h)

pub abandoned-more : (t : Tried) → t.done + t.abandoned < 1000 → (as_abandoned t).done + (as_abandoned t).abandoned ≡ t.done + t.abandoned + 1
unfolding as_abandoned
abandoned-more t h = rw (counted-more t.abandoned (omega arith)) (omega arith)

done_more : (t : Tried) → t.done + t.abandoned < 1000 → (as_done t).done + (as_done t).abandoned ≡ t.done + t.abandoned + 1
unfolding as_done
done_more t h = rw (counted-more t.done (omega arith)) (omega arith)

pub played-more : (ps : List ℕ) (b : ℕ) (t : Tried) → t.done + t.abandoned < 1000 → (played ps b t).done + (played ps b t).abandoned ≡ t.done + t.abandoned + 1
unfolding played
played-more ps b t h =
    let u = committed (put_all b ps (made Begin t)) in
    let v = made Abort u in
    let d : u.done ≡ t.done = round_same (λ (w : Tried). w.done) made-done ps b t in
    let a : u.abandoned ≡ t.abandoned = round_same (λ (w : Tried). w.abandoned) made-abandoned ps b t in
    row_keeps (λ (w : Tried). w.done + w.abandoned ≡ t.done + t.abandoned + 1) (eqb u.number 0) (as_done u) (as_abandoned v)
    (omega (arith, done_more u (omega (arith, d, a)), d, a))
    (omega (arith, abandoned-more v (omega (arith, made-done Abort u, made-abandoned Abort u, d, a)), made-done Abort u, made-abandoned Abort u, d, a))

counted-some : (n : ℕ) → counted n ≡ 0 → ⊥
counted-some n e =
    case_on (ltb n 1000)
    (λ t. let z : n + 1 ≡ 0 = rw t at e in omega arith)
    (λ t. let z : n ≡ 0 = rw t at e in omega (arith, ltb-false n 1000 t))

pub abandoned-some : (t : Tried) → (as_abandoned t).abandoned ≡ 0 → ⊥
unfolding as_abandoned
abandoned-some t e = counted-some t.abandoned e

-- none is abandoned after a round: so none was before it, and it was done
pub record Done (ps : List ℕ) (b : ℕ) (t : Tried) : Type 0 where
  pub before : t.abandoned ≡ 0
  pub number : (committed (put_all b ps (made Begin t))).number ≡ 0
  pub same : (played ps b t).world ≡ (committed (put_all b ps (made Begin t))).world

pub round-done : (ps : List ℕ) (b : ℕ) (t : Tried) → (played ps b t).abandoned ≡ 0 → Done ps b t
unfolding played as_done
round-done ps b t =
    let u = committed (put_all b ps (made Begin t)) in
    let kept : u.abandoned ≡ t.abandoned = round_same (λ (w : Tried). w.abandoned) made-abandoned ps b t in
    case_on (eqb u.number 0)
    (λ e h.
    let k : u.abandoned ≡ 0 = rw e at h in
    record { before = sym kept ∙ k; number = eqb-true u.number 0 e; same = rw e })
    (λ e h.
    let k : (as_abandoned (made Abort u)).abandoned ≡ 0 = rw e at h in
    absurd (abandoned-some (made Abort u) k))

-- ---- the reference machine through a round

-- the bytes of a round among the unfinished writes
unfoldable wrote_all : ℕ → List ℕ → (ℕ → ℕ → ℕ → Cell) → ℕ → ℕ → ℕ → Cell
wrote_all x [] s = s
wrote_all x (p ∷ ps) s = wrote_all x ps (wrote p x s)

pub byte-lent : (x : ℕ) → x < 256 → Bytes (x ∷ [])
byte-lent x h zero = h
byte-lent x h (suc i) = omega arith

abbrev At : Sizes → List ℕ → (ℕ → ℕ → ℕ → ℕ) → Tried → (ℕ → ℕ → ℕ → Cell) → Type 0
At z past f t s = Stands z past t.world f s

-- with the unfinished writes laid on the pages
abbrev Laid : Sizes → List ℕ → (ℕ → ℕ → ℕ → ℕ) → (ℕ → ℕ → ℕ → Cell) → Tried → Type 0
Laid z past f s t = Stands z past t.world (λ p l i. laid_over (s p l i) (f p l i)) no_writes

module _ {z : Sizes} {past : List ℕ} {f : ℕ → ℕ → ℕ → ℕ} where
  made-refused : {s : ℕ → ℕ → ℕ → Cell} (a : Ask) → Lent (call_of a) → (t : Tried) → At z past f t s → ((made a t).number ≡ 0 → ⊥) → At z past f (made a t) s
  unfolding made
  made-refused a lent t st h = stands-refused st (call_of a) lent h

  made-begin : {s : ℕ → ℕ → ℕ → Cell} (t : Tried) → At z past f t s → At z past f (made Begin t) s
  unfolding made
  made-begin t st = stands-begin st

  made-free : {s : ℕ → ℕ → ℕ → Cell} (t : Tried) → At z past f t s → At z past f (made Free t) s
  unfolding made
  made-free t st = stands-free st

  made-checkpoint : {s : ℕ → ℕ → ℕ → Cell} (t : Tried) → At z past f t s → At z past f (made Checkpoint t) s
  unfolding made
  made-checkpoint t st = stands-checkpoint st

  made-write : {s : ℕ → ℕ → ℕ → Cell} (p x : ℕ) → x < 256 → (t : Tried) → At z past f t s → (made (Write p x) t).number ≡ 0 → At z past f (made (Write p x) t) (wrote p x s)
  unfolding made
  made-write p x low t st h = stands-write st p x (byte-lent x low) h

  -- on 19 the call changes nothing, and a checkpoint does not either
  room-free : {s : ℕ → ℕ → ℕ → Cell} (t : Tried) → At z past f t s → At z past f (with_room Free t) s
  unfolding with_room
  room-free {s} t st =
      row_keeps (λ (u : Tried). At z past f u s) (eqb (made Free t).number 19) (made Free (made Checkpoint (made Free t))) (made Free t)
      (made-free (made Checkpoint (made Free t)) (made-checkpoint (made Free t) (made-free t st))) (made-free t st)

  put-stands : {s : ℕ → ℕ → ℕ → Cell} (x p : ℕ) → x < 256 → (t : Tried) → At z past f t s → (put x p t).number ≡ 0 → At z past f (put x p t) (wrote p x s)
  unfolding put
  put-stands {s} x p low t st =
      let u = made (Write p x) t in
      let g = with_room Free u in
      let P : Tried → Type 0 = λ w. w.number ≡ 0 → At z past f w (wrote p x s) in
      row-splits P (eqb u.number 15) (cond (eqb g.number 0) (made (Write p x) g) g) u
      (λ e.
      let full : u.number ≡ 0 → ⊥ = λ n. let q : u.number ≡ 15 = eqb-true u.number 15 e in omega arith in
      let k : At z past f g s = room-free u (made-refused (Write p x) (byte-lent x low) t st full) in
      row-splits P (eqb g.number 0) (made (Write p x) g) g (λ d n. made-write p x low g k n) (λ d n. absurd (eqb-false g.number 0 d n)))
      (λ e n. made-write p x low t st n)

  all-stands : {s : ℕ → ℕ → ℕ → Cell} (x : ℕ) → x < 256 → (ps : List ℕ) (t : Tried) → At z past f t s → (put_all x ps t).number ≡ 0 → At z past f (put_all x ps t) (wrote_all x ps s)
  unfolding put_all wrote_all
  all-stands x low [] t st = λ n. st
  all-stands {s} x low (p ∷ ps) t st =
      let u = put x p t in
      row-splits (λ w. w.number ≡ 0 → At z past f w (wrote_all x ps (wrote p x s))) (eqb u.number 0) (put_all x ps u) u
      (λ e n. all-stands {s = wrote p x s} x low ps u (put-stands x p low t st (eqb-true u.number 0 e)) n)
      (λ e n. absurd (eqb-false u.number 0 e n))

module _ {z : Sizes} {past : List ℕ} {f : ℕ → ℕ → ℕ → ℕ} {s : ℕ → ℕ → ℕ → Cell} where
  made-commit : (t : Tried) → Stands z past t.world f s → (made Commit t).number ≡ 0 → Laid z past f s (made Commit t)
  unfolding made
  made-commit t st h = stands-commit st h

  committed-stands : (t : Tried) → (t.number ≡ 0 → Stands z past t.world f s) → (committed t).number ≡ 0 → Laid z past f s (committed t)
  unfolding committed with_room
  committed-stands t g =
      let P : Tried → Type 0 = λ w. w.number ≡ 0 → Laid z past f s w in
      let u = made Commit t in
      row-splits P (eqb t.number 0) (with_room Commit t) t
      (λ e.
      let st = g (eqb-true t.number 0 e) in
      row-splits P (eqb u.number 19) (made Commit (made Checkpoint u)) u
      (λ d n.
      let full : u.number ≡ 0 → ⊥ = λ m. let q : u.number ≡ 19 = eqb-true u.number 19 d in omega arith in
      made-commit (made Checkpoint u) (made-checkpoint u (made-refused Commit tt t st full)) n)
      (λ d n. made-commit t st n))
      (λ e n. absurd (eqb-false t.number 0 e n))

-- ---- the bytes, by page, line and offset

-- one page more
wrote_one : (p x : ℕ) (s : ℕ → ℕ → ℕ → Cell) (q m i : ℕ) → wrote p x s q m i ≡ cond (eqb q p && eqb m 0 && eqb i 0) (byte x) (s q m i)
wrote_one p x s q m zero = case_on (eqb q p) (λ a. case_on (eqb m 0) (λ b. rw (a, b)) (λ b. rw (a, b))) (λ a. rw a)
wrote_one p x s q m (suc i) =
    let low : ltb (suc i) (0 + 1) ≡ false = le-ltb (suc i) (0 + 1) (omega arith) in
    let from : leb 0 (suc i) ≡ true = le-leb 0 (suc i) (omega arith) in
    let some : eqb (suc i) 0 ≡ false = ne_eqb (suc i) 0 (λ e. omega arith) in
    case_on (eqb q p) (λ a. case_on (eqb m 0) (λ b. rw (a, b, low, from, some)) (λ b. rw (a, b))) (λ a. rw a)

wrote-all : (x : ℕ) (ps : List ℕ) (s : ℕ → ℕ → ℕ → Cell) (q m i : ℕ) → wrote_all x ps s q m i ≡ cond (is_listed ps q && eqb m 0 && eqb i 0) (byte x) (s q m i)
unfolding wrote_all is_listed
wrote-all x [] s q m i = refl
wrote-all x (p ∷ ps) s q m i =
    wrote-all x ps (wrote p x s) q m i
    ∙ ap (λ (c : Cell). cond (is_listed ps q && eqb m 0 && eqb i 0) (byte x) c) (wrote_one p x s q m i)
    ∙ joined (is_listed ps q) (eqb q p) (eqb m 0) (eqb i 0)
  where
    joined : (a b c d : Bool) → cond (a && c && d) (byte x) (cond (b && c && d) (byte x) (s q m i)) ≡ cond ((b || a) && c && d) (byte x) (s q m i)
    joined true true true true = refl
    joined true true true false = refl
    joined true true false d = refl
    joined true false true true = refl
    joined true false true false = refl
    joined true false false d = refl
    joined false true c d = refl
    joined false false c d = refl

laid-cond : (a : Bool) (x y : ℕ) → laid_over (cond a (byte x) none) y ≡ cond a x y
laid-cond true x y = refl
laid-cond false x y = refl

-- a round that is done
pub round-stands : {z : Sizes} {past : List ℕ} {f : ℕ → ℕ → ℕ → ℕ} (ps : List ℕ) (b : ℕ) → b < 256 → (t : Tried) → Stands z past t.world f no_writes
    → (played ps b t).abandoned ≡ 0 → Stands z past (played ps b t).world (marked ps b f) no_writes
round-stands {z} {past} {f} ps b low t st h =
    let d = round-done ps b t h in
    let begun = made Begin t in
    let done : Stands z past (committed (put_all b ps begun)).world (λ p l i. laid_over (wrote_all b ps no_writes p l i) (f p l i)) no_writes =
    committed-stands (put_all b ps begun) (λ n. all-stands b low ps begun (made-begin t st) n) d.number in
    rw d.same
    (stands-as done (λ p l i. ap (λ (c : Cell). laid_over c (f p l i)) (wrote-all b ps no_writes p l i) ∙ laid-cond (is_listed ps p && eqb l 0 && eqb i 0) b (f p l i)))
