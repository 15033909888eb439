-- How a round ends, by the numbers that its calls can be answered.
use Prim.Native.Nat.{ℕ, ◌%◌, ◌<◌, ◌≤◌}
use mathlib.Core.Bool.{Bool, true, false, cond, not, ◌||◌}
use mathlib.Core.List.{List, [], ◌∷◌}
use mathlib.Core.Logic.{◌⊎◌, ⊎_elim, inl, inr}
use mathlib.Core.Path.{◌≡◌, refl, sym, ap, subst}
use native.Mathlib.Omega.{arith}
use lib.Dec.{ltb, eqb}
use lib.ListN.{length, take, drop, get_or-replicate}
use borrow.Author.Tests.{eqb-true, eqb-false, ne_eqb, ltb-false, not-false}
use Rattle.bounded.proofs.Rows.{none-apply}
use Rattle.bounded.proofs.Tests.{case_on, contradicts, row_keeps}
use Rattle.layout.specs.declared.Sizes.{Sizes}
use Rattle.layout.specs.Layout.{sizes_ok, image_length}
use Rattle.words.specs.Words.{Bytes}
use Rattle.state.specs.Slots.{free_after}
use Rattle.fresh.specs.Fresh.{format_rows}
use Rattle.refinement.specs.Mount.{format_call}
use Rattle.refinement.specs.Run.{commit, formatted_world}
use Rattle.refinement.specs.Reference.{blank}
use Rattle.refinement.proofs.Reached.{reached-first}
use Rattle.trials.specs.declared.Ask.TheVariants.{Begin, Write, Free, Checkpoint, Commit, Abort}
use Rattle.trials.specs.Trials.{Tried, made, with_room, put, put_all, committed, as_done, as_abandoned, played}
use Rattle.trial_lines.specs.Lines.{Work, first, numbers_of, sizes_of, is_round, with_round, acted, act}
use Rattle.trial_laws.specs.Pages.{after}
use Rattle.trial_laws.specs.Ends.{last_of, Stopped, by-write, by-freeing, Ends, RoundsEnd}
use Rattle.trial_laws.proofs.Alone.{Alone, begin-taken, abort-taken, checkpoint-taken, commit-known, commit-room, free-known, free-room, write_known, write-outside, write-inside, write-taken}
use Rattle.trial_laws.proofs.Complete.{begin-alone, abort-alone, checkpoint-ends, checkpoint-alone, free-alone, free-some, commit-alone, write_alone, refused-alone}
use Rattle.trial_laws.proofs.Round.{row-splits, byte-lent}
use Rattle.trial_laws.proofs.Theorem.{fresh, first_taken}

-- a number that is one of two or three
one_of_two : (n k : ℕ) → not (eqb n 0 || eqb n k) ≡ false → eqb n k ≡ false → n ≡ 0
one_of_two n k e f = case_on (eqb n 0) (λ t. eqb-true n 0 t) (λ t. let z : not false ≡ false = rw (t, f) at e in contradicts refl z)

one_of_three : (n j k : ℕ) → not (eqb n 0 || (eqb n j || eqb n k)) ≡ false → eqb n j ≡ false → (n ≡ 0) ⊎ (n ≡ k)
one_of_three n j k e f =
    case_on (eqb n 0)
    (λ t. inl (eqb-true n 0 t))
    (λ t.
    case_on (eqb n k)
    (λ u. inr (eqb-true n k u))
    (λ u. let z : not false ≡ false = rw (t, f, u) at e in contradicts refl z))

abbrev SomeFree : Tried → Type 0
SomeFree t = let s = t.world.st in free_after s.sizes s.table.page s.next < s.sizes.slots

module _ (z : Sizes) (past : List ℕ) where
  abbrev At : Bool → Tried → Type 0
  At mine t = Alone z past mine t.world

  -- ---- the calls

  made-begin : (t : Tried) → At false t → ((made Begin t).number ≡ 0) × At true (made Begin t)
  unfolding made
  made-begin t a = let n = begin-taken a in (n, begin-alone a n)

  made-abort : (t : Tried) → At true t → ((made Abort t).number ≡ 0) × At false (made Abort t)
  unfolding made
  made-abort t a = let n = abort-taken a in (n, abort-alone a n)

  made-checkpoint : (t : Tried) → At true t → At true (made Checkpoint t) × ((made Checkpoint t).world.st.head ≡ (made Checkpoint t).world.st.tail)
  unfolding made
  made-checkpoint t a =
      let n = checkpoint-taken a in
      (checkpoint-alone a n, rw (checkpoint-ends a n))

  -- the freeing of a slot: taken, or no slot may be freed
  record Freed (t : Tried) : Type 0 where
    alone : At true t
    last : ((t.number ≡ 0) × SomeFree t) ⊎ ((t.number ≡ 22) × ((u : Tried) × (t ≡ made Free u)))

  made-free : (t : Tried) → At true t → eqb (made Free t).number 19 ≡ false → Freed (made Free t)
  unfolding made
  made-free t a n =
      record {
        alone = free-alone a;
        last = ⊎_elim (λ e. inl (e, free-some a e)) (λ e. inr (e, (t, refl))) (one_of_three (made Free t).number 19 22 (free-known a) n);
      }

  free_stays : (t : Tried) → At true t → At true (made Free t)
  unfolding made
  free_stays t a = free-alone a

  free-fits : (t : Tried) → At true t → t.world.st.head ≡ t.world.st.tail → eqb (made Free t).number 19 ≡ false
  unfolding made
  free-fits t a e = free-room a e

  room-free : (t : Tried) → At true t → Freed (with_room Free t)
  unfolding with_room
  room-free t a =
      let u = made Free t in
      let w = made Checkpoint u in
      row-splits Freed (eqb u.number 19) (made Free w) u
      (λ e. let c = made-checkpoint u (free_stays t a) in made-free w c.0 (free-fits w c.0 c.1))
      (λ e. made-free t a e)

  -- the commit
  made-commit : (t : Tried) → At true t → (made Commit t).number ≡ 0 → At false (made Commit t)
  unfolding made
  made-commit t a n = commit-alone a n

  commit-stays : (t : Tried) → At true t → eqb (made Commit t).number 19 ≡ true → At true (made Commit t)
  unfolding made
  commit-stays t a e = refused-alone a (commit 0) tt (λ n. let q : (made Commit t).number ≡ 19 = eqb-true (made Commit t).number 19 e in omega arith)

  commit-fits : (t : Tried) → At true t → t.world.st.head ≡ t.world.st.tail → (made Commit t).number ≡ 0
  unfolding made
  commit-fits t a e = commit-room a e

  commit-number : (t : Tried) → At true t → eqb (made Commit t).number 19 ≡ false → (made Commit t).number ≡ 0
  unfolding made
  commit-number t a e = one_of_two (made Commit t).number 19 (commit-known a) e

  room-commit : (t : Tried) → At true t → ((with_room Commit t).number ≡ 0) × At false (with_room Commit t)
  unfolding with_room
  room-commit t a =
      let u = made Commit t in
      let w = made Checkpoint u in
      row-splits (λ (x : Tried). (x.number ≡ 0) × At false x) (eqb u.number 19) (made Commit w) u
      (λ e. let c = made-checkpoint u (commit-stays t a e) in let n = commit-fits w c.0 c.1 in (n, made-commit w c.0 n))
      (λ e. let n = commit-number t a e in (n, made-commit t a n))

  -- ---- a page, and the pages one after the other

  module _ (b : ℕ) (low : b < 256) where
    record Goes (t : Tried) : Type 0 where
      alone : At true t
      last : (t.number ≡ 0) ⊎ Stopped z.pages b t

    made-write : (p : ℕ) (t : Tried) → At true t → At true (made (Write p b) t)
    unfolding made
    made-write p t a = write_alone a p b (byte-lent b low)

    pages-of : (t : Tried) → At true t → t.world.st.sizes.pages ≡ z.pages
    pages-of t a = ap (λ (y : Sizes). y.pages) a.reached.sizes

    -- it is not turned back with 15
    write_goes : (p : ℕ) (t : Tried) → At true t → eqb (made (Write p b) t).number 15 ≡ false → Goes (made (Write p b) t)
    unfolding made
    write_goes p t a e =
        let n = (made (Write p b) t).number in
        record {
          alone = write_alone a p b (byte-lent b low);
          last =
              ⊎_elim (λ q. inl q) (λ q. inr (by-write t p refl q (subst (λ (k : ℕ). k ≤ p) (pages-of t a) (write-outside a p b q))))
              (one_of_three n 15 11 (write_known a p b) e);
        }

    -- it is, and a slot was freed
    write_again : (p : ℕ) (t f : Tried) → At true t → (made (Write p b) t).number ≡ 15 → At true f → SomeFree f → (made (Write p b) f).number ≡ 0
    unfolding made
    write_again p t f a e c some =
        let l = write-inside a p b e in
        write-taken c p b (omega (arith, l, pages-of t a, pages-of f c)) some

    put-goes : (p : ℕ) (t : Tried) → At true t → Goes (put b p t)
    unfolding put
    put-goes p t a =
        let u = made (Write p b) t in
        let f = with_room Free u in
        let g = room-free u (made-write p t a) in
        row-splits Goes (eqb u.number 15) (cond (eqb f.number 0) (made (Write p b) f) f) u
        (λ e.
        ⊎_elim
        (λ h.
        let n = write_again p t f a (eqb-true u.number 15 e) g.alone h.1 in
        let k : eqb f.number 0 ≡ true = ap (λ (m : ℕ). eqb m 0) h.0 in
        rw k (record { alone = made-write p f g.alone; last = inl n }))
        (λ h.
        let k : eqb f.number 0 ≡ false = ap (λ (m : ℕ). eqb m 0) h.0 in
        rw k (record { alone = g.alone; last = inr (by-freeing h.1.0 h.1.1 h.0) }))
        g.last)
        (λ e. write_goes p t a e)

    all-goes : (ps : List ℕ) (t : Tried) → At true t → t.number ≡ 0 → Goes (put_all b ps t)
    unfolding put_all
    all-goes [] t a n = record { alone = a; last = inl n }
    all-goes (p ∷ ps) t a n =
        let u = put b p t in
        let g = put-goes p t a in
        row-splits Goes (eqb u.number 0) (put_all b ps u) u
        (λ e. all-goes ps u g.alone (eqb-true u.number 0 e))
        (λ e. g)

    -- ---- a round

    last-ends : (ps : List ℕ) (t : Tried) → At false t
        → (((last_of ps b t).number ≡ 0) × At false (last_of ps b t)) ⊎ (Stopped z.pages b (last_of ps b t) × At true (last_of ps b t))
    unfolding committed
    last-ends ps t a =
        let begun = made-begin t a in
        let u = put_all b ps (made Begin t) in
        let g = all-goes ps (made Begin t) begun.1 begun.0 in
        row-splits (λ (x : Tried). ((x.number ≡ 0) × At false x) ⊎ (Stopped z.pages b x × At true x)) (eqb u.number 0) (with_room Commit u) u
        (λ e. inl (room-commit u g.alone))
        (λ e. ⊎_elim (λ n. absurd (eqb-false u.number 0 e n)) (λ s. inr (s, g.alone)) g.last)

    round-ends : (ps : List ℕ) (t : Tried) → At false t → Ends z.pages ps b t
    round-ends ps t a =
        let u = last_of ps b t in
        ⊎_elim
        (λ h. record { last = inl h.0; aborted = λ n. absurd (n h.0) })
        (λ h. record { last = inr h.0; aborted = λ n. (made-abort u h.1).0 })
        (last-ends ps t a)

    stopped-some : {t : Tried} → Stopped z.pages b t → t.number ≡ 0 → ⊥
    stopped-some (by-write u p e n l) m = omega arith
    stopped-some (by-freeing u e n) m = omega arith

    played-closed : (ps : List ℕ) (t : Tried) → At false t → At false (played ps b t)
    unfolding played as_done as_abandoned
    played-closed ps t a =
        let u = last_of ps b t in
        ⊎_elim
        (λ h. let k : eqb u.number 0 ≡ true = ap (λ (m : ℕ). eqb m 0) h.0 in rw k h.1)
        (λ h. let k : eqb u.number 0 ≡ false = ne_eqb u.number 0 (stopped-some h.0) in rw k (made-abort u h.1).1)
        (last-ends ps t a)

  -- ---- lines

  line-closed : (w : Work) (line : List ℕ) → At false w.tried → At false (with_round (numbers_of line) w).tried
  unfolding with_round as_abandoned
  line-closed w line a =
      let q = numbers_of line in
      row_keeps (At false) (is_round q) (played (take q.count q.numbers) (w.lines % 256) w.tried) (as_abandoned w.tried)
      (played-closed (w.lines % 256) (omega arith) (take q.count q.numbers) w.tried a) a

  -- past the first line a setting stands
  act-closed : (w : Work) (line : List ℕ) → 1 ≤ w.lines → At false w.tried → (1 ≤ (act w line).lines) × At false (act w line).tried
  unfolding acted with_round
  act-closed w line some a =
      let q = numbers_of line in
      let k : eqb w.lines 0 ≡ false = ne_eqb w.lines 0 (λ e. omega arith) in
      rw k
      (row_keeps (λ (u : Work). (1 ≤ u.lines) × At false u.tried) (not w.set || ltb 1000 w.lines) w (with_round q w)
      (some, a) (omega arith, line-closed w line a))

  after-closed : (lines : List (List ℕ)) (w : Work) → 1 ≤ w.lines → At false w.tried → At false (after lines w).tried
  unfolding after
  after-closed [] w some a = a
  after-closed (line ∷ lines) w some a = let n = act-closed w line some a in after-closed lines (act w line) n.0 n.1

-- a format that is taken
format-alone : (z : Sizes) (buffer : List ℕ) → Bytes buffer → (format_call z buffer).number ≡ 0
    → Alone z (drop (image_length z) buffer) false (formatted_world z buffer)
unfolding format_call
format-alone z buffer bytes e =
    let none = none-apply (format_rows z (length buffer)) (omega arith, (omega arith, tt)) e in
    record {
      machine = blank;
      reached = reached-first z (not-false (sizes_ok z) none.0) buffer bytes (ltb-false (length buffer) (image_length z) none.1.0);
      idle = rw e;
      only = rw e (record { opened = refl; others = λ w l h. get_or-replicate 4 w false false h; unprepared = refl; narrow = refl });
    }

pub rounds-end : RoundsEnd
rounds-end buffer setting rounds bytes taken ps b low =
    let z = sizes_of (numbers_of setting) in
    let t = first_taken buffer setting taken in
    let w = fresh z buffer in
    let past = drop (image_length z) buffer in
    let a = after-closed z past rounds w (omega arith) (format-alone z buffer bytes t.number) in
    subst (λ (u : Work). Ends z.pages ps b (after rounds u).tried) (sym t.same) (round-ends z past b low ps (after rounds w).tried a)
