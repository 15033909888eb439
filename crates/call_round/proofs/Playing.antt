-- The calls of a round, one after the other.
use Rattle.std.proofs.Common.{◌≡◌, ℕ, suc, ◌+◌, ◌-◌, ◌%◌, ◌^◌, ◌<◌, ◌≤◌, min, Bool, true, false, ◌&&◌, eqb, leb, List, [], ◌∷◌, length, get_or, take, drop, sym, refl, ap, ◌∙◌, arith, length-drop, drop_of_length-le, take_all, drop-cons, drop-drop, eq-eqb, ne_eqb, leb-false, leb-true}
use mathlib.Core.Bool.{and-false}
use Rattle.bounded.proofs.Tests.{case_on, row_keeps}
use Rattle.refinement.specs.Stores.{World}
use Rattle.refinement.specs.Run.{Call, checkpoint, free, begin, abort, commit, write, Result, exec}
use Rattle.answers.specs.Answers.{Answer}
use Rattle.answers.specs.Answers.{number_of, stores_of}
use Rattle.call_round.specs.declared.Room.{Room}
use Rattle.call_round.specs.declared.Round.{Round}
use Rattle.call_round.specs.Round.{to_end, Finishes, Played, played_of, made, next, with_journal, put, put_all, committed, closed, unplayed, round_of}

-- ---- a call

-- what is told of a call
abbrev telling : Played → Result → Played
telling t d = record { world = d.world; number = d.number; call = t.call; stores = (t.stores + d.stores) % 2 ^ 64 }

pub call-made : (c : Call) (t r : Round) (words img : List ℕ) (a : Answer) (words' img' : List ℕ) → Finishes c words img a words' img'
    → r ≡ record { number = number_of a; call = t.call; stores = (t.stores + stores_of a) % 2 ^ 64 }
    → played_of r words' img' ≡ made c (played_of t words img)
unfolding made
call-made c t r words img a words' img' e h = rw h (ap (telling (played_of t words img)) e)

-- the first call of the list is number 0
pub begun-call : (c : Call) (v : World) (b : Played) → b ≡ made c (unplayed v) → b.call ≡ 0
unfolding made
begun-call c v b e = ap (λ (t : Played). t.call) e

-- ---- room in the journal

module _ (b : Bool) (c : Call) (x y : Played) (e : y ≡ made c x) where
  pub journal-unasked : b ≡ false → y ≡ with_journal b c x
  unfolding with_journal
  journal-unasked h = rw (← e, h)

  pub journal-enough : (y.number ≡ 19 → ⊥) → y ≡ with_journal b c x
  unfolding with_journal
  journal-enough h = rw (← e, ne_eqb y.number 19 h, and-false b)

  pub journal-emptied : b ≡ true → y.number ≡ 19 → (z w : Played) → z ≡ made checkpoint y → w ≡ made c z → w ≡ with_journal b c x
  unfolding with_journal
  journal-emptied t h z w f g = rw (← e, t, eq-eqb y.number 19 h, ← f) g

-- ---- a write

module _ (r : Room) (c : Call) (x u : Played) (e : u ≡ made c x) where
  pub put-unasked : r.free ≡ false → u ≡ put r c x
  unfolding put
  put-unasked h = rw (← e, h)

  pub put-plain : (u.number ≡ 15 → ⊥) → u ≡ put r c x
  unfolding put
  put-plain h = rw (← e, ne_eqb u.number 15 h, and-false r.free)

  module _ (t : r.free ≡ true) (h : u.number ≡ 15) (f : Played) (g : f ≡ with_journal r.checkpoint free u) where
    pub put-stuck : (f.number ≡ 0 → ⊥) → f ≡ put r c x
    unfolding put
    put-stuck k = rw (← e, t, eq-eqb u.number 15 h, ← g, ne_eqb f.number 0 k)

    pub put-freed : f.number ≡ 0 → (w : Played) → w ≡ made c f → w ≡ put r c x
    unfolding put
    put-freed k w i = rw (← e, t, eq-eqb u.number 15 h, ← g, eq-eqb f.number 0 k) i

-- it is the same call of the list, however often it is made
pub put-call : (r : Room) (c : Call) (x : Played) → (put r c x).call ≡ x.call
unfolding put with_journal made
put-call r c x =
    let same : Played → Type 0 = λ t. t.call ≡ x.call in
    let u = made c x in
    let f = with_journal r.checkpoint free u in
    let freed : same f = row_keeps same (r.checkpoint && eqb (made free u).number 19) (made free (made checkpoint (made free u))) (made free u) refl refl in
    row_keeps same (r.free && eqb u.number 15) _ u (row_keeps same (eqb f.number 0) (made c f) f freed freed) refl

-- ---- the writes: a loop has come to word k of the list and byte a of the data

one_more : (ws : List ℕ) (j m : ℕ) → j < length ws → m ≡ suc j → drop j ws ≡ get_or ws j 0 ∷ drop m ws
one_more ws j m h e = rw e (drop-cons ws j 0 h)

four-more : (ws : List ℕ) (k : ℕ) → k + 4 ≤ length ws
    → drop k ws ≡ get_or ws k 0 ∷ get_or ws (k + 1) 0 ∷ get_or ws (k + 2) 0 ∷ get_or ws (k + 3) 0 ∷ drop (k + 4) ws
four-more ws k h =
    one_more ws k (k + 1) (omega arith) (omega arith)
    ∙ ap (λ (l : List ℕ). get_or ws k 0 ∷ l) (one_more ws (k + 1) (k + 2) (omega arith) (omega arith))
    ∙ ap (λ (l : List ℕ). get_or ws k 0 ∷ get_or ws (k + 1) 0 ∷ l) (one_more ws (k + 2) (k + 3) (omega arith) (omega arith))
    ∙ ap (λ (l : List ℕ). get_or ws k 0 ∷ get_or ws (k + 1) 0 ∷ get_or ws (k + 2) 0 ∷ l) (one_more ws (k + 3) (k + 4) (omega arith) (omega arith))

-- a part from a on is the rest
pub rest-is : (l : List ℕ) (a : ℕ) → take (length l - a) (drop a l) ≡ drop a l
rest-is l a = take_all (length l - a) (drop a l) (omega (arith, length-drop a l))

-- the bytes of a write passed over, of those that are left
pub passed_over : (l : List ℕ) (a n m : ℕ) → a ≤ length l → m ≡ min n (length l - a) → drop (a + m) l ≡ drop n (drop a l)
passed_over l a n m h e =
    case_on (leb n (length l - a))
    (λ t. let few : n ≤ length l - a = leb-true n (length l - a) t in let q : m ≡ n = omega arith in rw q (sym (drop-drop n a l)))
    (λ t.
    let many : length l - a < n = leb-false n (length l - a) t in
    drop_of_length-le l {i = a + m} (omega arith) ∙ sym (drop_of_length-le (drop a l) {i = n} (omega (arith, length-drop a l))))

module _ (r : Room) (w : ℕ) (ws bytes : List ℕ) (k a : ℕ) (x end : Played) (i : put_all r w (drop k ws) (drop a bytes) x ≡ end) where
  module _ (u : Played) (h : k + 4 ≤ length ws)
      (e : u ≡ put r (write w (get_or ws k 0) (get_or ws (k + 1) 0) (get_or ws (k + 2) 0) (get_or ws (k + 3) 0) (drop a bytes)) (next x)) where
    pub all_more : u.number ≡ 0 → put_all r w (drop (k + 4) ws) (drop (get_or ws (k + 3) 0) (drop a bytes)) u ≡ end
    unfolding put_all
    all_more n = rw (four-more ws k h, ← e, eq-eqb u.number 0 n) at i

    pub all-stop : (u.number ≡ 0 → ⊥) → u ≡ end
    unfolding put_all
    all-stop n = rw (four-more ws k h, ← e, ne_eqb u.number 0 n) at i

-- fewer than four words are no write
short : (r : Room) (w : ℕ) (l bytes : List ℕ) (x : Played) → length l < 4 → put_all r w l bytes x ≡ x
unfolding put_all
short r w [] bytes x h = refl
short r w (p ∷ []) bytes x h = refl
short r w (p ∷ l ∷ []) bytes x h = refl
short r w (p ∷ l ∷ o ∷ []) bytes x h = refl
short r w (p ∷ l ∷ o ∷ n ∷ more) bytes x h = absurd (omega arith)

pub all_end : (r : Room) (w : ℕ) (ws bytes : List ℕ) (k a : ℕ) (x end : Played) → put_all r w (drop k ws) (drop a bytes) x ≡ end → length ws - k < 4 → x ≡ end
all_end r w ws bytes k a x end i h = sym (short r w (drop k ws) (drop a bytes) x (omega (arith, length-drop k ws))) ∙ i

-- ---- the end of a round

pub not-committed : (r : Room) (w : ℕ) (x : Played) → (x.number ≡ 0 → ⊥) → x ≡ committed r w x
unfolding committed
not-committed r w x h = rw (ne_eqb x.number 0 h)

pub is-committed : (r : Room) (w : ℕ) (x y : Played) → x.number ≡ 0 → y ≡ with_journal r.checkpoint (commit w) (next x) → y ≡ committed r w x
unfolding committed
is-committed r w x y h e = rw (eq-eqb x.number 0 h) e

module _ (r : Room) (w : ℕ) (ws bytes : List ℕ) (v : World) (b : Played) (begun : b ≡ made (begin w) (unplayed v)) where
  pub not-begun : (b.number ≡ 0 → ⊥) → b ≡ round_of r w ws bytes v
  unfolding round_of
  not-begun h = rw (← begun, ne_eqb b.number 0 h)

  module _ (h : b.number ≡ 0) (y u : Played) (all : y ≡ put_all r w ws bytes b) (end : u ≡ committed r w y) where
    pub round-taken : u.number ≡ 0 → u ≡ round_of r w ws bytes v
    unfolding round_of closed
    round-taken k = rw (← begun, eq-eqb b.number 0 h, ← all, ← end, eq-eqb u.number 0 k)

    pub round-refused : (u.number ≡ 0 → ⊥) → (after : World) → after ≡ (to_end (exec (abort w) u.world)).world
        → record { world = after; number = u.number; call = u.call; stores = u.stores } ≡ round_of r w ws bytes v
    unfolding round_of closed
    round-refused k after e = rw (← begun, eq-eqb b.number 0 h, ← all, ← end, ne_eqb u.number 0 k, e)
