-- The ends of lines, and what a line keeps of a piece.
use mathlib.Core.Path.{◌≡◌, refl, sym, ap, ◌∙◌}
use mathlib.Core.List.{List, [], ◌∷◌, ◌++◌}
use Prim.Native.Nat.{ℕ, zero, suc, ◌+◌, ◌-◌, ◌<◌, ◌≤◌, min}
use native.Mathlib.Omega.{arith}
use lib.Dec.{eqb}
use lib.ListN.{length, get_or, take, drop, length-take, length-drop, drop_of_length-le}
use lib.Seq.{take-length, drop-drop, drop-cons}
use mathlib.Core.Bool.{true, false}
use borrow.Author.Tests.{eq-eqb, ne_eqb}
use Rattle.std.proofs.lemmas.List.{get_or-take}
use Rattle.bounded.proofs.Tests.{case_on}
use Rattle.cutting.specs.Finding.{index_of, index_after, slice}
use Rattle.words.specs.Words.{part, over}
use Rattle.words.proofs.Parts.{over-nil, over-back}
use Rattle.cutting.specs.Pieces.{line_end, fitting}

-- ---- one byte

slice-more : (l : List ℕ) (at to : ℕ) → at < to → to ≤ length l → slice at to l ≡ get_or l at 0 ∷ slice (at + 1) to l
unfolding slice
slice-more l at to h k =
    let e : at < length (take to l) = simp length-take (omega arith) in
    drop-cons (take to l) at 0 e
    ∙ ap (λ (x : ℕ). x ∷ drop (suc at) (take to l)) (get_or-take to l at 0 h)
    ∙ (let n : suc at ≡ at + 1 = omega arith in ap (λ (n : ℕ). get_or l at 0 ∷ drop n (take to l)) n)

-- it stands here,
pub stands_here : (b : ℕ) (l : List ℕ) (at to : ℕ) → at < to → to ≤ length l → get_or l at 0 ≡ b → at ≡ at + index_of b (slice at to l)
unfolding index_of index_after
stands_here b l at to h k e =
    let q : eqb (get_or l at 0) b ≡ true = eq-eqb _ _ e in
    rw (slice-more l at to h k, q) (omega arith)

-- or further on,
pub stands_later : (b : ℕ) (l : List ℕ) (at to : ℕ) → at < to → to ≤ length l → (get_or l at 0 ≡ b → ⊥) → at + index_of b (slice at to l) ≡ at + 1 + index_of b (slice (at + 1) to l)
unfolding index_of index_after
stands_later b l at to h k e =
    let q : eqb (get_or l at 0) b ≡ false = ne_eqb _ _ e in
    rw (slice-more l at to h k, q) (omega arith)

-- and there is none in nothing
pub stands_not : (b : ℕ) (l : List ℕ) (at to : ℕ) → to ≤ at → index_of b (slice at to l) ≡ 0
unfolding index_of index_after slice
stands_not b l at to h =
    let e : drop at (take to l) ≡ [] = drop_of_length-le (take to l) {i = at} (simp length-take (omega arith)) in
    rw e refl

-- ---- line ends

pub end-past : (l : List ℕ) (from : ℕ) → length l < from → length l ≡ line_end l from
unfolding line_end index_of
end-past l from h = rw (drop_of_length-le l {i = from} (omega arith)) (omega arith)

pub end-found : (l : List ℕ) (from r : ℕ) → from ≤ length l → r ≡ from + index_of 10 (slice from (length l) l) → r ≡ line_end l from
unfolding line_end slice
end-found l from r h e =
    let m : min from (length l) ≡ from = omega arith in
    rw m (e ∙ ap (λ (t : List ℕ). from + index_of 10 (drop from t)) (take-length l))

index-le : (b : ℕ) (l : List ℕ) → index_of b l ≤ length l
unfolding index_of index_after
index-le b [] = omega arith
index-le b (x ∷ l) = case_on (eqb x b) (λ t. rw t (omega arith)) (λ t. rw t (omega (arith, index-le b l)))

pub end-index : (l : List ℕ) (from : ℕ) → from ≤ length l → line_end l from ≡ from + index_of 10 (drop from l)
unfolding line_end
end-index l from h = omega arith

pub end-le : (l : List ℕ) (from : ℕ) → line_end l from ≤ length l
unfolding line_end
end-le l from = omega (arith, index-le 10 (drop from l), length-drop from l)

pub end_ge : (l : List ℕ) (from : ℕ) → from ≤ length l → from ≤ line_end l from
unfolding line_end
end_ge l from h = omega arith

index-again : (b : ℕ) (l : List ℕ) → index_of b (drop (index_of b l) l) ≡ 0
unfolding index_of index_after
index-again b [] = refl
index-again b (x ∷ l) = case_on (eqb x b) (λ t. rw (t, t)) (λ t. rw t (index-again b l))

-- a line's end is the end from itself on
pub end-again : (l : List ℕ) (from : ℕ) → from ≤ length l → line_end l from ≡ line_end l (line_end l from)
end-again l from h =
    let e : line_end l from ≡ from + index_of 10 (drop from l) = end-index l from h in
    let k : line_end l (line_end l from) ≡ line_end l from + index_of 10 (drop (line_end l from) l) = end-index l (line_end l from) (end-le l from) in
    let z : index_of 10 (drop (line_end l from) l) ≡ 0 = rw (e, ← drop-drop) (index-again 10 (drop from l)) in
    omega arith

-- and a newline is a line's end
pub end-here : (l : List ℕ) (at : ℕ) (rest : List ℕ) → at ≤ length l → drop at l ≡ 10 ∷ rest → at ≡ line_end l at
unfolding index_of index_after
end-here l at rest h e =
    let k : line_end l at ≡ at + 0 = end-index l at h ∙ rw e in
    omega arith

-- ---- what fits

no-element : (l : List ℕ) → length l ≡ 0 → l ≡ []
no-element [] e = refl
no-element (x ∷ l) e = absurd (omega arith)

take-fewest : (a b : ℕ) (l : List ℕ) → take a (take b l) ≡ take (length (take a (take b l))) l
take-fewest zero b l = refl
take-fewest (suc a) zero l = refl
take-fewest (suc a) (suc b) [] = refl
take-fewest (suc a) (suc b) (x ∷ l) = ap (λ (t : List ℕ). x ∷ t) (take-fewest a b l)

module _ (line : List ℕ) (have : ℕ) (input : List ℕ) (from to : ℕ) where
  pub length-fitting : length (fitting line have input from to) ≡ min (length line - have) (min (to - from) (length input - from))
  unfolding fitting part
  length-fitting = simp (length-take, length-drop)

  -- a line stays within its buffer
  pub fitting-le : have ≤ length line → have + length (fitting line have input from to) ≤ length line
  fitting-le h = omega (arith, length-fitting)

  fitting-part : fitting line have input from to ≡ take (length (fitting line have input from to)) (drop from input)
  unfolding fitting part
  fitting-part = take-fewest (length line - have) (to - from) (drop from input)

  pub keeps-none : length (fitting line have input from to) ≡ 0 → line ≡ over line have (fitting line have input from to)
  keeps-none e = sym (over-nil line have) ∙ ap (over line have) (sym (no-element (fitting line have input from to) e))

  -- the line's part comes back as a copy of the input's
  pub keeps-copy : (n : ℕ) (back : List ℕ) → n ≡ length (fitting line have input from to) → from + n ≤ length input → have + n ≤ length line
      → back ≡ take (from + n - from) (drop from input)
      → take have line ++ (back ++ drop (have + n - have) (drop have line)) ≡ over line have (fitting line have input from to)
  keeps-copy n back e f g h =
      let a : from + n - from ≡ n = omega arith in
      let b : have + n - have ≡ n = omega arith in
      let p : back ≡ take n (drop from input) = rw a at h in
      let q : take n (drop from input) ≡ fitting line have input from to = ap (λ (m : ℕ). take m (drop from input)) e ∙ sym fitting-part in
      over-back line have (have + n) (p ∙ q) (b ∙ e)
