-- The words of specs/Below at the elements of a list, and the library's words for the same.
use Prim.Native.Nat.{ℕ, zero, suc, ◌<◌, ◌≤◌}
use mathlib.Core.Bool.{Bool, ◌&&◌, cond}
use mathlib.Core.List.{List}
use mathlib.Core.Path.{◌≡◌, refl, sym, ap, ◌∙◌}
use lib.Dec.{ltb}
use lib.ListN.{length, get_or, take}
use lib.Seq.{take_all}
use borrow.Author.Tests.{ltb-true, ltb-false}
use native.Mathlib.Numerals.{add-one}
use native.Mathlib.Omega.{arith}
use Rattle.std.proofs.Common.{Some, None}
use Rattle.std.specs.List.{list_all, position, position_or_len}
use Rattle.std.proofs.lemmas.List.Folds.{list_all_more}
use Rattle.std.proofs.lemmas.List.Sums.{position_or_len_is}
use Rattle.bounded.specs.Below.{all_below, first_below}
use Rattle.bounded.proofs.Below.{first-le, first-before, first_holds}
use Rattle.bounded.proofs.Tests.{case_on, row-yes, row-no}

module _ {X : Type 0} (p : X → Bool) (xs : List X) (d : X) where
  abbrev at : ℕ → Bool
  at k = p (get_or xs k d)

  all-so_far : (i : ℕ) → i ≤ length xs → list_all p (take i xs) ≡ all_below i at
  unfolding all_below
  all-so_far zero l = refl
  all-so_far (suc i) l =
      let h : i < length xs = omega arith in
      let e : list_all p (take (suc i) xs) ≡ (list_all p (take i xs) && p (get_or xs i d)) = rw (← add-one) (list_all_more p xs i d h) in
      e ∙ ap (λ (b : Bool). b && at i) (all-so_far i (omega arith))

  -- whether each element passes
  pub all_list : list_all p xs ≡ all_below (length xs) at
  all_list = ap (list_all p) (sym (take_all (length xs) xs (omega arith))) ∙ all-so_far (length xs) (omega arith)

  -- the place of the first element that passes, the length where none does
  pub place_first : position_or_len p xs ≡ first_below (length xs) at
  place_first =
      let n : ℕ = first_below (length xs) at in
      position_or_len_is p xs n d (first-le at (length xs)) (first-before at (length xs)) (first_holds at (length xs))

  abbrev first : ℕ
  first = first_below (length xs) at

  found-first : position p xs ≡ cond (ltb first (length xs)) (Some first) None
  found-first = ap (λ (n : ℕ). cond (ltb n (length xs)) (Some n) None) place_first

  pub position_first : (i : ℕ) → position p xs ≡ Some i → (i < length xs) × (i ≡ first)
  position_first i e =
      case_on (ltb first (length xs))
      (λ t. let q : Some first ≡ Some i = row-yes (ltb first (length xs)) (Some first) None t ∙ sym found-first ∙ e in
      let same : first ≡ i = cc in
      (omega (arith, same, ltb-true first (length xs) t), sym same))
      (λ t. let q : None ≡ Some i = row-no (ltb first (length xs)) (Some first) None None t refl ∙ sym found-first ∙ e in cc)

  pub position_none : position p xs ≡ None → first ≡ length xs
  position_none e =
      case_on (ltb first (length xs))
      (λ t. let q : Some first ≡ None = row-yes (ltb first (length xs)) (Some first) None t ∙ sym found-first ∙ e in cc)
      (λ t. omega (arith, first-le at (length xs), ltb-false first (length xs) t))
