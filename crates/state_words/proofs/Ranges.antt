-- What a chain over the numbers below n finds, in the words of bounded's specs/Below.
use Prim.Native.Nat.{ℕ, zero, suc, ◌+◌}
use mathlib.Core.Bool.{Bool, true, false, ◌&&◌, not, cond}
use mathlib.Core.List.{List, [], ◌∷◌, ◌++◌}
use mathlib.Core.Path.{◌≡◌, refl, ap, ap₂, ◌∙◌}
use lib.Dec.{eqb}
use native.Mathlib.Omega.{arith}
use Rattle.std.specs.List.{range_with_len, list_all, list_any, filter, position_or_len}
use Rattle.std.proofs.lemmas.List.FromFn.{length-range_with_len}
use Rattle.std.proofs.lemmas.List.Folds.{list_all-append, position_or_len_push}
use Rattle.std.proofs.lemmas.List.Elements.{filter-append}
use Rattle.bounded.specs.Below.{all_below, some_below, first_below, those}
use Rattle.bounded.proofs.Tests.{case_on}

from : (a n : ℕ) (k : ℕ) → k ≡ a + n → range_with_len a (suc n) ≡ range_with_len a n ++ k ∷ []
from a zero k e = ap (λ (i : ℕ). i ∷ []) (omega arith)
from a (suc n) k e = ap (λ (ks : List ℕ). a ∷ ks) (from (a + 1) n k (omega arith))

range-more : (n : ℕ) → range_with_len 0 (suc n) ≡ range_with_len 0 n ++ n ∷ []
range-more n = from 0 n n (omega arith)

module _ (f : ℕ → Bool) where
  pub all-range : (n : ℕ) → list_all f (range_with_len 0 n) ≡ all_below n f
  unfolding all_below
  all-range zero = refl
  all-range (suc n) =
      ap (list_all f) (range-more n) ∙ list_all-append f (range_with_len 0 n) (n ∷ []) ∙ ap₂ (λ (a b : Bool). a && b) (all-range n) (last (f n))
    where
      last : (b : Bool) → (b && true) ≡ b
      last true = refl
      last false = refl

  pub those-range : (n : ℕ) → filter f (range_with_len 0 n) ≡ those n f
  unfolding those
  those-range zero = refl
  those-range (suc n) =
      ap (filter f) (range-more n) ∙ filter-append f (range_with_len 0 n) (n ∷ []) ∙ ap (λ (a : List ℕ). a ++ cond (f n) (n ∷ []) []) (those-range n)

  pub first-range : (n : ℕ) → position_or_len f (range_with_len 0 n) ≡ first_below n f
  unfolding first_below
  first-range zero = refl
  first-range (suc n) =
      ap (position_or_len f) (range-more n) ∙ position_or_len_push f (range_with_len 0 n) n
      ∙ rw (length-range_with_len 0 n, first-range n) (case_on (f n) (λ t. rw t (last (omega arith))) (λ t. rw t (last (omega arith))))
    where
      last : {x y : ℕ} → x ≡ y → cond (eqb (first_below n f) n) x (first_below n f) ≡ cond (eqb (first_below n f) n) y (first_below n f)
      last e = ap (λ (k : ℕ). cond (eqb (first_below n f) n) k (first_below n f)) e

pub any-range : (f : ℕ → Bool) (n : ℕ) → list_any f (range_with_len 0 n) ≡ some_below n f
unfolding some_below
any-range f n = turned (range_with_len 0 n) ∙ ap not (all-range (λ k. not (f k)) n)
  where
    turned : (ks : List ℕ) → list_any f ks ≡ not (list_all (λ k. not (f k)) ks)
    turned [] = refl
    turned (k ∷ ks) = case_on (f k) (λ t. rw t refl) (λ t. rw t (turned ks))
