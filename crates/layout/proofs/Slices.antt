-- What the library's methods find among the first numbers of a list, as the definitions over the numbers below a bound say it.
use mathlib.Core.Path.{◌≡◌, refl, sym, ap, ◌∙◌}
use mathlib.Core.Bool.{Bool, false, not, cond, ◌&&◌, ◌||◌}
use mathlib.Core.List.{List, [], ◌∷◌}
use Prim.Native.Nat.{ℕ, zero, suc, ◌+◌, ◌≤◌}
use native.Mathlib.Omega.{arith}
use borrow.Author.Tests.{ltb-false, eqb-true, eqb-false, eq-eqb, ne_eqb}
use lib.Dec.{eqb}
use lib.ListN.{length, get_or, take}
use Rattle.std.specs.List.{list_any, position, position_or_len}
use Rattle.std.specs.Option.{unwrap_or}
use Rattle.std.proofs.Common.{nat_lt}
use Rattle.bounded.proofs.Below.{first-le}
use native.Mathlib.Nat.{le_antisymm}
use Rattle.std.proofs.Math.Seq.{take-suc}
use Rattle.std.proofs.lemmas.List.{length-take-le}
use Rattle.std.proofs.lemmas.List.Folds.{list_any-append, position_or_len_push}
use Rattle.bounded.specs.Below.{all_below, first_below}
use Rattle.bounded.proofs.Tests.{case_on}

step : (b : Bool) (n : ℕ) → n + cond b 0 1 ≡ cond b n (suc n)
step b n = case_on b (λ t. rw t (omega arith)) (λ t. rw t (omega arith))

-- the first of n numbers that passes a test, or n
pub position-first : (test : ℕ → Bool) (xs : List ℕ) (n : ℕ) → n ≤ length xs → position_or_len test (take n xs) ≡ first_below n (λ k. test (get_or xs k 0))
unfolding first_below
position-first test xs zero h = refl
position-first test xs (suc n) h =
    rw (take-suc xs n 0 (omega (arith, h)), position_or_len_push test (take n xs) (get_or xs n 0), length-take-le n xs (omega (arith, h)), position-first test xs n (omega (arith, h)), step (test (get_or xs n 0)) n)

-- the same of what `position` finds
pub found-first : (test : ℕ → Bool) (xs : List ℕ) (n : ℕ) → n ≤ length xs → unwrap_or (position test (take n xs)) n ≡ first_below n (λ k. test (get_or xs k 0))
found-first test xs n h =
    let f = first_below n (λ k. test (get_or xs k 0)) in
    rw (position-first test xs n h, length-take-le n xs h)
    (case_on (nat_lt f n) (λ t. rw t refl) (λ u. rw u (le_antisymm (ltb-false f n u) (first-le (λ k. test (get_or xs k 0)) n))))

nor : (a b : Bool) → not (a || (b || false)) ≡ not a && not b
nor a b = case_on a (λ t. rw t refl) (λ t. rw t (case_on b (λ u. rw u refl) (λ u. rw u refl)))

same : (a b : ℕ) → eqb a b ≡ eqb b a
same a b = case_on (eqb a b) (λ t. t ∙ sym (eq-eqb b a (sym (eqb-true a b t)))) (λ f. f ∙ sym (ne_eqb b a (λ e. eqb-false a b f (sym e))))

-- whether x is none of n numbers
pub none-first : (x : ℕ) (xs : List ℕ) (n : ℕ) → n ≤ length xs → not (list_any (λ y. eqb y x) (take n xs)) ≡ all_below n (λ k. not (eqb x (get_or xs k 0)))
unfolding all_below
none-first x xs zero h = refl
none-first x xs (suc n) h =
    rw (take-suc xs n 0 (omega (arith, h)), list_any-append (λ y. eqb y x) (take n xs) (get_or xs n 0 ∷ []), ← none-first x xs n (omega (arith, h)))
    (nor (list_any (λ y. eqb y x) (take n xs)) (eqb (get_or xs n 0) x) ∙ ap (λ b. not (list_any (λ y. eqb y x) (take n xs)) && not b) (same (get_or xs n 0) x))
