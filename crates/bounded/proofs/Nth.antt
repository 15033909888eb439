-- The loop that finds the k-th number below n that passes a test f: of k that pass, those below i are passed over and
-- left are not.
use Prim.Native.Nat.{ℕ, ◌+◌, ◌<◌, ◌≤◌}
use mathlib.Core.Bool.{Bool, true}
use mathlib.Core.Path.{◌≡◌, refl, sym, ap, ◌∙◌}
use native.Mathlib.Omega.{arith}
use lib.Dec.{ltb}
use lib.ListN.{get_or}
use borrow.Author.Tests.{ltb-true, ltb-false}
use Rattle.bounded.specs.Below.{one, count_below, those}
use Rattle.bounded.proofs.Below.{count_turn, ends}
use Rattle.bounded.proofs.Tests.{case_on}
use Rattle.bounded.proofs.Those.{those-at, those-past, chosen}

module _ (f : ℕ → Bool) (n k i left : ℕ) (passed : count_below i f + left ≡ k) where
  pub nth-found : i < n → f i ≡ true → left ≡ 0 → i ≡ get_or (those n f) k 0
  nth-found l t z =
      let e : count_below i f ≡ k = omega arith in
      sym (those-at f n i 0 l t) ∙ ap (λ (j : ℕ). get_or (those n f) j 0) e

  pub nth-turn : (next : ℕ) → next + one (f i) ≡ left → count_below (i + 1) f + next ≡ k
  nth-turn next e = omega (arith, count_turn f i (count_below i f) (one (f i)) refl refl)

  pub nth-ended : i ≤ n → n ≤ i → 0 ≡ get_or (those n f) k 0
  nth-ended a b = sym (those-past f n k 0 (omega (arith, ends (λ j. count_below j f) n i a b)))

-- it is one of them, or 0
pub nth-low : (f : ℕ → Bool) (n k : ℕ) → 0 < n → get_or (those n f) k 0 < n
nth-low f n k l =
    case_on (ltb k (count_below n f))
    (λ t. (chosen f n k 0 (ltb-true k (count_below n f) t)).below)
    (λ t. rw (those-past f n k 0 (ltb-false k (count_below n f) t)) l)
