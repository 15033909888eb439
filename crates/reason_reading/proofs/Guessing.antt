-- The numbers picked for a call's fields are those that its sentence has, in order.
use mathlib.Core.Path.{◌≡◌, refl, sym, ap, ◌∙◌}
use mathlib.Core.Bool.{Bool, true, false, cond}
use mathlib.Core.List.{List, [], ◌∷◌, ◌++◌, append_assoc}
use Prim.Native.Nat.{ℕ, ◌+◌, ◌≤◌}
use native.Mathlib.Omega.{arith}
use lib.ListN.{length, get_or, length-append}
use lib.Seq.{get_or_at}
use Rattle.reason_reading.specs.Reading.{pick, after}

pub after-le : (has : Bool) (k : ℕ) → after has k ≤ k + 1
after-le true k = omega arith
after-le false k = omega arith

-- the number of a field, where there is one
abbrev pub given : Bool → ℕ → List ℕ
given has v = cond has (v ∷ []) []

-- the numbers, of which the first k stand before the rest
pub record At (numbers : List ℕ) (k : ℕ) (rest : List ℕ) : Type 0 where
  pub first : List ℕ
  pub place : length first ≡ k
  pub whole : numbers ≡ first ++ rest

pub at-start : (v : ℕ) (rest : List ℕ) → At (v ∷ rest) 1 rest
at-start v rest = record { first = v ∷ []; place = refl; whole = refl }

module _ {numbers : List ℕ} {k : ℕ} where
  pub picked : (has : Bool) (v : ℕ) (rest : List ℕ) → At numbers k (given has v ++ rest) → pick has k numbers ≡ cond has v 0
  picked true v rest a = ap (λ (l : List ℕ). get_or l k 0) a.whole ∙ get_or_at a.first v rest 0 k a.place
  picked false v rest a = refl

  pub at_next : (has : Bool) (v : ℕ) (rest : List ℕ) → At numbers k (given has v ++ rest) → At numbers (after has k) rest
  at_next true v rest a =
      record {
        first = a.first ++ (v ∷ []);
        place = omega (arith, length-append a.first (v ∷ []), a.place);
        whole = a.whole ∙ sym (append_assoc a.first (v ∷ []) rest);
      }
  at_next false v rest a = a
