-- Two tables of refusals, one after the other.
use Prim.Native.Nat.{ℕ, ◌<◌}
use mathlib.Core.Bool.{Bool, true, false, cond}
use mathlib.Core.List.{List, [], ◌∷◌, ◌++◌}
use mathlib.Core.Path.{◌≡◌, refl}
use native.Mathlib.Omega.{arith}
use Rattle.bounded.specs.Rows.{Row, refusal, Numbered}

first-row : (b : Bool) (n x y : ℕ) → (cond b n x ≡ 0 → ⊥) → ((x ≡ 0 → ⊥) → x ≡ y) → cond b n x ≡ cond b n y
first-row true n x y h f = refl
first-row false n x y h f = f h

-- a row of the first applies
pub joined-first : (rs qs : List Row) → (refusal rs ≡ 0 → ⊥) → refusal rs ≡ refusal (rs ++ qs)
joined-first [] qs n = absurd (n refl)
joined-first (r ∷ rs) qs n = first-row r.0 r.1 (refusal rs) (refusal (rs ++ qs)) n (joined-first rs qs)

rest-row : (b : Bool) (n x y z : ℕ) → 0 < n → cond b n x ≡ 0 → (x ≡ 0 → z ≡ y) → z ≡ cond b n y
rest-row true n x y z l e f = absurd (omega arith)
rest-row false n x y z l e f = f e

-- none does
pub joined-rest : (rs qs : List Row) → Numbered rs → refusal rs ≡ 0 → refusal qs ≡ refusal (rs ++ qs)
joined-rest [] qs n e = refl
joined-rest (r ∷ rs) qs n e = rest-row r.0 r.1 (refusal rs) (refusal (rs ++ qs)) (refusal qs) n.0 e (joined-rest rs qs n.1)
