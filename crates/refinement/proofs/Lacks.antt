-- Numbers that a table of refusals does not give: no row with such a number applies once the rows before it do not.
use Prim.Native.Nat.{ℕ}
use mathlib.Core.Bool.{Bool, true, false, ◌&&◌, ◌||◌}
use mathlib.Core.List.{List, [], ◌∷◌}
use mathlib.Core.Path.{◌≡◌, refl}
use Rattle.bounded.specs.Rows.{Row, refusal}
use Rattle.bounded.proofs.Tests.{case_on, or_left, or_right}

abbrev pub Lacks : (ℕ → Bool) → List Row → Type 0
Lacks bad [] = bad 0 ≡ false
Lacks bad (r ∷ rs) = (bad r.1 && r.0 ≡ false) × (r.0 ≡ false → Lacks bad rs)

and_yes : (a b : Bool) → b ≡ true → a && b ≡ false → a ≡ false
and_yes true b t e = rw t at e
and_yes false b t e = refl

pub lacks : (bad : ℕ → Bool) (rs : List Row) → Lacks bad rs → bad (refusal rs) ≡ false
lacks bad [] f = f
lacks bad (r ∷ rs) f =
    case_on r.0
    (λ t. rw t (and_yes (bad r.1) r.0 t f.0))
    (λ t. rw t (lacks bad rs (f.1 t)))

-- the same without that condition: whether some row with such a number applies
abbrev pub applies : (ℕ → Bool) → List Row → Bool
applies bad [] = bad 0
applies bad (r ∷ rs) = (bad r.1 && r.0) || applies bad rs

pub none-applies : (bad : ℕ → Bool) (rs : List Row) → applies bad rs ≡ false → bad (refusal rs) ≡ false
none-applies bad [] e = e
none-applies bad (r ∷ rs) e =
    let one : Bool = bad r.1 && r.0 in
    case_on r.0
    (λ t. rw t (and_yes (bad r.1) r.0 t (or_left one (applies bad rs) e)))
    (λ t. rw t (none-applies bad rs (or_right one (applies bad rs) e)))
