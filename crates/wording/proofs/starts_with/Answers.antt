use mathlib.Core.Path.{◌≡◌, ◌∙◌}
use mathlib.Core.Bool.{true, ◌&&◌}
use mathlib.Core.List.{List, [], ◌∷◌}
use Prim.Native.Nat.{ℕ, ◌≤◌}
use native.Mathlib.Omega.{arith}
use lib.Dec.{eqb}
use lib.ListN.{length, get_or}
use Rattle.std.specs.List as std
use Rattle.wording.proofs.Wording.{three-bytes}
use Rattle.wording.proofs.starts_with.Goals as goal

turned : (x y z a b d : ℕ) → eqb a x && (eqb b y && (eqb d z && true)) ≡ eqb x a && eqb y b && eqb z d
turned x y z a b d = grind arith

first-three : (l : List ℕ) (a b d : ℕ) → 3 ≤ length l
    → std.starts_with eqb l (a ∷ b ∷ d ∷ []) ≡ eqb (get_or l 0 0) a && eqb (get_or l 1 0) b && eqb (get_or l 2 0) d
first-three [] a b d h = absurd (omega arith)
first-three (x ∷ []) a b d h = absurd (omega arith)
first-three (x ∷ y ∷ []) a b d h = absurd (omega arith)
first-three (x ∷ y ∷ z ∷ l) a b d h = turned x y z a b d

pub returns : goal.returns
returns c = let x = c.args in c.starts_with.ensures.value ∙ rw c.name_of.ensures (first-three _ x.a x.b x.d (three-bytes x.call c.requires))
