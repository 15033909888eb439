-- The slots that a checkpoint stores are below S. In a law about code, r is what the code found.
use Prim.Native.Nat.{ℕ, zero, suc, ◌<◌}
use mathlib.Core.List.{List, [], ◌∷◌}
use mathlib.Core.Path.{◌≡◌, refl}
use native.Mathlib.Nat.{not-suc-le-zero, le_of_suc-le-suc}
use native.Mathlib.Omega.{arith}
use lib.ListN.{length, get_or}
use Rattle.layout.specs.declared.Sizes.{Sizes}
use Rattle.layout.specs.Layout.{Legal}
use Rattle.operations.specs.Operations.{recorded_slots}
use Rattle.bounded.proofs.Nth.{nth-low}

pub recorded-slot-low : (z : Sizes) (last : List ℕ) (j r : ℕ) → Legal z → r ≡ get_or (recorded_slots z last) j 0 → r < z.slots
unfolding recorded_slots
recorded-slot-low z last j r h e = rw e (nth-low _ z.slots j (omega arith))

-- what is read past the end does not matter below it
pub default_none : (l : List ℕ) (i d e : ℕ) → i < length l → get_or l i d ≡ get_or l i e
default_none [] i d e h = absurd (not-suc-le-zero h)
default_none (x ∷ l) zero d e h = refl
default_none (x ∷ l) (suc i) d e h = default_none l i d e (le_of_suc-le-suc h)
