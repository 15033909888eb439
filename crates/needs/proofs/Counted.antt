-- Bounds on the slots with a last record and on the lines copied. In a law about code, r is what the code found.
use Prim.Native.Nat.{ℕ, ◌≤◌}
use mathlib.Core.List.{List}
use mathlib.Core.Path.{◌≡◌}
use native.Mathlib.Omega.{arith}
use borrow.Author.Tests.{leb-true, leb-false}
use lib.Dec.{leb}
use lib.ListN.{length}
use Rattle.bounded.proofs.Tests.{case_on}
use Rattle.layout.specs.declared.Sizes.{Sizes}
use Rattle.masks.specs.Lines.{count_lines}
use Rattle.operations.specs.Operations.{copy_count, recorded_slots}
use Rattle.state.proofs.Numbers.{those-le}

pub recorded-le : (z : Sizes) (last : List ℕ) (r : ℕ) → r ≡ length (recorded_slots z last) → r ≤ z.slots
unfolding recorded_slots
recorded-le z last r e = rw e (those-le _ z.slots)

pub copy-le : (bitmap r : ℕ) → r ≡ copy_count bitmap → r ≤ 32
unfolding copy_count
copy-le bitmap r e =
    case_on (leb (count_lines bitmap) 32)
    (λ t. rw (e, t) (leb-true (count_lines bitmap) 32 t))
    (λ t. rw (e, t) (omega (arith, leb-false (count_lines bitmap) 32 t)))
