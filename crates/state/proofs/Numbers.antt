-- Bounds on what is counted and on the slot that going round comes to. In a law about code, r is what the code found.
use Prim.Native.Nat.{ℕ, ◌+◌, ◌<◌, ◌≤◌}
use mathlib.Core.Bool.{Bool}
use mathlib.Core.List.{List}
use mathlib.Core.Path.{◌≡◌}
use native.Mathlib.Nat.{mod-lt}
use native.Mathlib.Omega.{arith}
use lib.ListN.{length}
use Rattle.bounded.specs.Below.{one, those}
use Rattle.bounded.proofs.Below.{one-le, count-le}
use Rattle.bounded.proofs.Those.{length-those}
use Rattle.layout.specs.declared.Sizes.{Sizes}
use Rattle.layout.specs.Layout.{Legal}
use Rattle.state.specs.Slots.{round_slot}
use Rattle.state.specs.Held.{held_slots}

-- what is counted for one test
pub one-small : (b : Bool) (r : ℕ) → r ≡ one b → r ≤ 1
one-small b r e = omega (arith, one-le b)

pub round-low : (z : Sizes) (next k r : ℕ) → Legal z → r ≡ round_slot z next k → r < z.slots
round-low z next k r h e = rw e (mod-lt (next + k) (omega arith))

pub those-le : (f : ℕ → Bool) (n : ℕ) → length (those n f) ≤ n
those-le f n = omega (arith, length-those f n, count-le f n)

pub held-le : (z : Sizes) (held : List ℕ) (w r : ℕ) → r ≡ length (held_slots z held w) → r ≤ z.slots
unfolding held_slots
held-le z held w r e = rw e (those-le _ z.slots)
