use Rattle.naming.specs.Marks.{MarkedBut}
use Rattle.masks.specs.Lines.{in_mask}
use lib.ListN.{length}
use Prim.Native.Nat.{ℕ, ◌*◌, ◌≤◌, min}
use mathlib.Core.Bool.{false}
use mathlib.Core.Path.{◌≡◌}
use Rattle.naming.proofs.mark_moved.Given as goal

abbrev pub invariant-loop-k : goal.invariant-loop-k
invariant-loop-k l = (length l.seen ≡ 1041) × (((y : ℕ) → l.k ≤ y → in_mask l.own y ≡ false) × MarkedBut l.homes (min (64 * l.k) (length l.homes)) l.initial.seen l.own l.seen)
