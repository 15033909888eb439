use mathlib.Core.Path.{◌≡◌}
use Prim.Native.Nat.{◌+◌}
use Rattle.bounded.specs.Below.{count_below}
use Rattle.masks.specs.Lines.{in_mask}
use Rattle.masks.proofs.nth_in.Given as goal

-- the lines of m below i and those still to pass over are n
abbrev pub invariant-loop-i : goal.invariant-loop-i
invariant-loop-i l = count_below l.i (in_mask l.m) + l.left ≡ l.n
