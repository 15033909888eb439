use Prim.Native.Nat.{◌≤◌}
use mathlib.Core.Path.{◌≡◌}
use lib.ListN.{length, take}
use Rattle.try_sizes.specs.Program.{Takes}
use Rattle.try_sizes.proofs.take_piece.Given as goal

-- At the head of the loop the bytes before i are taken.
abbrev pub invariant-loop-b : goal.invariant-loop-b
invariant-loop-b l = (l.b-index ≤ length l.piece) × (length l.image ≡ length l.initial.image) × (length l.line ≡ length l.initial.line) × Takes l.initial.s l.initial.words l.initial.image l.initial.line (take l.b-index l.piece) l.s l.words l.image l.line
