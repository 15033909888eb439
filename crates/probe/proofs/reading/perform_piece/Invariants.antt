use Rattle.std.proofs.Common.{◌-◌, length, drop}
use Rattle.probe.specs.Program.{stand}
use Rattle.probe.proofs.Shown.{Before}
use Rattle.probe.proofs.reading.perform_piece.Given as goal

abbrev pub invariant-loop-from : goal.invariant-loop-from
invariant-loop-from l =
    Before (stand l.initial.s l.initial.buffer l.initial.words l.initial.table l.initial.line l.initial.out) l.piece
    (stand l.s l.buffer l.words l.table l.line l.out) (drop l.from l.piece)

abbrev pub decreases-loop-from : goal.decreases-loop-from
decreases-loop-from l = length l.piece - l.from
