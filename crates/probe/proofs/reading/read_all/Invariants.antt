use Rattle.probe.specs.Program.{stand, TakesSome}
use Rattle.probe.proofs.reading.read_all.Given as goal

abbrev pub invariant-loop-turn : goal.invariant-loop-turn
invariant-loop-turn l =
    TakesSome (stand l.initial.s l.initial.buffer l.initial.words l.initial.table l.initial.line l.initial.out)
    (stand l.s l.buffer l.words l.table l.line l.out)
