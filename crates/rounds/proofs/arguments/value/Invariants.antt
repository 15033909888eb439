use Rattle.std.proofs.Common.{◌<◌}
use Rattle.rounds.proofs.arguments.value.Given as goal

-- The number stays below 10^9.
abbrev pub invariant-loop-b : goal.invariant-loop-b
invariant-loop-b l = l.v < 1000000000
