use Rattle.reason_reading.proofs.Scanning.{Going}
use Rattle.reason_reading.proofs.number_at.Given as goal

-- At each turn the number looked for is among those that what is read and the text left give.
abbrev pub invariant-loop-b : goal.invariant-loop-b
invariant-loop-b l = Going l.text l.k l.left l.number l.b-index
