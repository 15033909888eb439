use Rattle.std.proofs.Common.{◌≡◌, ◌+◌}
use Rattle.cutting.specs.Finding.{index_of, slice}
use Rattle.cutting.proofs.find.Given as goal

-- The byte stands where it stands in what is left.
abbrev pub invariant-loop-at : goal.invariant-loop-at
invariant-loop-at l = l.from + index_of l.b (slice l.from l.to l.input) ≡ l.at + index_of l.b (slice l.at l.to l.input)
