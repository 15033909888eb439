use Prim.Native.Nat.{◌-◌, ◌≤◌}
use Rattle.bounded.specs.Below.{up_to}
use Rattle.number_text.specs.Text.{each}
use Rattle.sequences.specs.Sequences.{sequence}
use Rattle.sequence_lines.specs.Listing.{needed_by, line_of}
use Rattle.short_runs.specs.Program.{with_line, Prints}
use Rattle.short_runs.proofs.put_cuts.Given as goal

abbrev pub invariant-loop-k : goal.invariant-loop-k
invariant-loop-k l = (l.k ≤ needed_by (sequence l.n l.i)) × Prints l.initial.output l.initial.out (each l.k (line_of (sequence l.n l.i))) (up_to l.k (λ j. with_line (line_of (sequence l.n l.i) j))) l.output l.out

abbrev pub decreases-loop-k : goal.decreases-loop-k
decreases-loop-k l = needed_by (sequence l.n l.i) - l.k
