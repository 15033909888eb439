use Prim.Native.Nat.{◌≤◌}
use Rattle.bounded.specs.Below.{up_to}
use Rattle.number_text.specs.Text.{each}
use Rattle.sequences.specs.Sequences.{sequence}
use Rattle.sequence_lines.specs.Listing.{lines_of}
use Rattle.short_runs.specs.Program.{with_lines, Prints}
use Rattle.short_runs.proofs.put_all.Given as goal

-- At the head of the loop the sequences before i are printed.
abbrev pub invariant-loop-i : goal.invariant-loop-i
invariant-loop-i l = Prints l.initial.output l.initial.out (each l.i (λ j. lines_of (sequence l.n j))) (up_to l.i (λ j. with_lines (sequence l.n j))) l.output l.out
