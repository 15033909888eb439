use Rattle.number_text.specs.Text.{Put, each, blanked}
use Rattle.pending_text.specs.Numbers.{line_bytes}
use Rattle.pending_text.proofs.put_line.Given as goal

abbrev pub invariant-loop-word : goal.invariant-loop-word
invariant-loop-word l = Put l.initial.out l.at (blanked (each l.word-index (line_bytes l.word-items))) l.out l.next
