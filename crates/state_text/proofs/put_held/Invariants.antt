use Rattle.number_text.specs.Text.{Put, each, blanked}
use Rattle.state_text.specs.Numbers.{held_numbers}
use Rattle.state_words.specs.Decoded.{decoded}
use Rattle.state_text.proofs.put_held.Given as goal

abbrev pub invariant-loop-w : goal.invariant-loop-w
invariant-loop-w l = Put l.initial.out l.at (blanked (each l.w (held_numbers (decoded l.words).writers.held l.n))) l.out l.next
