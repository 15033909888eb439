use mathlib.Core.Path.{◌≡◌}
use lib.ListN.{length, take}
use Rattle.number_text.specs.Text.{Put, blanked}
use Rattle.number_text.proofs.put_numbers.Given as goal

abbrev pub invariant-loop-number : goal.invariant-loop-number
invariant-loop-number l = (length l.out ≡ length l.initial.out) × Put l.initial.out l.at (blanked (take l.number-index l.numbers)) l.out l.next
