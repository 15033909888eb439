use Prim.Native.Nat.{◌≤◌}
use mathlib.Core.Path.{◌≡◌}
use lib.ListN.{length, take}
use Rattle.number_text.specs.Text.{Put}
use Rattle.sequence_lines.specs.Parts.{followed}
use Rattle.sequence_lines.proofs.put_followed.Given as goal

abbrev pub invariant-loop-v : goal.invariant-loop-v
invariant-loop-v l = (l.v-index ≤ length l.numbers) × (length l.out ≡ length l.initial.out) × Put l.initial.out l.at (followed (take l.v-index l.numbers)) l.out l.next
