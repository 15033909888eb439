use Prim.Native.Nat.{◌≤◌}
use mathlib.Core.Path.{◌≡◌}
use lib.ListN.{length}
use Rattle.number_text.specs.Text.{Put}
use Rattle.wear_lines.proofs.Taken.{listed}
use Rattle.wear_lines.proofs.output.put_response.Given as goal

abbrev pub invariant-loop-k : goal.invariant-loop-k
invariant-loop-k l = (l.k ≤ 22) × (length l.out ≡ length l.initial.out) × Put l.initial.out 0 (listed l.counts l.k) l.out l.next
