use Prim.Native.Nat.{◌+◌, ◌-◌, ◌*◌, ◌≤◌}
use mathlib.Core.Path.{◌≡◌}
use lib.ListN.{length, get_or}
use Rattle.op_writer.proofs.Back.{puts}
use Rattle.op_writer.proofs.put_words.Given as goal

abbrev pub invariant-loop-i : goal.invariant-loop-i
invariant-loop-i l = (length l.part ≡ length l.initial.part) × (l.part ≡ puts (λ d. 8 * (l.k + d)) (λ d. get_or l.words (l.k + d) 0) l.i l.initial.part)
