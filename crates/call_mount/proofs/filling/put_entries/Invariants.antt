use Prim.Native.Nat.{◌-◌, ◌≤◌}
use mathlib.Core.Path.{◌≡◌}
use Rattle.state_words.specs.Decoded.{decoded}
use Rattle.call_mount.proofs.Columns.{column, keys_to}
use Rattle.call_mount.proofs.filling.put_entries.Given as goal

abbrev pub invariant-loop-e : goal.invariant-loop-e
invariant-loop-e l = decoded l.words ≡ keys_to (decoded l.initial.words) (column l.fn.keys l.e (decoded l.initial.words).wide.keys)
