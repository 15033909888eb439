use Prim.Native.Nat.{◌-◌, ◌≤◌}
use mathlib.Core.Path.{◌≡◌}
use Rattle.state_words.specs.Decoded.{decoded, with_table}
use Rattle.call_mount.proofs.Columns.{table_to}
use Rattle.call_mount.proofs.filling.put_table.Given as goal

abbrev pub invariant-loop-s : goal.invariant-loop-s
invariant-loop-s l = decoded l.words ≡ with_table (decoded l.initial.words) (table_to l.t l.s (decoded l.initial.words).table)
