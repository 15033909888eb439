use mathlib.Core.Path.{◌≡◌}
use Rattle.bounded.specs.Below.{up_to}
use Rattle.words.specs.Words.{word}
use Rattle.journal.specs.Records.{live_record, position}
use Rattle.replay.specs.Table.{replaced, table_from}
use Rattle.replay.proofs.replayed.Given as goal

-- After i turns the first i records are laid. Each one's slot is below S, since the records are right.
abbrev pub invariant-loop-i : goal.invariant-loop-i
invariant-loop-i l = (l.t ≡ up_to l.i (λ k u. replaced u (live_record (word l.image) l.z l.tail k) (position l.z l.tail k)) (table_from (word l.image) l.z))
