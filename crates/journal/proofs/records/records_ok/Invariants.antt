use mathlib.Core.Path.{◌≡◌}
use mathlib.Core.Bool.{true}
use Prim.Native.Nat.{◌-◌}
use Rattle.bounded.specs.Below.{all_below}
use Rattle.words.specs.Words.{word}
use Rattle.journal.specs.Records.{live_record, record_ok}
use Rattle.journal.proofs.records.records_ok.Given as goal

-- After i turns the first i records are right, and `before` is the one just passed.
abbrev pub invariant-loop-i : goal.invariant-loop-i
invariant-loop-i l = (l.before ≡ live_record (word l.image) l.z l.tail (l.i - 1)) × (all_below l.i (record_ok l.z l.tail (live_record (word l.image) l.z l.tail)) ≡ true)
