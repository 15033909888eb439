use Prim.Native.Nat.{ℕ, ◌+◌, ◌-◌, ◌≤◌}
use mathlib.Core.Path.{◌≡◌}
use mathlib.Core.List.{List}
use mathlib.Core.Bool.{Bool, not}
use lib.Dec.{eqb}
use lib.ListN.{get_or}
use Rattle.bounded.specs.Below.{count_below}
use Rattle.replay.specs.Table.{no_position}
use Rattle.state_words.specs.Decoded.{decoded}
use Rattle.op_checkpoint.proofs.recorded_slot.Given as goal

-- of the j slots to pass over, those below s are passed and left are not
abbrev pub recorded : List ℕ → ℕ → Bool
recorded words s = not (eqb (get_or (decoded words).table.last s 0) no_position)

abbrev pub invariant-loop-s : goal.invariant-loop-s
invariant-loop-s l = (count_below l.s (recorded l.words) + l.left ≡ l.j)
