use Prim.Native.Nat.{ℕ, ◌+◌, ◌-◌, ◌≤◌}
use mathlib.Core.Path.{◌≡◌}
use mathlib.Core.List.{List}
use mathlib.Core.Bool.{Bool, not}
use lib.Dec.{eqb}
use Rattle.bounded.specs.Below.{count_below}
use Rattle.state.specs.Held.{held_at}
use Rattle.state_words.specs.Decoded.{decoded}
use Rattle.op_commit.proofs.held_slot.Given as goal

abbrev pub holds : List ℕ → ℕ → ℕ → Bool
holds words w s = not (eqb (held_at (decoded words).writers.held w s) 0)

abbrev pub invariant-loop-s : goal.invariant-loop-s
invariant-loop-s l = (count_below l.s (holds l.words l.w) + l.left ≡ l.j)
