use Prim.Native.Nat.{ℕ, ◌-◌, ◌≤◌}
use mathlib.Core.List.{List}
use mathlib.Core.Path.{◌≡◌}
use Rattle.bounded.specs.Tab.{filled}
use Rattle.replay.specs.Table.{no_position}
use Rattle.state.specs.State.{State}
use Rattle.state_words.specs.Decoded.{decoded, with_table}
use Rattle.op_checkpoint.proofs.put_no_lasts.Given as goal

-- the state with other last positions
abbrev pub lasts : State → List ℕ → State
lasts st l = with_table st (record { page = st.table.page; original = st.table.original; spare = st.table.spare; bitmap = st.table.bitmap; last = l })

abbrev pub invariant-loop-s : goal.invariant-loop-s
invariant-loop-s l = decoded l.words ≡ lasts (decoded l.initial.words) (filled l.s (λ k. no_position) (decoded l.initial.words).table.last)
