use Prim.Native.Nat.{ℕ, ◌-◌, ◌≤◌}
use mathlib.Core.List.{List}
use mathlib.Core.Path.{◌≡◌}
use lib.ListN.{length}
use Rattle.bounded.specs.Tab.{filled}
use Rattle.state.specs.State.{State}
use Rattle.state.specs.Wide.{wide_of}
use Rattle.refinement.specs.Settled.{with_wide}
use Rattle.state_words.specs.Decoded.{decoded}
use Rattle.op_copy.proofs.put_no_wide.Given as goal

abbrev pub emptied : State → List ℕ → State
emptied st keys = with_wide st (wide_of st.wide.writer st.wide.count keys)

abbrev pub invariant-loop-e : goal.invariant-loop-e
invariant-loop-e l = (length l.words ≡ 1280) × (decoded l.words ≡ emptied (decoded l.initial.words) (filled l.e (λ i. 0) (decoded l.initial.words).wide.keys))
