use Prim.Native.Nat.{ℕ, ◌+◌, ◌-◌, ◌*◌, ◌≤◌}
use mathlib.Core.List.{List}
use mathlib.Core.Path.{◌≡◌}
use lib.ListN.{set}
use Rattle.bounded.specs.Below.{up_to}
use Rattle.state_words.specs.Decoded.{decoded, with_writers, with_held}
use Rattle.state.specs.State.{State}
use Rattle.op_commit.proofs.let_go.Given as goal

abbrev pub gone : State → ℕ → List ℕ → State
gone st w h = with_writers st (with_held st.writers h)

abbrev pub invariant-loop-s : goal.invariant-loop-s
invariant-loop-s l = decoded l.words ≡ gone (decoded l.initial.words) l.w (up_to l.s (λ k h. set h (16 * l.w + k) 0) (decoded l.initial.words).writers.held)
