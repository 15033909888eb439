-- Stores that go to words side by side.
use Rattle.std.specs.Prelude.{ℕ, ◌+◌, ◌<◌, ◌≤◌, ◌≡◌}
use Rattle.state.specs.State.{State}
use Rattle.refinement.specs.Stores.{store_at, left}

-- the next n stores of what is pending, of which there is one at least, go to the next one's word and to those behind it, rising
pub record Beside (st : State) (n : ℕ) : Type 0 where
  pub some : 0 < n
  pub few : n ≤ left st
  pub places : (d : ℕ) → d < n
      → store_at st st.pending.op (st.pending.made + d) ≡ store_at st st.pending.op st.pending.made + d
