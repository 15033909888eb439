-- The rows that come first, then the operation's. row is what the code found first.
use Prim.Native.Nat.{ℕ, ◌*◌, ◌<◌, ◌≤◌}
use mathlib.Core.Path.{◌≡◌}
use native.Mathlib.Omega.{arith}
use Rattle.bounded.specs.Rows.{refusal}
use Rattle.layout.specs.Layout.{Legal}
use Rattle.journal.specs.Records.{live_count}
use Rattle.state.specs.State.{State}
use Rattle.refinement.specs.Calls.{quiet_rows}
use Rattle.refinement.proofs.Going.{ranges-of, entries-of}
use Rattle.refinement.proofs.Quiet.{quiet}

module _ (st : State) (n row : ℕ) (e : row ≡ refusal (quiet_rows st n)) where
  pub first-ranges : row ≡ 0 → Legal st.sizes × (st.head < 2 * st.sizes.places) × (st.tail < 2 * st.sizes.places) × (live_count st.sizes st.head st.tail ≤ st.sizes.places) × (st.next < st.sizes.slots) × (st.wide.count ≤ 64)
  first-ranges z =
      let ok = (quiet st n row e z).ok in
      let h = ranges-of st ok in (h.legal, h.head-low, h.tail-low, h.live-high, h.next_low, omega (arith, (entries-of st ok).few, h.legal.entries-high))
