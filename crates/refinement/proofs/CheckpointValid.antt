-- A checkpoint keeps the state valid: slots and writers stay, and no slot has a last position.
use Prim.Native.Nat.{ℕ, ◌<◌, ◌≤◌}
use mathlib.Core.Bool.{true}
use mathlib.Core.Path.{◌≡◌, refl}
use native.Mathlib.Omega.{arith}
use lib.ListN.{length}
use Rattle.bounded.proofs.Tab.{get_or-filled}
use Rattle.replay.specs.Table.{no_position}
use Rattle.journal.proofs.Ring.{live-none, positions-none}
use Rattle.replay.proofs.Tables.{Sixteen}
use Rattle.state.specs.State.{State}
use Rattle.state.specs.declared.Op.TheVariants.{Checkpoint}
use Rattle.state.proofs.Numbers.{held-le}
use Rattle.validity.specs.Validity.{state_ok}
use Rattle.refinement.specs.Stores.{completed}
use Rattle.refinement.specs.Checkpoint.{without_lasts}
use Rattle.refinement.proofs.ValidLasts.{last_at}
use Rattle.refinement.proofs.StateValid.{valid, valid-ok}
use Rattle.refinement.proofs.Pending.{idle-ok}

pub checkpoint-valid : (st : State) → state_ok st ≡ true → Sixteen st.table → state_ok (completed st Checkpoint) ≡ true
checkpoint-valid st e full =
    let v = valid st e in
    let z = st.sizes in
    let high : z.slots ≤ length st.table.last = omega arith in
    let none : (s : ℕ) → s < z.slots → last_at (without_lasts z st.table) s ≡ no_position =
    λ s l. get_or-filled z.slots (λ s. no_position) st.table.last s 0 l high in
    valid-ok (completed st Checkpoint)
    (record {
      legal = v.legal;
      positions = positions-none z v.legal st.head v.positions.head-low;
      slots = v.slots;
      held = v.held;
      next_low = v.next_low;
      lasts = record { low = λ s l n. absurd (n (none s l)); live = λ s l n. absurd (n (none s l)); apart = λ s k l m d n. absurd (n (none s l)) };
      prepared = λ l. record { opens = (v.prepared l).opens; fits = omega (arith, live-none z st.head, held-le z st.writers.held st.writers.prepared _ refl, v.legal.places-low) };
      entries = v.entries;
      wide = v.wide;
      pending = idle-ok (completed st Checkpoint) refl;
    })
