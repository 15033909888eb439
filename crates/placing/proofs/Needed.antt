-- The stores that an operation needs, at most, in a state that row 8 takes.
use Prim.Native.Nat.{ℕ, ◌+◌, ◌-◌, ◌*◌, ◌≤◌}
use mathlib.Core.Bool.{Bool, true, false, cond, not}
use mathlib.Core.List.{List, ◌∷◌}
use mathlib.Core.Path.{◌≡◌, refl}
use native.Mathlib.Omega.{arith}
use lib.Dec.{eqb}
use lib.ListN.{length, get_or}
use borrow.Author.Tests.{eqb-true}
use Rattle.bounded.specs.Rows.{Row, refusal}
use Rattle.bounded.proofs.Below.{count-le}
use Rattle.bounded.proofs.Those.{length-those}
use Rattle.bounded.proofs.Tests.{case_on, row_keeps}
use Rattle.layout.specs.declared.Sizes.{Sizes}
use Rattle.meters.specs.Meters.{moves_credit}
use Rattle.replay.specs.Table.{no_position}
use Rattle.state.specs.State.{State}
use Rattle.state.specs.declared.Op.{Op}
use Rattle.state.specs.declared.Op.TheVariants.{Idle, Write, Commit, Consolidate, Checkpoint, Event, Prepare, Confirm, Log, Copy, Format}
use Rattle.state.specs.Held.{held_at, held_slots}
use Rattle.state.specs.Slots.{slot_of_page}
use Rattle.operations.specs.Operations.{needs, recorded_slots}
use Rattle.validity.specs.Validity.{state_ok}
use Rattle.refinement.proofs.Valid.{legal-sizes}
use Rattle.refinement.proofs.StateValid.{valid}
use Rattle.placing.proofs.Placed.{copies-few}

-- a refused call has none
pub answered-low : (row n b : ℕ) → (row ≡ 0 → n ≤ b) → cond (eqb row 0) n 0 ≤ b
answered-low row n b f = case_on (eqb row 0) (λ t. rw t (f (eqb-true row 0 t))) (λ t. rw t (omega arith))

-- a taken one has a state that row 8 takes
pub taken-valid : (ok : Bool) (rs : List Row) → refusal ((not ok, 8) ∷ rs) ≡ 0 → ok ≡ true
taken-valid true rs e = refl
taken-valid false rs e = absurd (let z : ◌≡◌ {A = ℕ} 8 0 = e in omega arith)

pub consolidate-low : (st : State) (p : ℕ) → needs st (Consolidate p) ≤ 262
unfolding needs
consolidate-low st p = omega (arith, copies-few (get_or st.table.bitmap (slot_of_page st.sizes st.table.page p) 0))

-- a writer holds lines of at most S slots
pub held-few : (z : Sizes) (held : List ℕ) (w : ℕ) → length (held_slots z held w) ≤ z.slots
unfolding held_slots
held-few z held w =
    let f : ℕ → Bool = λ s. not (eqb (held_at held w s) 0) in
    omega (arith, length-those f z.slots, count-le f z.slots)

module _ (st : State) (ok : state_ok st ≡ true) where
  held_low : (w : ℕ) → length (held_slots st.sizes st.writers.held w) ≤ 16
  held_low w = omega (arith, held-few st.sizes st.writers.held w, (legal-sizes st ok).slots-high)

  pub commit-low : (w : ℕ) → needs st (Commit w) ≤ 262
  unfolding needs
  commit-low w =
      let n = length (held_slots st.sizes st.writers.held w) in
      case_on (eqb n 0) (λ t. rw t (omega arith)) (λ t. rw t (omega (arith, held_low w)))

  -- a wide commit copies at most as many lines as there are entries
  pub wide_low : needs st Copy ≤ 8 * st.sizes.entries + 2
  unfolding needs
  wide_low =
      let n = st.wide.count in
      case_on (eqb n 0) (λ t. rw t (omega arith)) (λ t. rw t (omega (arith, (valid st ok).entries.few)))

  recorded-low : length (recorded_slots st.sizes st.table.last) ≤ 16
  unfolding recorded_slots
  recorded-low =
      let f : ℕ → Bool = λ s. not (eqb (get_or st.table.last s 0) no_position) in
      omega (arith, length-those f st.sizes.slots, count-le f st.sizes.slots, (legal-sizes st ok).slots-high)

  pub checkpoint-low : needs st Checkpoint ≤ 262
  unfolding needs
  checkpoint-low = case_on (eqb st.head st.tail) (λ t. rw t (omega arith)) (λ t. rw t (omega (arith, recorded-low)))

  prepare-low : (w : ℕ) → needs st (Prepare w) ≤ 64
  unfolding needs
  prepare-low w = omega (arith, held_low w)

  confirm-low : (w : ℕ) → needs st (Confirm w) ≤ 1
  unfolding needs
  confirm-low w =
      row_keeps (λ (n : ℕ). n ≤ 1) (eqb (length (held_slots st.sizes st.writers.held w)) 0) 0 1 (omega arith) (omega arith)

  -- a format's image has at most 535,160 words
  format-low : needs st Format ≤ 535161
  unfolding needs
  format-low = omega (arith, legal-sizes st ok)

  -- of any operation
  pub needs-low : (op : Op) → needs st op ≤ 535161
  unfolding needs
  needs-low Idle = omega arith
  needs-low (Write w p l o n) = omega arith
  needs-low (Commit w) = omega (arith, commit-low w)
  needs-low (Consolidate p) = omega (arith, consolidate-low st p)
  needs-low Checkpoint = omega (arith, checkpoint-low)
  needs-low (Event k m a) = row_keeps (λ (n : ℕ). n ≤ 535161) (moves_credit k) 21 13 (omega arith) (omega arith)
  needs-low (Prepare w) = omega (arith, prepare-low w)
  needs-low (Confirm w) = omega (arith, confirm-low w)
  needs-low (Log p l o n) = omega arith
  needs-low Copy = omega (arith, wide_low, (legal-sizes st ok).entries-high)
  needs-low Format = format-low
