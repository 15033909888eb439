-- An operation asked for: what is pending changes neither what an operation needs nor its rows, and the state stays valid.
use Prim.Native.Nat.{ℕ, ◌<◌}
use mathlib.Core.Bool.{true}
use mathlib.Core.List.{List}
use mathlib.Core.Path.{◌≡◌, refl, ◌∙◌}
use Rattle.bounded.specs.Rows.{refusal}
use Rattle.state.specs.State.{State}
use Rattle.state.specs.declared.Op.{Op}
use Rattle.state.specs.declared.Op.TheVariants.{Idle, Write, Commit, Consolidate, Checkpoint, Event, Prepare, Confirm, Log, Copy, Format}
use Rattle.operations.specs.Operations.{needs, op_rows}
use Rattle.validity.specs.Validity.{op_fits, state_ok, is_fresh}
use Rattle.refinement.specs.Settled.{with_lines}
use Rattle.refinement.proofs.StateValid.{valid, valid-ok}
use Rattle.refinement.proofs.Pending.{pends-ok}

module _ (st : State) (line second : List ℕ) where
  pub needs-lines : (op o : Op) → needs (with_lines st o line second) op ≡ needs st op
  unfolding needs
  needs-lines Idle o = refl
  needs-lines (Write w p l a n) o = refl
  needs-lines (Commit w) o = refl
  needs-lines (Consolidate p) o = refl
  needs-lines Checkpoint o = refl
  needs-lines (Event k m a) o = refl
  needs-lines (Prepare w) o = refl
  needs-lines (Confirm w) o = refl
  needs-lines (Log p l i n) o = refl
  needs-lines Copy o = refl
  needs-lines Format o = refl

  pub rows-lines : (op o : Op) → refusal (op_rows (with_lines st o line second) op) ≡ refusal (op_rows st op)
  rows-lines Idle o = refl
  rows-lines (Write w p l a n) o = refl
  rows-lines (Commit w) o = refl
  rows-lines (Consolidate p) o = refl
  rows-lines Checkpoint o = refl
  rows-lines (Event k m a) o = refl
  rows-lines (Prepare w) o = refl
  rows-lines (Confirm w) o = refl
  rows-lines (Log p l i n) o = refl
  rows-lines Copy o = refl
  rows-lines Format o = refl

  pub lines-valid : (op : Op) → state_ok st ≡ true → op_fits st.wide.writer (is_fresh st) op ≡ true → refusal (op_rows st op) ≡ 0 → 0 < needs st op → state_ok (with_lines st op line second) ≡ true
  lines-valid op e k r l =
      let v = valid st e in
      valid-ok (with_lines st op line second)
      (record {
        legal = v.legal;
        positions = v.positions;
        slots = v.slots;
        held = v.held;
        next_low = v.next_low;
        lasts = v.lasts;
        prepared = v.prepared;
        entries = v.entries;
        wide = v.wide;
        pending = pends-ok (with_lines st op line second) op refl (record { fits = k; made-low = rw (needs-lines op op) l; taken = rows-lines op op ∙ r });
      })
