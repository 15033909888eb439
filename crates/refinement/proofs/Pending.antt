-- The pending operation of a valid state: fewer stores made than it needs, and no row turns it back. Until its last
-- store, a store keeps the state valid, and what the operation needs stays the same.
use Prim.Native.Nat.{ℕ, ◌<◌}
use mathlib.Core.Bool.{Bool, true, false, ◌&&◌, ◌||◌}
use mathlib.Core.Path.{◌≡◌, refl, sym, ap, ◌∙◌}
use native.Mathlib.Omega.{arith}
use lib.Dec.{ltb, eqb}
use borrow.Author.Tests.{eqb-true, ltb-true, lt-ltb, eq-eqb}
use Rattle.bounded.specs.Rows.{refusal}
use Rattle.bounded.proofs.Tests.{and_left, and_right}
use Rattle.state.specs.State.{State}
use Rattle.state.specs.declared.Op.{Op}
use Rattle.state.specs.declared.Op.TheVariants.{Idle, Write, Commit, Consolidate, Checkpoint, Event, Prepare, Confirm, Log, Copy, Format}
use Rattle.operations.specs.Operations.{is_idle, op_rows, needs}
use Rattle.validity.specs.Validity.{op_fits, pending_ok, state_ok, is_fresh}
use Rattle.refinement.specs.Stores.{with_made}
use Rattle.refinement.proofs.StateValid.{valid, valid-ok}

-- what needs a store is pending
pub needing : (st : State) (op : Op) (i : ℕ) → i < needs st op → is_idle op ≡ false
unfolding needs
needing st Idle i l = absurd (omega arith)
needing st (Write w p m o n) i l = refl
needing st (Commit w) i l = refl
needing st (Consolidate p) i l = refl
needing st Checkpoint i l = refl
needing st (Event k m a) i l = refl
needing st (Prepare w) i l = refl
needing st (Confirm w) i l = refl
needing st (Log p m o n) i l = refl
needing st Copy i l = refl
needing st Format i l = refl

-- nothing is pending
pub idle-ok : (st : State) → is_idle st.pending.op ≡ true → pending_ok st ≡ true
unfolding pending_ok
idle-ok st e = rw e

-- an operation is
pub record Pends (st : State) (op : Op) : Type 0 where
  pub fits : op_fits st.wide.writer (is_fresh st) op ≡ true
  pub made-low : st.pending.made < needs st op
  pub taken : refusal (op_rows st op) ≡ 0

pub pends-ok : (st : State) (op : Op) → st.pending.op ≡ op → Pends st op → pending_ok st ≡ true
unfolding pending_ok
pends-ok st op e h =
    let busy : Op → Bool = λ o. op_fits st.wide.writer (is_fresh st) o && (ltb st.pending.made (needs st o) && eqb (refusal (op_rows st o)) 0) in
    let is : busy op ≡ true =
    rw (h.fits, lt-ltb st.pending.made (needs st op) h.made-low) (eq-eqb (refusal (op_rows st op)) 0 h.taken) in
    or-second (is_idle st.pending.op) (busy st.pending.op) (ap busy e ∙ is)
  where
    or-second : (a b : Bool) → b ≡ true → a || b ≡ true
    or-second true b e = refl
    or-second false b e = e

pub pends : (st : State) (op : Op) → state_ok st ≡ true → st.pending.op ≡ op → is_idle op ≡ false → Pends st op
unfolding pending_ok
pends st op v e i =
    let a = ltb st.pending.made (needs st op) in
    let b = eqb (refusal (op_rows st op)) 0 in
    let c = op_fits st.wide.writer (is_fresh st) op in
    let h : is_idle op || (c && (a && b)) ≡ true =
    ap (λ (o : Op). is_idle o || (op_fits st.wide.writer (is_fresh st) o && (ltb st.pending.made (needs st o) && eqb (refusal (op_rows st o)) 0))) (sym e) ∙ (valid st v).pending in
    let f : c && (a && b) ≡ true = ap (λ (x : Bool). x || (c && (a && b))) (sym i) ∙ h in
    let k : a && b ≡ true = and_right c (a && b) f in
    record {
      fits = and_left c (a && b) f;
      made-low = ltb-true st.pending.made (needs st op) (and_left a b k);
      taken = eqb-true (refusal (op_rows st op)) 0 (and_right a b k);
    }

-- what an operation needs does not depend on the stores made
pub needs-made : (st : State) (m : ℕ) (op : Op) → needs (with_made st m) op ≡ needs st op
unfolding needs
needs-made st m Idle = refl
needs-made st m (Write w p l o n) = refl
needs-made st m (Commit w) = refl
needs-made st m (Consolidate p) = refl
needs-made st m Checkpoint = refl
needs-made st m (Event k i a) = refl
needs-made st m (Prepare w) = refl
needs-made st m (Confirm w) = refl
needs-made st m (Log p l o n) = refl
needs-made st m Copy = refl
needs-made st m Format = refl

-- nor do its rows
pub rows_made : (st : State) (m : ℕ) (op : Op) → refusal (op_rows (with_made st m) op) ≡ refusal (op_rows st op)
rows_made st m Idle = refl
rows_made st m (Write w p l o n) = refl
rows_made st m (Commit w) = refl
rows_made st m (Consolidate p) = refl
rows_made st m Checkpoint = refl
rows_made st m (Event k i a) = refl
rows_made st m (Prepare w) = refl
rows_made st m (Confirm w) = refl
rows_made st m (Log p l o n) = refl
rows_made st m Copy = refl
rows_made st m Format = refl

pub made-valid : (st : State) (m : ℕ) → state_ok st ≡ true → is_idle st.pending.op ≡ false → m < needs st st.pending.op → state_ok (with_made st m) ≡ true
made-valid st m e i l =
    let v = valid st e in
    let h = pends st st.pending.op e refl i in
    let op = st.pending.op in
    valid-ok (with_made st m)
    (record {
      legal = v.legal;
      positions = v.positions;
      slots = v.slots;
      held = v.held;
      next_low = v.next_low;
      lasts = v.lasts;
      prepared = v.prepared;
      entries = v.entries;
      wide = v.wide;
      pending =
          pends-ok (with_made st m) op refl
          (record { fits = h.fits; made-low = rw (needs-made st m op) l; taken = rows_made st m op ∙ h.taken });
    })
