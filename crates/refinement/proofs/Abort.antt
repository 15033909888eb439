-- Abort closes a writer: its held lines and its unfinished writes are gone together, and the committed copies stay.
use Rattle.state.specs.Wide.{no_wide}
use Prim.Native.Nat.{ℕ, ◌<◌}
use mathlib.Core.Bool.{true, not, false, Bool, cond}
use mathlib.Core.List.{List}
use mathlib.Core.Logic.{inl}
use mathlib.Core.Path.{◌≡◌, refl, sym, ap, ◌∙◌, subst}
use native.Mathlib.Omega.{arith}
use lib.Dec.{eqb}
use borrow.Author.Tests.{eqb-true, eqb-false, ltb-true}
use Rattle.bounded.specs.Rows.{refusal}
use Rattle.bounded.proofs.Tests.{case_on, contradicts}
use Rattle.layout.specs.Layout.{Legal}
use Rattle.masks.proofs.Members.{in-none}
use Rattle.state.specs.State.{State}
use Rattle.state.specs.Held.{held_at}
use Rattle.operations.specs.Operations.{slot_for, slotted}
use Rattle.validity.specs.Validity.{state_ok}
use Rattle.refinement.specs.Commit.{closed_writer}
use Rattle.refinement.specs.Stores.{World}
use Rattle.refinement.proofs.Closed.{closed-opened-length, closed-held-length, closed-holds, others-hold}
use Rattle.refinement.proofs.StateValid.{valid}
use Rattle.refinement.specs.Calls.{abort_rows, abort_of, with_writers, with_wide, world_of}
use Rattle.refinement.proofs.Begun.{aborting, abort-taken, abort-valid}
use Rattle.refinement.specs.Run.{abort, exec}
use Rattle.refinement.specs.Reference.{Reference, emptied}
use Rattle.refinement.proofs.Invariant.{holds, Writing, Never, Quiet, Related, Narrow, not_wide}
use Rattle.refinement.proofs.Sound.{Sound, is-quiet}
use Rattle.refinement.proofs.Keeps.{durable-kept}
use Rattle.refinement.proofs.Records.{stored_same}
use Rattle.refinement.proofs.Next.{answered-still}

abbrev pub closed : State → ℕ → State
closed st w = with_writers st (closed_writer st.sizes st.writers w)

module _ (st : State) (w : ℕ) (legal : Legal st.sizes) where
  -- a closed writer holds nothing
  holds-none : (p l : ℕ) → holds (closed st w) w p l ≡ false
  holds-none p l =
      case_on (slotted st p)
      (λ t. rw (t, closed-holds st.sizes legal st.writers w (slot_for st p) (ltb-true (slot_for st p) st.sizes.slots t)) (in-none l))
      (λ t. rw t)

  -- another one what it held
  holds-other : (v p l : ℕ) → (v ≡ w → ⊥) → holds (closed st w) v p l ≡ holds st v p l
  holds-other v p l n =
      case_on (slotted st p)
      (λ t. rw (t, others-hold st.sizes legal st.writers w v (slot_for st p) (ltb-true (slot_for st p) st.sizes.slots t) n))
      (λ t. rw t)

  held_below : (v s : ℕ) → s < st.sizes.slots → (b : ℕ) → held_at st.writers.held v s < b → 0 < b → held_at (closed_writer st.sizes st.writers w).held v s < b
  held_below v s l b h k =
      case_on (eqb v w)
      (λ e. rw (eqb-true v w e, closed-holds st.sizes legal st.writers w s l) k)
      (λ e. rw (others-hold st.sizes legal st.writers w v s l (eqb-false v w e)) h)

aborted-writers : (st : State) (img : List ℕ) (b : Reference) (w : ℕ) → Legal st.sizes → (st.writers.prepared ≡ w → ⊥) → Writing st img b Never
    → Writing (closed st w) img (emptied w b) Never
unfolding closed_writer
aborted-writers st img b w legal other ws =
    record {
      four = closed-opened-length st.sizes legal st.writers w ∙ ws.four;
      sixty-four = closed-held-length st.sizes legal st.writers w ∙ ws.sixty-four;
      held_low = λ v s k l. held_below st w legal v s l _ (ws.held_low v s k l) (omega arith);
      own-copy = λ v p l k h m n t.
          case_on (eqb v w)
          (λ e. contradicts t (ap (λ (x : ℕ). holds (closed st w) x p l) (eqb-true v w e) ∙ holds-none st w legal p l))
          (λ e. rw e (ws.own-copy v p l k h m n (sym (holds-other st w legal v p l (eqb-false v w e)) ∙ t)));
      no_writes = λ v p l i k h m j t.
          case_on (eqb v w)
          (λ e. rw e)
          (λ e. rw e (ws.no_writes v p l i k h m j (sym (holds-other st w legal v p l (eqb-false v w e)) ∙ t)));
      ready = λ l.
          stored_same st.sizes st.head st.table st.table st.writers.held (closed_writer st.sizes st.writers w).held st.writers.prepared
          (λ s k. others-hold st.sizes legal st.writers w st.writers.prepared s k other) (λ s k n. refl) img (ws.ready l);
    }

pub aborted : {past : List ℕ} (st : State) (img : List ℕ) (b : Reference) (w : ℕ) → state_ok (closed st w) ≡ true → (st.writers.prepared ≡ w → ⊥) → Quiet past st img b → Quiet past (closed st w) img (emptied w b)
aborted st img b w e other q =
    record {
      valid = e;
      pending = q.pending;
      durable = durable-kept st img b (emptied w b) st.next (closed_writer st.sizes st.writers w) st.pending (λ p l h k. refl) q.durable;
      writers = aborted-writers st img b w (valid st q.valid).legal other q.writers;
      work = q.work;
      narrow = record { state = q.narrow.state; book = case_on (eqb b.wide w) (λ t. rw t) (λ t. rw t q.narrow.book) };
    }

-- no wide transaction is dropped
none_dropped : (st : State) (b : Reference) (w : ℕ) → Narrow st b → w < 4 → aborting st w ≡ closed st w
none_dropped st b w n l = ap (λ (x : Bool). with_wide (closed st w) (cond x no_wide st.wide)) (not_wide st b w n l)

pub abort-sound : {past : List ℕ} (w : ℕ) (v : World) (b : Reference) → Related past v b → Sound past (abort w) v b
unfolding exec abort_of
abort-sound {past = past} w v b h =
    let st = v.st in
    let a =
    answered-still (Related _) (abort w) v b (refusal (abort_rows st w)) 0 (aborting st w) h
    (λ e.
    let q = is-quiet st v.image b h (ap not (abort-taken st w e).quiet) in
    let same = none_dropped st b w q.narrow (abort-taken st w e).writer-low in
    record {
      sizes = refl;
      related =
          subst (λ (s : State). Related past (world_of s v.image) (emptied w b)) (sym same)
          (inl (aborted st v.image b w (ap state_ok (sym same) ∙ abort-valid st w e) (abort-taken st w e).unprepared q));
    }) in
    record { right = tt; sizes = a.sizes; related = a.related }
