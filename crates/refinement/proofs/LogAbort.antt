-- An abort of a wide transaction leaves the state without it. No other writer is open.
use Prim.Native.Nat.{ℕ}
use mathlib.Core.Bool.{Bool, not, cond}
use mathlib.Core.List.{List}
use mathlib.Core.Logic.{inl}
use mathlib.Core.Path.{◌≡◌, refl, sym, ap, subst}
use borrow.Author.Tests.{eq-eqb}
use Rattle.bounded.specs.Rows.{refusal}
use Rattle.state.specs.State.{State}
use Rattle.state.specs.declared.Op.TheVariants.{Copy}
use Rattle.state.specs.Wide.{no_wide, dropped}
use Rattle.refinement.specs.Commit.{closed_writer}
use Rattle.refinement.specs.Settled.{no_pending}
use Rattle.refinement.specs.Stores.{World, completed}
use Rattle.refinement.specs.Calls.{world_of, abort_rows, abort_of}
use Rattle.refinement.specs.Run.{abort, exec}
use Rattle.refinement.specs.Reference.{Reference, emptied}
use Rattle.refinement.proofs.Begun.{abort-taken, aborting}
use Rattle.refinement.proofs.Invariant.{Quiet}
use Rattle.refinement.proofs.StepCall.{work-same}
use Rattle.refinement.proofs.Logging.{Logging, only-open, at_rest}
use Rattle.refinement.proofs.LoggingStanding.{logging-standing}
use Rattle.refinement.proofs.Cases.{narrow, logging, Kept, Then, Invariant}
use Rattle.refinement.proofs.Next.{answered-still}

-- the state after it
aborted : (st : State) → st.pending ≡ no_pending → aborting st st.wide.writer ≡ completed st Copy
aborted st e =
    let f : dropped st.wide st.wide.writer ≡ no_wide = ap (λ (x : Bool). cond x no_wide st.wide) (eq-eqb st.wide.writer st.wide.writer refl) in
    λ i.
    record { sizes = st.sizes; head = st.head; tail = st.tail; next = st.next; table = st.table; map = st.map; writers = closed_writer st.sizes st.writers st.wide.writer; wide = f i; pending = e i }

pub log-abort : {past : List ℕ} (w : ℕ) (v : World) (b : Reference) → Logging past v.st v.image b → Kept past (abort w) v b
unfolding exec abort_of
log-abort {past = past} w v b G =
    let st = v.st in
    let img = v.image in
    let S = logging-standing v b G in
    let r =
    answered-still (Invariant _) (abort w) v b (refusal (abort_rows st w)) 0 (aborting st w) (logging G)
    (λ e.
    let T = abort-taken st w e in
    let x : ℕ = st.wide.writer in
    let own : x ≡ w = only-open st G.valid G.low w T.writer-low T.opened in
    let q : Quiet past (completed st Copy) img (emptied x b) = subst (Quiet past (completed st Copy) img) (work-same (emptied x b) _ (S.work-idle (ap not T.quiet))) (at_rest st img b G) in
    let a : Then past v (world_of (aborting st x) img) (emptied x b) =
    record { sizes = refl; related = narrow (inl (inl (subst (λ (s : State). Quiet past s img (emptied x b)) (sym (aborted st (S.none-pending (ap not T.quiet)))) q))) } in
    subst (λ (y : ℕ). Then past v (world_of (aborting st y) img) (emptied y b)) own a) in
    record { right = tt; sizes = r.sizes; related = r.related }
