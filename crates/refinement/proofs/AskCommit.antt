-- A commit asked for. With no lines held it needs no store: it closes the writer, whose unfinished writes are none.
use Prim.Native.Nat.{ℕ, ◌<◌}
use mathlib.Core.Bool.{true, Bool, false, cond, not}
use mathlib.Core.List.{List}
use mathlib.Core.Logic.{inl, inr}
use mathlib.Core.Path.{◌≡◌, refl, sym, ap, ◌∙◌, subst}
use native.Mathlib.Omega.{arith}
use lib.Dec.{eqb}
use lib.ListN.{length, replicate}
use borrow.Author.Tests.{eqb-true, ne_eqb, ltb-true}
use Rattle.bounded.specs.Below.{up_to}
use Rattle.bounded.specs.Rows.{refusal}
use Rattle.bounded.proofs.Below.{count-before}
use Rattle.bounded.proofs.Rows.{none-apply, row-none}
use Rattle.bounded.proofs.Tests.{case_on}
use Rattle.bounded.proofs.Those.{length-those}
use Rattle.layout.specs.declared.Sizes.{Sizes}
use Rattle.journal.specs.Records.{position}
use Rattle.replay.specs.Table.{replay}
use Rattle.journal.proofs.Ring.{pos-none}
use Rattle.masks.proofs.Members.{in-none}
use Rattle.state.specs.State.{State}
use Rattle.state.specs.declared.Op.{Op}
use Rattle.state.specs.declared.Op.TheVariants.{Commit}
use Rattle.state.specs.Held.{no_writer, held_at, held_slots}
use Rattle.operations.specs.Operations.{slot_for, slotted, needs, commit_rows}
use Rattle.validity.specs.Validity.{state_ok}
use Rattle.operations.proofs.Taken.{CommitTaken, commit-taken}
use Rattle.refinement.specs.Commit.{commit_slots, commit_head, commit_table, commit_record, closed_writer}
use Rattle.refinement.specs.Settled.{with_prepared}
use Rattle.refinement.specs.Stores.{World, completed}
use Rattle.refinement.proofs.CommitValid.{committed-valid}
use Rattle.refinement.proofs.StateValid.{valid}
use Rattle.refinement.specs.Calls.{commit_call_rows, commit_of, commit_op, with_pending, world_of}
use Rattle.refinement.specs.Run.{commit, exec}
use Rattle.refinement.specs.Reference.{Reference, Cell, laid_over, committing, under, with_work, laid, emptied, taken, starts, starts_copy}
use Rattle.refinement.proofs.Invariant.{Quiet, Related, holds, not_wide}
use Rattle.refinement.proofs.Abort.{closed, aborted}
use Rattle.refinement.proofs.Asked.{all_left, asked-busy}
use Rattle.refinement.proofs.Begun.{unprepared, unprepared-valid}
use Rattle.refinement.proofs.Keeps.{durable-kept, quiet-pages}
use Rattle.refinement.proofs.Sound.{After, Sound, is-quiet, quiet-idle}
use Rattle.refinement.proofs.WriterCalls.{commit-narrow}
use Rattle.refinement.proofs.Next.{asked-next}

-- no slot with held lines: every mask is empty
unheld : (z : Sizes) (held : List ℕ) (w : ℕ) → length (held_slots z held w) ≡ 0 → (s : ℕ) → s < z.slots → held_at held w s ≡ 0
unfolding held_slots
unheld z held w e s l =
    let f : ℕ → Bool = λ s. not (eqb (held_at held w s) 0) in
    case_on (eqb (held_at held w s) 0)
    (λ t. eqb-true (held_at held w s) 0 t)
    (λ t. absurd (omega (arith, e, length-those f z.slots, count-before f z.slots s l (ap not t))))

none_needed : (st : State) (w : ℕ) → needs st (Commit w) ≡ 0 → length (commit_slots st w) ≡ 0
unfolding needs
none_needed st w e =
    let n : ℕ = length (commit_slots st w) in
    case_on (eqb n 0) (λ t. eqb-true n 0 t) (λ t. absurd (omega (arith, rw t at e)))

-- no writer is prepared any more
pub unprepared-quiet : {past : List ℕ} (st : State) (img : List ℕ) (b : Reference) → Quiet past st img b → Quiet past (unprepared st) img b
unprepared-quiet st img b q =
    let ws = q.writers in
    record {
      valid = unprepared-valid st q.valid (quiet-idle st img b q);
      pending = q.pending;
      durable = durable-kept st img b b st.next (with_prepared st.writers no_writer) st.pending (λ p l h k. refl) q.durable;
      writers = record { four = ws.four; sixty-four = ws.sixty-four; held_low = ws.held_low; own-copy = ws.own-copy; no_writes = ws.no_writes; ready = λ l. absurd (omega arith) };
      work = q.work;
      narrow = record { state = q.narrow.state; book = q.narrow.book };
    }

module _ {past : List ℕ} (st : State) (img : List ℕ) (b : Reference) (w : ℕ) (T : CommitTaken st w) (q : Quiet past st img b) (empty : length (commit_slots st w) ≡ 0) where
  none-holds : (p l : ℕ) → holds st w p l ≡ false
  none-holds p l =
      case_on (slotted st p)
      (λ t. rw (t, unheld st.sizes st.writers.held w empty (slot_for st p) (ltb-true (slot_for st p) st.sizes.slots t)) (in-none l))
      (λ t. rw t)

  -- the state is as after a withdraw and an abort
  same-table : commit_table st w ≡ st.table
  unfolding replay up_to
  same-table = ap (λ (n : ℕ). replay st.sizes st.head n (commit_record st w) st.table) empty

  same_head : commit_head st w ≡ st.head
  same_head = ap (position st.sizes st.head) empty ∙ pos-none st.sizes st.head (valid st q.valid).positions.head-low

  as-aborted : closed (unprepared st) w ≡ completed st (Commit w)
  unfolding closed_writer
  as-aborted =
      let e₁ = same_head in
      let e₂ = same-table in
      let e₃ = q.pending in
      sym (λ i. record { sizes = st.sizes; head = e₁ i; tail = st.tail; next = st.next; table = e₂ i; map = st.map; writers = with_prepared (closed_writer st.sizes st.writers w) no_writer; wide = st.wide; pending = sym e₃ i })

  -- and so are the pages
  pub empty-commit : Quiet past (completed st (Commit w)) img (emptied w (laid w b))
  empty-commit =
      subst (λ (s : State). Quiet past s img (emptied w (laid w b))) as-aborted
      (quiet-pages (closed (unprepared st) w) img (emptied w b) (laid w b).pages
      (λ p l i h k m. ap (λ (c : Cell). laid_over c (b.pages p l i)) (sym (q.writers.no_writes w p l i T.writer-low h k m (none-holds p l))))
      (aborted (unprepared st) img b w (subst (λ (s : State). state_ok s ≡ true) (sym as-aborted) (committed-valid st w q.valid q.durable.behind.sixteen T (not_wide st b w q.narrow T.writer-low)))
      (λ e. omega (arith, e, T.writer-low)) (unprepared-quiet st img b q)))

pub op_row : (st : State) (img : List ℕ) (w : ℕ) → refusal (commit_call_rows st img w) ≡ 0 → refusal (commit_rows st w) ≡ 0
op_row st img w e = let rows = none-apply (commit_call_rows st img w) (omega arith) e in sym (row-none (commit_rows st w) rows.1.1.1)

-- the book's wide writer is none below 4
book-narrow : (b : Reference) (w n : ℕ) → b.wide ≡ no_writer → w < 4 → taken (commit w) n b ≡ starts (committing w) n b
book-narrow b w n e l =
    ap (λ (x : Bool). cond x (starts_copy w n b) (starts (committing w) n b)) (ne_eqb b.wide w (λ q. omega (arith, q, e)))

pub commit-sound : {past : List ℕ} (w : ℕ) (v : World) (b : Reference) → Related past v b → Sound past (commit w) v b
unfolding exec commit_of
commit-sound {past = past} w v b h =
    let st = v.st in
    let img = v.image in
    let rows = none-apply (commit_call_rows st img w) (omega arith) in
    let row : ℕ = refusal (commit_call_rows st img w) in
    let can : row ≡ 0 → CommitTaken st w = λ e. commit-taken st w (op_row st img w e) in
    let q : row ≡ 0 → Quiet past st img b = λ e. is-quiet st img b h (rows e).1.1.0 in
    let op : row ≡ 0 → Commit w ≡ commit_op st w = λ e. sym (commit-narrow st img w (not_wide st b w (q e).narrow (can e).writer-low)) in
    let a =
    asked-next (Related _) (commit w) v b (commit_op st w) (replicate 8 0) (committing w) row (λ e n. book-narrow b w n (q e).narrow.book (can e).writer-low) h
    (λ e z.
    subst (λ (o : Op). After past v (world_of (completed st o) img) (emptied w (laid w b))) (op e)
    (record { sizes = refl; related = inl (empty-commit st img b w (can e) (q e) (none_needed st w (ap (needs st) (op e) ∙ z))) }))
    (λ e z.
    subst (λ (o : Op). After past v (world_of (with_pending st o (replicate 8 0)) img) (with_work (under (committing w) (needs st o)) b)) (op e)
    (record { sizes = refl; related = inr (asked-busy st img b (Commit w) (replicate 8 0) (committing w) (q e) (ap not (not_wide st b w (q e).narrow (can e).writer-low)) (subst (λ (o : Op). 0 < needs st o) (sym (op e)) z) (op_row st img w e) (all_left st (Commit w) (replicate 8 0) (committing w))) })) in
    record { right = tt; sizes = a.sizes; related = a.related }
