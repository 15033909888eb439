-- A call and all its stores, from a world in which writer 0 is alone to the next one.
use Prim.Native.Nat.{ℕ, ◌-◌, ◌<◌, ◌≤◌, min}
use mathlib.Core.Bool.{Bool, true, false, not}
use mathlib.Core.List.{List, [], ◌∷◌}
use mathlib.Core.Path.{◌≡◌, refl, sym, ap, ◌∙◌, subst}
use native.Mathlib.Omega.{arith}
use lib.Dec.{eqb}
use lib.ListN.{length, get_or, replicate}
use lib.Seq.{get_or-set_same, get_or-set_other}
use borrow.Author.Tests.{eqb-true, eqb-false, eq-eqb, leb-false, le-ltb}
use Rattle.bounded.proofs.Rows.{row-none, none-apply}
use Rattle.bounded.proofs.Tests.{case_on, contradicts}
use Rattle.layout.specs.declared.Sizes.{Sizes}
use Rattle.layout.specs.Layout.{image_length}
use Rattle.journal.specs.declared.Slot.{Slot}
use Rattle.journal.specs.Slots.{no_page}
use Rattle.state.specs.State.{State, Wide}
use Rattle.state.specs.declared.Op.{Op}
use Rattle.state.specs.declared.Op.TheVariants.{Write, Commit, Consolidate, Checkpoint}
use Rattle.state.specs.Held.{is_open}
use Rattle.state.specs.Slots.{free_at, free_after}
use Rattle.state.specs.Wide.{is_wide}
use Rattle.operations.specs.Operations.{is_idle, slot_for, needs}
use Rattle.operations.proofs.Taken.{consolidate-taken}
use Rattle.validity.specs.Validity.{state_ok}
use Rattle.refinement.specs.Stores.{World, completed, left}
use Rattle.refinement.specs.Freeing.{freed_slot, freed_page}
use Rattle.refinement.specs.Consolidate.{freeing_record, consolidate_table}
use Rattle.refinement.specs.Commit.{closed_writer, commit_record_of}
use Rattle.refinement.specs.Calls.{with_pending, world_of, asked, finished_line, changes_nothing, begin_of, abort_of, write_of, commit_op, commit_of, free_call_rows, free_of, checkpoint_of, step_row, step_rows, run_of}
use Rattle.refinement.specs.Run.{Call, Result, result, begin, abort, commit, free, checkpoint, write, run, exec}
use Rattle.refinement.specs.Reference.{Reference, turn}
use Rattle.refinement.specs.Statement.{Lent}
use Rattle.refinement.proofs.CallAsked.{needs-asked}
use Rattle.refinement.proofs.Cases.{standing-of}
use Rattle.refinement.proofs.Choice.{own-slot, free-rows}
use Rattle.refinement.proofs.ConsolidateValid.{freed-same}
use Rattle.refinement.proofs.Pending.{pends}
use Rattle.refinement.proofs.Reached.{Reached, reached-next}
use Rattle.refinement.proofs.Refused.{refused-unchanged}
use Rattle.refinement.proofs.StateValid.{valid}
use Rattle.refinement.proofs.Steps.{run-all}
use Rattle.refinement.proofs.Viewed.{viewed-fits}
use Rattle.trial_laws.proofs.Alone.{Only, Alone, ok, long, free-found}
use Rattle.trial_laws.proofs.Standing.{through}

-- ---- a run

-- with nothing pending it changes nothing
idle-run : (n : ℕ) (u : World) → is_idle u.st.pending.op ≡ true → (exec (run n) u).world ≡ u
unfolding exec run_of
idle-run n u e = (refused-unchanged (run n) u (λ z. contradicts e (none-apply (step_rows u.st u.image) (omega arith) z).1.1.0)).world

-- of all stores that are left
run_ends : (n : ℕ) (u : World) → state_ok u.st ≡ true
    → image_length u.st.sizes ≤ length u.image → is_idle u.st.pending.op ≡ false → left u.st ≤ n
    → (exec (run n) u).world.st ≡ completed u.st u.st.pending.op
unfolding exec run_of
run_ends n u valid fits busy enough =
    let long = le-ltb (length u.image) (image_length u.st.sizes) fits in
    let row : 0 ≡ step_row u.st u.image = row-none (step_rows u.st u.image) (ap not valid, (long, (busy, tt))) in
    let low = (pends u.st u.st.pending.op valid refl busy).made-low in
    let m : min n (left u.st) ≡ left u.st = omega arith in
    rw (← row, m) (run-all u busy (omega arith))

module _ {z : Sizes} {past : List ℕ} {mine : Bool} {v : World} (a : Alone z past mine v) (c : Call) (lent : Lent c) where
  abbrev d : Result
  d = exec c v

  abbrev asked-machine : Reference
  asked-machine = turn c d.number d.stores a.machine

  asked-reached : Reached z past d.world asked-machine
  asked-reached = reached-next c lent v a.machine a.reached

  -- what holds at the end
  after : {mine' : Bool} → is_idle (through c v).st.pending.op ≡ true → Only mine' (through c v).st → Alone z past mine' (through c v)
  after i o =
      let e = exec (run d.stores) d.world in
      record {
        machine = turn (run d.stores) e.number e.stores asked-machine;
        reached = reached-next (run d.stores) tt d.world asked-machine asked-reached;
        idle = i;
        only = o;
      }

  -- no store is needed
  pub at_once : {mine' : Bool} → is_idle d.world.st.pending.op ≡ true → Only mine' d.world.st → Alone z past mine' (through c v)
  at_once i o =
      let e = idle-run d.stores d.world i in
      after (rw e i) (rw e o)

  -- an operation is asked for, and all its stores are made
  pub by-run : (st : State) (op : Op) (line : List ℕ) → is_idle op ≡ false
      → d.world ≡ world_of (with_pending st op line) v.image → d.stores ≡ needs st op
      → (through c v).st ≡ completed (with_pending st op line) op
  by-run st op line busy e n =
      let s = standing-of d.world asked-machine asked-reached.related in
      let long = viewed-fits d.world.st d.world.image asked-machine s.viewed in
      let u = world_of (with_pending st op line) v.image in
      let ok : state_ok u.st ≡ true = subst (λ (w : World). state_ok w.st ≡ true) e s.valid in
      let fits : image_length u.st.sizes ≤ length u.image = subst (λ (w : World). image_length w.st.sizes ≤ length w.image) e long in
      ap (λ (w : World). (exec (run d.stores) w).world.st) e
      ∙ run_ends d.stores u ok fits busy (omega (arith, needs-asked st line op op, n))

  -- it is turned back
  pub refused-alone : (d.number ≡ 0 → ⊥) → Alone z past mine (through c v)
  refused-alone n =
      let e = (refused-unchanged c v n).world in
      at_once (rw e a.idle) (rw e a.only)

  -- it is taken, by the operation op, which leaves nothing pending
  module _ (op : Op) (row : ℕ) (e : d ≡ result (asked row v.st op (replicate 8 0)) v.image) (taken : row ≡ 0) (busy : is_idle op ≡ false)
      (idle : is_idle (completed v.st op).pending.op ≡ true) (same : completed (with_pending v.st op (replicate 8 0)) op ≡ completed v.st op) where
    pub asked-ends : (through c v).st ≡ completed v.st op
    asked-ends =
        case_on (eqb (needs v.st op) 0)
        (λ t.
        let w : d.world ≡ world_of (completed v.st op) v.image = ap (λ (r : Result). r.world) e ∙ rw (taken, t) in
        ap (λ (u : World). u.st) (idle-run d.stores d.world (rw w idle) ∙ w))
        (λ t.
        let w : d.world ≡ world_of (with_pending v.st op (replicate 8 0)) v.image = ap (λ (r : Result). r.world) e ∙ rw (taken, t) in
        by-run v.st op (replicate 8 0) busy w (ap (λ (r : Result). r.stores) e ∙ rw taken) ∙ same)

    pub asked-alone : {mine' : Bool} → Only mine' (completed v.st op) → Alone z past mine' (through c v)
    asked-alone o = after (rw asked-ends idle) (rw asked-ends o)

-- ---- the calls of a round

module _ {z : Sizes} {past : List ℕ} {v : World} where
  pub begin-alone : Alone z past false v → (exec (begin 0) v).number ≡ 0 → Alone z past true (through (begin 0) v)
  unfolding exec begin_of
  begin-alone a n =
      let four = (standing-of v a.machine a.reached.related).four in
      at_once a (begin 0) tt (rw n a.idle)
      (rw n
      (record {
        opened = get_or-set_same v.st.writers.opened 0 true false (omega (arith, four));
        others = λ w l h. get_or-set_other v.st.writers.opened 0 w true false (λ q. omega arith) ∙ a.only.others w l h;
        unprepared = a.only.unprepared;
        narrow = a.only.narrow;
      }))

  -- a writer closed
  closed-only : Alone z past true v
      → let opened = (closed_writer v.st.sizes v.st.writers 0).opened in (is_open opened 0 ≡ false) × ((w : ℕ) → 0 < w → w < 4 → is_open opened w ≡ false)
  unfolding closed_writer
  closed-only a =
      let four = (standing-of v a.machine a.reached.related).four in (
        get_or-set_same v.st.writers.opened 0 false false (omega (arith, four)),
        λ w l h. get_or-set_other v.st.writers.opened 0 w false false (λ q. omega arith) ∙ a.only.others w l h,
      )

  pub abort-alone : Alone z past true v → (exec (abort 0) v).number ≡ 0 → Alone z past false (through (abort 0) v)
  unfolding exec abort_of closed_writer
  abort-alone a n =
      let shut = closed-only a in
      at_once a (abort 0) tt (rw n a.idle)
      (rw n (record { opened = shut.0; others = shut.1; unprepared = a.only.unprepared; narrow = rw a.only.narrow }))

  module _ (a : Alone z past true v) where
    -- writer 0 stays open
    settled_only : (op : Op) → (completed v.st op).writers.opened ≡ v.st.writers.opened
        → (completed v.st op).writers.prepared ≡ v.st.writers.prepared → (completed v.st op).wide ≡ v.st.wide
        → Only true (completed v.st op)
    settled_only op e f g =
        record {
          opened = ap (λ (l : List Bool). is_open l 0) e ∙ a.only.opened;
          others = λ w l h. ap (λ (o : List Bool). is_open o w) e ∙ a.only.others w l h;
          unprepared = f ∙ a.only.unprepared;
          narrow = ap (λ (x : Wide). x.writer) g ∙ a.only.narrow;
        }

    pub checkpoint-ends : (exec checkpoint v).number ≡ 0 → (through checkpoint v).st ≡ completed v.st Checkpoint
    unfolding exec checkpoint_of
    checkpoint-ends n = asked-ends a checkpoint tt Checkpoint _ refl n refl refl refl

    pub checkpoint-alone : (exec checkpoint v).number ≡ 0 → Alone z past true (through checkpoint v)
    unfolding exec checkpoint_of
    checkpoint-alone n = asked-alone a checkpoint tt Checkpoint _ refl n refl refl refl (settled_only Checkpoint refl refl refl)

    free-ends : (exec free v).number ≡ 0 → (through free v).st ≡ completed v.st (Consolidate (freed_page v.st))
    unfolding exec free_of freeing_record
    free-ends n = asked-ends a free tt (Consolidate (freed_page v.st)) _ refl n refl refl refl

    free-taken-alone : (exec free v).number ≡ 0 → Alone z past true (through free v)
    unfolding exec free_of freeing_record
    free-taken-alone n =
        let op = Consolidate (freed_page v.st) in
        asked-alone a free tt op _ refl n refl refl refl (settled_only op refl refl refl)

    pub free-alone : Alone z past true (through free v)
    free-alone =
        case_on (eqb (exec free v).number 0)
        (λ t. free-taken-alone (eqb-true (exec free v).number 0 t))
        (λ t. refused-alone a free tt (eqb-false (exec free v).number 0 t))

    pub commit-alone : (exec (commit 0) v).number ≡ 0 → Alone z past false (through (commit 0) v)
    unfolding exec commit_of commit_record_of closed_writer
    commit-alone n =
        let shut = closed-only a in
        let op : commit_op v.st 0 ≡ Commit 0 = rw a.only.narrow in
        let e = ap (λ (o : Op). result (asked (exec (commit 0) v).number v.st o (replicate 8 0)) v.image) op in
        asked-alone a (commit 0) tt (Commit 0) _ e n refl refl refl (record { opened = shut.0; others = shut.1; unprepared = refl; narrow = a.only.narrow })

    write-taken-alone : (p x : ℕ) → Lent (write 0 p 0 0 1 (x ∷ [])) → (exec (write 0 p 0 0 1 (x ∷ [])) v).number ≡ 0
        → Alone z past true (through (write 0 p 0 0 1 (x ∷ [])) v)
    unfolding exec write_of needs
    write-taken-alone p x lent n =
        let c = write 0 p 0 0 1 (x ∷ []) in
        let wide : is_wide v.st.wide 0 ≡ false = rw a.only.narrow in
        case_on (changes_nothing v.st v.image 0 p 0 0 1 (x ∷ []))
        (λ t. at_once a c lent (rw (n, t) a.idle) (rw (n, t) a.only))
        (λ t.
        let line = finished_line v.st v.image 0 p 0 0 1 (x ∷ []) in
        let op = Write 0 p 0 0 1 in
        let e : (through c v).st ≡ completed (with_pending v.st op line) op =
        by-run a c lent v.st op line refl (rw (n, t, wide)) (rw (n, t, wide)) in
        after a c lent (rw e)
        (rw e (record { opened = a.only.opened; others = a.only.others; unprepared = a.only.unprepared; narrow = a.only.narrow })))

    pub write_alone : (p x : ℕ) → Lent (write 0 p 0 0 1 (x ∷ [])) → Alone z past true (through (write 0 p 0 0 1 (x ∷ [])) v)
    write_alone p x lent =
        let c = write 0 p 0 0 1 (x ∷ []) in
        case_on (eqb (exec c v).number 0)
        (λ t. write-taken-alone p x lent (eqb-true (exec c v).number 0 t))
        (λ t. refused-alone a c lent (eqb-false (exec c v).number 0 t))

    -- after the freeing of a slot one is free
    pub free-some : (exec free v).number ≡ 0 → let s = (through free v).st in free_after s.sizes s.table.page s.next < s.sizes.slots
    unfolding exec free_of
    free-some n =
        let st = v.st in
        let p = freed_page st in
        let h = none-apply (free_call_rows st v.image) (omega arith) n in
        let low = leb-false st.sizes.slots (freed_slot st) h.1.1.1.1.0 in
        let own = own-slot st (ok a) low in
        let full = (standing-of v a.machine a.reached.related).sixteen in
        let page = ap (λ (s : Slot). s.page) (freed-same st p (ok a) full (consolidate-taken st p (free-rows st v.image n))) in
        let t = (consolidate_table st p).page in
        let free : free_at t (freed_slot st) ≡ true = ap (free_at t) (sym own) ∙ eq-eqb (get_or t (slot_for st p) 0) no_page page in
        subst (λ (s : State). free_after s.sizes s.table.page s.next < s.sizes.slots) (sym (free-ends n))
        (free-found st.sizes t st.next (freed_slot st) (valid st (ok a)).next_low low free)
