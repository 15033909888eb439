-- A write that changes nothing leaves what the write before this change leaves: run to its end, or cut after any of its stores and mounted.
use Prim.Native.Nat.{ℕ, ◌<◌, ◌≤◌, min}
use mathlib.Core.Bool.{Bool, true, false, not, cond}
use mathlib.Core.List.{List, [], ◌∷◌}
use mathlib.Core.Path.{◌≡◌, refl, sym, ap, ◌∙◌, subst}
use native.Mathlib.Omega.{arith}
use lib.Dec.{eqb}
use lib.ListN.{length}
use borrow.Author.Tests.{eqb-true, eqb-false, ne_eqb, le-ltb, ltb-true, ltb-false, not-false}
use Rattle.bounded.specs.Rows.{refusal}
use Rattle.bounded.proofs.Rows.{row_at, row-none}
use Rattle.bounded.proofs.Tests.{case_on, row_keeps}
use Rattle.layout.specs.declared.Sizes.{Sizes}
use Rattle.layout.specs.Layout.{image_length}
use Rattle.state.specs.State.{State}
use Rattle.state.specs.declared.Op.{Op}
use Rattle.state.specs.declared.Op.TheVariants.{Write, Log}
use Rattle.state.specs.Wide.{is_wide}
use Rattle.operations.specs.Operations.{is_idle, slot_for, op_rows, needs}
use Rattle.operations.proofs.Taken.{write-taken}
use Rattle.refinement.specs.Outcome.{Outcome}
use Rattle.refinement.specs.Stores.{World, store_made, completed, stepped_by, left}
use Rattle.refinement.specs.Calls.{with_pending, world_of, finished_line, write_op, write_call_rows, changes_nothing, write_of, step_rows, step_row, run_of, run_bytes}
use Rattle.refinement.specs.Mount.{mount_call}
use Rattle.refinement.specs.Run.{Call, Result, mount, checkpoint, free, step, begin, begin_wide, abort, commit, prepare, confirm, withdraw, consolidate, run, write, read, recall, event, load, exec, formatted_world}
use Rattle.refinement.specs.Reference.{Reference, blank, turn}
use Rattle.refinement.specs.Statement.{Lent}
use Rattle.refinement.specs.Before.{write_before, exec_before, Whole, through, cut, call_of, plays, played, AllBytes, SameAsBefore, AsBefore}
use Rattle.refinement.proofs.AskWrite.{op_row}
use Rattle.refinement.proofs.CallAsked.{needs-asked, pending-valid}
use Rattle.refinement.proofs.Cases.{standing-of}
use Rattle.refinement.proofs.Invariant.{Quiet}
use Rattle.refinement.proofs.MountReadsBack.{mount-taken}
use Rattle.refinement.proofs.PutBack.{image-back, all_back}
use Rattle.refinement.proofs.Reached.{Reached, reached-first, reached-next}
use Rattle.refinement.proofs.Rewritten.{has-slot, back, completed-back}
use Rattle.refinement.proofs.RewrittenEntry.{entry-back, logged-back}
use Rattle.refinement.proofs.Standing.{Standing}
use Rattle.refinement.proofs.StateValid.{narrow, valid}
use Rattle.refinement.proofs.Viewed.{viewed-fits}
use Rattle.refinement.proofs.WriterCalls.{write-fits, write-op-row, write-first}

-- ---- one write

module _ {past : List ℕ} (v : World) (b : Reference) (h : Standing past v b) (w p l o n : ℕ) (bytes : List ℕ) where
  abbrev st : State
  st = v.st

  abbrev img : List ℕ
  img = v.image

  abbrev row : ℕ
  row = refusal (write_call_rows st img w p l o n bytes)

  abbrev nothing : Bool
  nothing = changes_nothing st img w p l o n bytes

  abbrev op : Op
  op = write_op st w p l o n

  abbrev line : List ℕ
  line = finished_line st img w p l o n bytes

  abbrev asks : State
  asks = with_pending st op line

  -- eight stores, a wide writer's nine
  stores : needs st op ≡ cond (is_wide st.wide w) 9 8
  unfolding needs
  stores = case_on (is_wide st.wide w) (λ t. rw t) (λ t. rw t)

  some : 0 < needs st op
  some = subst (λ (k : ℕ). 0 < k) (sym stores) (row_keeps (λ (k : ℕ). 0 < k) (is_wide st.wide w) 9 8 (omega arith) (omega arith))

  some-stores : eqb (needs st op) 0 ≡ false
  some-stores = ne_eqb (needs st op) 0 (λ e. omega (arith, e, some))

  writes : is_idle op ≡ false
  writes = row_keeps (λ (x : Op). is_idle x ≡ false) (is_wide st.wide w) (Log p l o n) (Write w p l o n) refl refl

  -- turned back, or with stores to make, it is the write before
  same-refused : (row ≡ 0 → ⊥) → write_of st img w p l o n bytes ≡ write_before st img w p l o n bytes
  unfolding write_of write_before
  same-refused e = rw (ne_eqb row 0 e)

  same-stored : nothing ≡ false → write_of st img w p l o n bytes ≡ write_before st img w p l o n bytes
  unfolding write_of write_before
  same-stored e = rw (e, some-stores, stores)

  module _ (r : row ≡ 0) (idle : nothing ≡ true) where
    quiet : not (is_idle st.pending.op) ≡ false
    quiet = (write-first st img w p l o n bytes r).1.1.0

    given : n ≤ length bytes
    given = ltb-false (length bytes) n (write-first st img w p l o n bytes r).1.1.1.0

    fits : image_length st.sizes ≤ length img
    fits = viewed-fits st img b h.viewed

    -- each store of it would put back the word that is there, and the state at their end would be the one before them
    abbrev Back : Op → Type 0
    Back x = ((i : ℕ) → i < needs st x → store_made (with_pending st x line) img x i ≡ img) × (completed (with_pending st x line) x ≡ st)

    narrow_back : is_wide st.wide w ≡ false → Back (Write w p l o n)
    narrow_back other =
        let own = op_row st img w p l o n bytes other r in
        let T = write-taken st w p l o n own in
        let Q : Quiet past st img b = h.quiet quiet (λ m. narrow st w (valid st h.valid) T.args.writer-low T.opened other m) in
        let low = Q.writers.held_low w (slot_for st p) T.args.writer-low (ltb-true (slot_for st p) st.sizes.slots (has-slot st img w p l o n bytes h.valid fits h.viewed.bytes own given other idle)) in
        (back st img w p l o n bytes h.valid fits h.viewed.bytes own given other idle, completed-back st img w p l o n bytes h.valid fits h.viewed.bytes own given other idle (h.none-pending quiet) low)

    wide_back : is_wide st.wide w ≡ true → Back (Log p l o n)
    wide_back mine =
        let own = subst (λ (x : Op). refusal (op_rows st x) ≡ 0) (ap (λ (x : Bool). cond x (Log p l o n) (Write w p l o n)) mine) (write-op-row st img w p l o n bytes r) in
        let stored = h.key-stored quiet in
        (entry-back st img w p l o n bytes h.valid fits h.viewed.bytes own given mine idle stored, logged-back st img w p l o n bytes h.valid fits h.viewed.bytes own given mine idle stored (h.none-pending quiet))

    puts_back : Back op
    puts_back =
        let P : Bool → Type 0 = λ x. Back (cond x (Log p l o n) (Write w p l o n)) in
        case_on (is_wide st.wide w) (λ t. subst P (sym t) (wide_back t)) (λ t. subst P (sym t) (narrow_back t))

    -- now it leaves the world, and a run finds nothing pending
    now-taken : write_of st img w p l o n bytes ≡ record { number = 0; stores = 0; state = st }
    unfolding write_of
    now-taken = rw (r, idle)

    ten : step_row st img ≡ 10
    ten = sym (row_at (step_rows st img) 2 (omega arith) (ap not h.valid, (le-ltb (length img) (image_length st.sizes) fits, tt)) (not-false (is_idle st.pending.op) quiet))

    none-run : (k : ℕ) → (exec (run k) v).world ≡ v
    unfolding exec run_of run_bytes
    none-run k = rw ten

    -- before it left its stores pending, and a run makes them
    before-taken : write_before st img w p l o n bytes ≡ record { number = 0; stores = needs st op; state = asks }
    unfolding write_before
    before-taken = rw (r, some-stores)

    zero_row : step_row asks img ≡ 0
    zero_row =
        sym (row-none (step_rows asks img)
        (ap not (pending-valid st line op h.valid (write-fits st w p l o n) (write-op-row st img w p l o n bytes r) some), (le-ltb (length img) (image_length st.sizes) fits, (writes, tt))))

    ran : (k : ℕ) → (exec (run k) (world_of asks img)).world ≡ stepped_by (min k (left asks)) (world_of asks img)
    unfolding exec run_of run_bytes
    ran k = rw zero_row

    ran-all : (exec (run (needs st op)) (world_of asks img)).world ≡ v
    ran-all =
        let n : min (needs st op) (left asks) ≡ left asks = omega (arith, needs-asked st line op op) in
        ran (needs st op) ∙ ap (λ (k : ℕ). stepped_by k (world_of asks img)) n ∙ all_back st img op line puts_back.0 writes some puts_back.1

    ran-image : (k : ℕ) → (exec (run k) (world_of asks img)).world.image ≡ img
    ran-image k = ap (λ (u : World). u.image) (ran k) ∙ image-back st img op line puts_back.0 (min k (left asks)) (omega arith)

    -- a mount that is taken leaves what the image shows
    mounted : (u : World) → u.image ≡ img → (exec mount u).world ≡ (exec mount v).world
    unfolding exec
    mounted u e =
        let t : (mount_call img).number ≡ 0 = mount-taken v b h.viewed in
        rw (e, t)

  -- by what is made of its outcome
  by-outcome : (P : Outcome → World) → (row ≡ 0 → nothing ≡ true → P (write_of st img w p l o n bytes) ≡ P (write_before st img w p l o n bytes))
      → P (write_of st img w p l o n bytes) ≡ P (write_before st img w p l o n bytes)
  by-outcome P f =
      case_on (eqb row 0)
      (λ t. case_on nothing (λ u. f (eqb-true row 0 t) u) (λ u. ap P (same-stored u)))
      (λ t. ap P (same-refused (eqb-false row 0 t)))

  abbrev runs : Outcome → World
  runs x = (exec (run x.stores) (world_of x.state img)).world

  write-through : runs (write_of st img w p l o n bytes) ≡ runs (write_before st img w p l o n bytes)
  write-through = by-outcome runs (λ r i. ap runs (now-taken r i) ∙ none-run r i 0 ∙ sym (ap runs (before-taken r i) ∙ ran-all r i))

  abbrev cuts : ℕ → Outcome → World
  cuts k x = (exec mount (exec (run k) (world_of x.state img)).world).world

  write-cut : (k : ℕ) → cuts k (write_of st img w p l o n bytes) ≡ cuts k (write_before st img w p l o n bytes)
  write-cut k =
      by-outcome (cuts k)
      (λ r i.
      ap (cuts k) (now-taken r i)
      ∙ ap (λ (u : World). (exec mount u).world) (none-run r i k)
      ∙ sym (ap (cuts k) (before-taken r i) ∙ mounted r i (exec (run k) (world_of asks img)).world (ran-image r i k)))

-- ---- any call: only a write changed

by_call : (v : World) (P : Result → World)
    → ((w p l o n : ℕ) (bytes : List ℕ) → P (exec (write w p l o n bytes) v) ≡ P (exec_before (write w p l o n bytes) v))
    → (c : Call) → P (exec c v) ≡ P (exec_before c v)
unfolding exec_before
by_call v P f (write w p l o n bytes) = f w p l o n bytes
by_call v P f mount = refl
by_call v P f checkpoint = refl
by_call v P f free = refl
by_call v P f step = refl
by_call v P f (begin w) = refl
by_call v P f (begin_wide w) = refl
by_call v P f (abort w) = refl
by_call v P f (commit w) = refl
by_call v P f (prepare w) = refl
by_call v P f (confirm w) = refl
by_call v P f (withdraw w) = refl
by_call v P f (consolidate p) = refl
by_call v P f (run k) = refl
by_call v P f (read w p l target) = refl
by_call v P f (recall p l target) = refl
by_call v P f (event ms k m a) = refl
by_call v P f (load text) = refl

module _ {past : List ℕ} (v : World) (b : Reference) (h : Standing past v b) where
  plays-same : (x : Whole) → plays exec x v ≡ plays exec_before x v
  unfolding exec exec_before
  plays-same (through c) = by_call v (λ d. (exec (run d.stores) d.world).world) (λ w p l o n bytes. write-through v b h w p l o n bytes) c
  plays-same (cut c k) = by_call v (λ d. (exec mount (exec (run k) d.world).world).world) (λ w p l o n bytes. write-cut v b h w p l o n bytes k) c

-- ---- a list

module _ {z : Sizes} {past : List ℕ} where
  plays-reached : (x : Whole) → Lent (call_of x) → (v : World) (b : Reference) → Reached z past v b → (c : Reference) × Reached z past (plays exec x v) c
  plays-reached (through c) lent v b R =
      let d = exec c v in
      let b' = turn c d.number d.stores b in
      let r = exec (run d.stores) d.world in
      (turn (run d.stores) r.number r.stores b', reached-next (run d.stores) tt d.world b' (reached-next c lent v b R))
  plays-reached (cut c k) lent v b R =
      let d = exec c v in
      let b' = turn c d.number d.stores b in
      let r = exec (run k) d.world in
      let b'' = turn (run k) r.number r.stores b' in
      let m = exec mount r.world in
      (turn mount m.number m.stores b'', reached-next mount tt r.world b'' (reached-next (run k) tt d.world b' (reached-next c lent v b R)))

  played-same : (xs : List Whole) → AllBytes xs → (v : World) (b : Reference) → Reached z past v b → played exec xs v ≡ played exec_before xs v
  unfolding played AllBytes
  played-same [] lent v b R = refl
  played-same (x ∷ xs) lent v b R =
      let q = plays-reached x lent.0 v b R in
      played-same xs lent.1 (plays exec x v) q.0 q.1 ∙ ap (played exec_before xs) (plays-same v b (standing-of v b R.related) x)

pub as_before : AsBefore
unfolding exec_before
as_before z ok buffer bytes fits xs lent =
    let e = played-same xs lent (formatted_world z buffer) blank (reached-first z ok buffer bytes fits) in
    record { world = e; screen = λ p l target. ap (exec (recall p l target)) e }
