-- No line makes a writer wide.
use Rattle.std.proofs.Common.{◌≡◌, ℕ, ◌+◌, ◌<◌, min, Bool, true, false, cond, eqb, List, replicate, sym, refl, ap, ◌∙◌, subst}
use Rattle.bounded.specs.Below.{up_to}
use Rattle.bounded.specs.Rows.{refusal}
use Rattle.bounded.proofs.Below.{up-keeps}
use Rattle.bounded.proofs.Tests.{case_on, contradicts, row_keeps}
use Rattle.layout.specs.declared.Sizes.{Sizes}
use Rattle.state.specs.State.{State}
use Rattle.state.specs.declared.Op.{Op}
use Rattle.state.specs.declared.Op.TheVariants.{Idle, Write, Commit, Consolidate, Checkpoint, Event, Prepare, Confirm, Log, Copy, Format}
use Rattle.state.specs.Wide.{is_wide, no_wide, wide_of}
use Rattle.meters.specs.Meters.{moves_credit}
use Rattle.fresh.specs.Fresh.{format_row}
use Rattle.operations.specs.Operations.{needs}
use Rattle.mount.specs.Mount.{mount_of}
use Rattle.refinement.specs.Event.{line_done, event_done}
use Rattle.refinement.specs.Stores.{World, completed, with_made, stepped, stepped_by, left}
use Rattle.refinement.specs.Calls.{world_of, asked, with_pending, begin_rows, begin_of, abort_rows, abort_of, commit_call_rows, commit_op, commit_of, step_row, run_of}
use Rattle.refinement.specs.Calls.{write_call_rows, changes_nothing, finished_line, write_op, write_of, consolidate_call_rows, consolidate_of, checkpoint_call_rows, checkpoint_of}
use Rattle.refinement.specs.Mount.{mount_call, format_of}
use Rattle.refinement.specs.Run.{Result, result, exec, begin, abort, commit, write, consolidate, checkpoint, mount, run}
use Rattle.call_mount.specs.Replacing.{replacing}
use Rattle.calling.specs.WriteLine.{num, data_of}
use Rattle.text.specs.declared.Line.{Line}
use Rattle.forms.specs.declared.Ask.{Ask}
use Rattle.forms.specs.declared.Ask.TheVariants.{Begin, Commit as Commits, Abort, Write as Writes, Consolidate as Consolidates, Checkpoint as Checkpoints, Mount}
use Rattle.forms.specs.declared.Form.{Form}
use Rattle.forms.specs.declared.Form.TheVariants.{Formats, Asks, Reads, Cuts, Other}
use Rattle.forms.specs.Forms.{form_of}
use Rattle.std.specs.Prelude.{Option, None, Some}
use Rattle.executing.specs.Called.{call_of, Machine, Turn, budget, after_cut, finished}
use Rattle.script.specs.Turns.{sizes_in, formats, turn_by, turn_of}
use Rattle.wear.specs.Performs.{Narrow, NarrowMachine}
use Rattle.wear.proofs.Performed.{asks-formatted, cuts-formatted}

-- ---- operations

completed-narrow : (st : State) (op : Op) → Narrow st → Narrow (completed st op)
unfolding event_done line_done
completed-narrow st Idle h = h
completed-narrow st (Write w p l o n) h = h
completed-narrow st (Commit w) h = h
completed-narrow st (Consolidate p) h = h
completed-narrow st Checkpoint h = h
completed-narrow st (Event k m a) h = case_on (moves_credit k) (λ t. rw t h) (λ t. rw t h)
completed-narrow st (Prepare w) h = h
completed-narrow st (Confirm w) h = h
completed-narrow st (Log p l o n) h = h
completed-narrow st Copy h = refl
completed-narrow st Format h = h

choose : (b : Bool) (s t : State) → Narrow s → Narrow t → Narrow (cond b s t)
choose b s t = row_keeps Narrow b s t

asked-narrow : (row : ℕ) (st : State) (op : Op) (line : List ℕ) → Narrow st → Narrow (asked row st op line).state
asked-narrow row st op line h =
    choose (eqb row 0) (cond (eqb (needs st op) 0) (completed st op) (with_pending st op line)) st
    (choose (eqb (needs st op) 0) (completed st op) (with_pending st op line) (completed-narrow st op h) h) h

stepped-narrow : (v : World) → Narrow v.st → Narrow (stepped v).st
unfolding stepped
stepped-narrow v h =
    let op = v.st.pending.op in
    let m = v.st.pending.made in
    choose (eqb (m + 1) (needs v.st op)) (completed v.st op) (with_made v.st (m + 1)) (completed-narrow v.st op h) h

run-narrow : (n : ℕ) (v : World) → Narrow v.st → Narrow (stepped_by n v).st
unfolding stepped_by
run-narrow n v h = up-keeps (λ (u : World). Narrow u.st) (λ i u. stepped u) n v (λ i u l p. stepped-narrow u p) h

-- ---- the calls that lines ask for

mount-narrow : (v : World) → Narrow v.st → Narrow (exec mount v).world.st
unfolding exec mount_call
mount-narrow v h =
    let m = mount_of v.image in
    case_on (eqb m.row 0)
    (λ t. case_on (eqb m.count 0) (λ u. rw (t, u)) (λ u. rw (t, u)))
    (λ t. rw t h)

call-narrow : (st : State) (img : List ℕ) (a : Ask) (count : ℕ) (numbers : List ℕ) → Narrow st → Narrow (exec (call_of a count numbers) (world_of st img)).world.st
unfolding exec begin_of abort_of commit_of write_of consolidate_of checkpoint_of
call-narrow st img Begin count numbers h = choose (eqb (refusal (begin_rows st (num numbers 0))) 0) _ st h h
call-narrow st img Commits count numbers h =
    asked-narrow (refusal (commit_call_rows st img (num numbers 0))) st (commit_op st (num numbers 0)) (replicate 8 0) h
call-narrow st img Abort count numbers h =
    case_on (eqb (refusal (abort_rows st (num numbers 0))) 0)
    (λ t. case_on (is_wide st.wide (num numbers 0)) (λ u. rw (t, u)) (λ u. rw (t, u) h))
    (λ t. rw t h)
call-narrow st img Writes count numbers h =
    let n = num numbers in
    let bytes = data_of count numbers in
    let after = with_pending st (write_op st (n 0) (n 1) (n 2) (n 3) (n 4)) (finished_line st img (n 0) (n 1) (n 2) (n 3) (n 4) bytes) in
    let idle = changes_nothing st img (n 0) (n 1) (n 2) (n 3) (n 4) bytes in
    choose (eqb (refusal (write_call_rows st img (n 0) (n 1) (n 2) (n 3) (n 4) bytes)) 0) (cond idle st after) st (choose idle st after h h) h
call-narrow st img Consolidates count numbers h =
    asked-narrow (refusal (consolidate_call_rows st img (num numbers 0))) st (Consolidate (num numbers 0)) (replicate 8 0) h
call-narrow st img Checkpoints count numbers h = asked-narrow (refusal (checkpoint_call_rows st img)) st Checkpoint (replicate 8 0) h
call-narrow st img Mount count numbers h = mount-narrow (world_of st img) h

runs-narrow : (k : ℕ) (v : World) → Narrow v.st → Narrow (exec (run k) v).world.st
unfolding exec run_of
runs-narrow k v h =
    let n = min k (left v.st) in
    choose (eqb (step_row v.st v.image) 0) (stepped_by n (world_of v.st v.image)).st v.st (run-narrow n (world_of v.st v.image) h) h

-- its stores made, and the mount under a K
cut-narrow : (cut : Option ℕ) (number : ℕ) (v : World) → Narrow v.st → Narrow (after_cut cut number v).world.st
cut-narrow None number v h = h
cut-narrow (Some k) number v h = mount-narrow v h

finished-narrow : (letter : ℕ) (cut : Option ℕ) (d : Result) → Narrow d.world.st → Narrow (finished letter cut d).machine.st
unfolding finished
finished-narrow letter cut d h =
    case_on (eqb d.stores 0)
    (λ t. rw t h)
    (λ t. rw t (cut-narrow cut d.number (exec (run (budget cut d.stores)) d.world).world (runs-narrow (budget cut d.stores) d.world h)))

-- ---- a line's turn

format-narrow : (m : Machine) (img : List ℕ) (z : Sizes) → NarrowMachine m → NarrowMachine (formats m img z).machine
unfolding formats format_of
format-narrow m img z h =
    case_on (eqb (format_row z img) 0)
    (λ t. rw t (λ f. finished-narrow 70 m.cut _ refl))
    (λ t. rw t h)

by_form : (f : Form) (m : Machine) (img : List ℕ) (line : Line) → (((a : Ask) → f ≡ Asks a → m.formatted ≡ true)) → (f ≡ Cuts → m.formatted ≡ true)
    → NarrowMachine m → NarrowMachine (turn_by f m img line).machine
by_form Formats m img line ask cut h = format-narrow m img (sizes_in line.numbers) h
by_form (Asks a) m img line ask cut h =
    λ f. finished-narrow line.letter m.cut (exec (call_of a line.count line.numbers) (world_of m.st img))
    (call-narrow m.st img a line.count line.numbers (h (ask a refl)))
by_form Reads m img line ask cut h = h
by_form Cuts m img line ask cut h = λ f. h (cut refl)
by_form Other m img line ask cut h = h

pub turn-narrow : (m : Machine) (img : List ℕ) (line : Line) → NarrowMachine m → NarrowMachine (turn_of m img line).machine
unfolding turn_of
turn-narrow m img line h =
    let f = form_of m.formatted line in
    by_form f m img line (λ a e. asks-formatted m.formatted line f a refl e) (λ e. cuts-formatted m.formatted line f refl e) h
