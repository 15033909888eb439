-- Runs and steps add up.
use Prim.Native.Nat.{ℕ, ◌+◌, ◌-◌, ◌<◌, ◌≤◌, min}
use mathlib.Core.Bool.{true, false, not}
use mathlib.Core.List.{List}
use mathlib.Core.Path.{◌≡◌, refl, sym, ap, ◌∙◌, subst}
use native.Mathlib.Omega.{arith}
use lib.Dec.{eqb, ltb}
use lib.ListN.{length}
use borrow.Author.Tests.{eqb-true, eqb-false, le-ltb}
use Rattle.bounded.proofs.Rows.{row-none}
use Rattle.bounded.proofs.Tests.{case_on}
use Rattle.layout.specs.Layout.{image_length}
use Rattle.state.specs.State.{State}
use Rattle.validity.specs.Validity.{state_ok}
use Rattle.refinement.specs.Stores.{World, with_made, stepped, stepped_by, left}
use Rattle.refinement.specs.Calls.{step_row, step_rows, run_of, run_bytes, step_of, step_bytes}
use Rattle.refinement.specs.Run.{step, run, exec}
use Rattle.refinement.specs.RunsAdd.{AddsUp, RunsAddUp}
use Rattle.refinement.proofs.Pending.{pends, made-valid}
use Rattle.refinement.proofs.PastUntouched.{Goes, goes, by-steps}
use Rattle.refinement.proofs.Reports.{fewer}
use Rattle.refinement.proofs.Steps.{run_none, run_more, run-kept, step_run}

-- a run that is taken, and one that is refused
taken : (k : ℕ) (v : World) → step_row v.st v.image ≡ 0 → (exec (run k) v).world ≡ stepped_by (min k (left v.st)) v
unfolding exec run_of run_bytes
taken k v row = rw row

refused : (k : ℕ) (v : World) → eqb (step_row v.st v.image) 0 ≡ false → (exec (run k) v).world ≡ v
unfolding exec run_of run_bytes
refused k v e = rw e

-- where no store is left a run changes nothing, whether it is taken or not
none_left : (k : ℕ) (v : World) → left v.st ≡ 0 → (exec (run k) v).world ≡ v
none_left k v e =
    let row : ℕ = step_row v.st v.image in
    case_on (eqb row 0)
    (λ t.
    let n : min k (left v.st) ≡ 0 = omega arith in
    taken k v (eqb-true row 0 t) ∙ ap (λ (m : ℕ). stepped_by m v) n ∙ run_none v)
    (λ t. refused k v t)

module _ (v : World) (g : Goes v) (n : ℕ) (l : n ≤ left v.st) where
  abbrev u : World
  u = stepped_by n v

  -- with stores left the next run is taken too
  next_row : n < left v.st → step_row u.st u.image ≡ 0
  next_row m =
      let st : State = v.st in
      let made : ℕ = st.pending.made + n in
      let low = (pends st st.pending.op g.ok refl g.some).made-low in
      let kept : u.st ≡ with_made st made = run-kept n v m in
      let long : length u.image ≡ length v.image = (by-steps v g n l).as_long in
      let row : step_row (with_made st made) u.image ≡ 0 =
      sym (row-none (step_rows (with_made st made) u.image)
      (ap not (made-valid st made g.ok g.some (omega arith)), (le-ltb (length u.image) (image_length st.sizes) (omega (arith, g.fits)), (g.some, tt)))) in
      subst (λ (s : State). step_row s u.image ≡ 0) (sym kept) row

  goes_on : (b : ℕ) → (exec (run b) u).world ≡ stepped_by (n + min b (left v.st - n)) v
  goes_on b =
      let rest : left u.st + n ≡ left v.st = fewer v g n l in
      case_on (eqb n (left v.st))
      (λ t.
      let e : n ≡ left v.st = eqb-true n (left v.st) t in
      let m : n ≡ n + min b (left v.st - n) = omega arith in
      none_left b u (omega arith) ∙ ap (λ (k : ℕ). stepped_by k v) m)
      (λ t.
      let d : n ≡ left v.st → ⊥ = eqb-false n (left v.st) t in
      let m : n + min b (left u.st) ≡ n + min b (left v.st - n) = omega arith in
      taken b u (next_row (omega arith)) ∙ sym (run_more n (min b (left u.st)) v) ∙ ap (λ (k : ℕ). stepped_by k v) m)

two_runs : (a b : ℕ) (v : World) → (exec (run b) (exec (run a) v).world).world ≡ (exec (run (a + b)) v).world
two_runs a b v =
    let row : ℕ = step_row v.st v.image in
    case_on (eqb row 0)
    (λ t.
    let zero : row ≡ 0 = eqb-true row 0 t in
    let n : ℕ = min a (left v.st) in
    let m : n + min b (left v.st - n) ≡ min (a + b) (left v.st) = omega arith in
    ap (λ (u : World). (exec (run b) u).world) (taken a v zero)
    ∙ goes_on v (goes v zero) n (omega arith) b
    ∙ ap (λ (k : ℕ). stepped_by k v) m
    ∙ sym (taken (a + b) v zero))
    (λ t. ap (λ (u : World). (exec (run b) u).world) (refused a v t) ∙ refused b v t ∙ sym (refused (a + b) v t))

one-step : (v : World) → (exec step v).world ≡ (exec (run 1) v).world
unfolding exec step_of step_bytes
one-step v =
    let row : ℕ = step_row v.st v.image in
    case_on (eqb row 0)
    (λ t.
    let zero : row ≡ 0 = eqb-true row 0 t in
    let g : Goes v = goes v zero in
    let e = step_run v g.ok g.some in
    let m : min 1 (left v.st) ≡ 1 = omega (arith, e.1) in
    rw t (sym (taken 1 v zero ∙ ap (λ (k : ℕ). stepped_by k v) m ∙ e.0)))
    (λ t. rw t (sym (refused 1 v t)))

pub runs-add-up : RunsAddUp
runs-add-up v = record { two_runs = λ a b. two_runs a b v; one-step = one-step v }
