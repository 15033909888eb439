-- A step is a run of one.
use Prim.Native.Nat.{ℕ, min}
use mathlib.Core.Bool.{true}
use mathlib.Core.List.{List}
use mathlib.Core.Path.{◌≡◌, refl}
use native.Mathlib.Omega.{arith}
use lib.Dec.{eqb}
use lib.ListN.{length}
use borrow.Author.Tests.{eqb-true}
use Rattle.bounded.proofs.Tests.{case_on}
use Rattle.state.specs.State.{State}
use Rattle.refinement.specs.Stores.{stepped, stepped_by, left}
use Rattle.refinement.specs.Calls.{step_row, world_of, step_of, step_bytes, run_of, run_bytes}
use Rattle.refinement.proofs.Steps.{step_run}
use Rattle.refinement.proofs.Quiet.{busy}

module _ (st : State) (img : List ℕ) where
  one-step : eqb (step_row st img) 0 ≡ true → (stepped_by 1 (world_of st img) ≡ stepped (world_of st img)) × (min 1 (left st) ≡ 1)
  one-step t =
      let b = busy st (length img) (step_row st img) refl (eqb-true (step_row st img) 0 t) in
      let r = step_run (world_of st img) b.ok b.pends in
      (r.0, omega (arith, r.1))

  pub step-outcome : run_of st img 1 ≡ step_of st img
  unfolding run_of step_of
  step-outcome = case_on (eqb (step_row st img) 0) (λ t. rw ((one-step t).1, (one-step t).0)) (λ t. rw t)

  pub step-bytes : run_bytes st img 1 ≡ step_bytes st img
  unfolding run_bytes step_bytes
  step-bytes = case_on (eqb (step_row st img) 0) (λ t. rw ((one-step t).1, (one-step t).0)) (λ t. rw t)
