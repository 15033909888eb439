-- What a started call is: with `Asked` the asking itself; always two calls of demand 3's lists.
use Prim.Native.Nat.{ℕ, min}
use mathlib.Core.List.{List}
use mathlib.Core.Path.{◌≡◌, ap, ap₂}
use native.Mathlib.Omega.{arith}
use lib.Dec.{eqb}
use Rattle.bounded.proofs.Tests.{case_on}
use Rattle.state.specs.State.{State}
use Rattle.refinement.specs.Outcome.{Outcome}
use Rattle.refinement.specs.Stores.{left}
use Rattle.refinement.specs.Calls.{step_row, world_of, run_of, run_bytes}
use Rattle.refinement.specs.Run.{exec}
use Rattle.refinement.proofs.Steps.{run_none}
use Rattle.op_stores.specs.declared.Until.TheVariants.{Asked}
use Rattle.op_stores.specs.Started.{started_of, started_bytes, InLists}

-- a run of no store changes nothing, whether it is taken or not
module _ (st : State) (img : List ℕ) where
  none-state : (run_of st img 0).state ≡ st
  unfolding run_of
  none-state =
      let m : min 0 (left st) ≡ 0 = omega arith in
      case_on (eqb (step_row st img) 0) (λ t. rw (t, m, run_none (world_of st img))) (λ t. rw t)

  none-bytes : run_bytes st img 0 ≡ img
  unfolding run_bytes
  none-bytes =
      let m : min 0 (left st) ≡ 0 = omega arith in
      case_on (eqb (step_row st img) 0) (λ t. rw (t, m, run_none (world_of st img))) (λ t. rw t)

pub asked_is : (o : Outcome) (img : List ℕ) → (started_of o img Asked ≡ o) × (started_bytes o img Asked ≡ img)
asked_is o img =
    case_on (eqb o.stores 0)
    (λ t. (rw t, rw t))
    (λ t. (rw t (ap (λ (s : State). record { number = o.number; stores = o.stores; state = s }) (none-state o.state img)), rw t (none-bytes o.state img)))

pub in-lists : InLists
unfolding exec
in-lists o img u =
    case_on (eqb o.stores 0)
    (λ t. rw t (ap₂ world_of (none-state o.state img) (none-bytes o.state img)))
    (λ t. rw t)
