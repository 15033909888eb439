-- A call that is asked for and not gone on with.
use Prim.Native.Nat.{ℕ}
use mathlib.Core.List.{List}
use mathlib.Core.Path.{◌≡◌, ◌∙◌}
use Rattle.state.specs.State.{State}
use Rattle.refinement.specs.Outcome.{Outcome}
use Rattle.answers.specs.Answers.{Answer}
use Rattle.answers.specs.Answers.{answered_at}
use Rattle.op_stores.specs.declared.Until.TheVariants.{Asked}
use Rattle.op_stores.specs.Started.{Started}
use Rattle.op_stores.proofs.Calls.{asked_is}

-- what comes of it is the asking's, and no byte changes
pub asked-told : (a : Answer) (after : State) (bytes : List ℕ) (o : Outcome) (img : List ℕ) → Started a after bytes o img Asked
    → (answered_at a after ≡ o) × (bytes ≡ img)
asked-told a after bytes o img h = (h.0 ∙ (asked_is o img).0, h.1 ∙ (asked_is o img).1)
