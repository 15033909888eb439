-- What comes of a call that a capital letter asks for, o, and of the same in place: with a run of all its stores behind it (PROBE.md).
use Rattle.std.specs.Prelude.{ℕ, Bool, cond, List}
use Rattle.state.specs.State.{State}
use Rattle.refinement.specs.Outcome.{Outcome}
use Rattle.op_stores.specs.declared.Until.{Until}
use Rattle.op_stores.specs.declared.Until.TheVariants.{Asked, End}
use Rattle.op_stores.specs.Started.{started_of, started_bytes}
use Rattle.workbench.specs.Turns.{Turn, formed, called}

abbrev pub until_by : Bool → Until
until_by whole = cond whole End Asked

abbrev pub outcome_by : Bool → Outcome → List ℕ → Outcome
outcome_by whole o img = cond whole (started_of o img End) o

-- asking changes no byte
abbrev pub image_by : Bool → Outcome → List ℕ → List ℕ
image_by whole o img = cond whole (started_bytes o img End) img

-- the turn of a line of the form, and the bytes lent after it
abbrev pub call_by : Bool → Bool → State → Outcome → List ℕ → Turn
call_by ok whole st o img = formed ok st (called (outcome_by whole o img))

abbrev pub bytes_by : Bool → Bool → Outcome → List ℕ → List ℕ
bytes_by ok whole o img = cond ok (image_by whole o img) img
