-- A call that asks for an operation.
use Rattle.std.specs.Prelude.{ℕ, ◌++◌, replicate}
use Rattle.bounded.specs.Rows.{refusal}
use Rattle.state.specs.State.{State}
use Rattle.state.specs.declared.Op.{Op}
use Rattle.operations.specs.Operations.{op_rows}
use Rattle.refinement.specs.Outcome.{Outcome}
use Rattle.refinement.specs.Calls.{quiet_rows, asked}

-- a commit, a consolidation or a checkpoint asked for, of an image of n bytes, by the rows of a call, which is the operation but of a wide commit
abbrev pub asked_of : State → ℕ → Op → Op → Outcome
asked_of st n call op = asked (refusal (quiet_rows st n ++ op_rows st call)) st op (replicate 8 0)
