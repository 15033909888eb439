-- What comes of a call that returns a state, on the words of another: they are that state where the call is taken, and a refused one changes none.
use Rattle.std.specs.Prelude.{List, ℕ}
use Rattle.layout.specs.declared.Sizes.{Sizes}
use Rattle.state.specs.State.{State}
use Rattle.refinement.specs.Outcome.{Outcome, answered}
use Rattle.refinement.specs.Mount.{format_of}
use Rattle.answers.specs.Answers.{Answer}
use Rattle.op_stores.specs.declared.Until.{Until}
use Rattle.op_stores.specs.Started.{Started}

abbrev pub replacing : State → Outcome → Outcome
replacing st o = answered o.number st o.stores o.state

-- a format of sizes z asked for on these bytes, the words being st, and gone on with as far as is said
abbrev pub FormatStarted : Answer → State → List ℕ → Sizes → State → List ℕ → Until → Type 0
FormatStarted a after bytes z st img u = Started a after bytes (replacing st (format_of z img)) img u
