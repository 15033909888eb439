use mathlib.Core.Bool.{not}
use mathlib.Core.Path.{refl, sym, ◌∙◌}
use native.Mathlib.Omega.{arith}
use Rattle.bounded.proofs.Rows.{row_at}
use Rattle.bounded.proofs.Tests.{held}
use Rattle.state.specs.State.{State}
use Rattle.refinement.specs.Calls.{abort_rows, abort_of}
use Rattle.refinement.proofs.Begun.{aborting}
use Rattle.rows.specs.declared.Refusal.TheVariants.{BadState}
use Rattle.answers.proofs.Answered.{row-refused}
use Rattle.state_words.specs.Decoded.{decoded}
use Rattle.call_begin.proofs.abort.Lts
use Rattle.call_begin.proofs.abort.Tie
use Rattle.call_begin.proofs.abort.Reads
use mathlib.Core.Path.{ap}
use mathlib.Core.Bool.{not}
use Rattle.call_begin.proofs.abort.Goals as goal

abbrev At-Start : Type 0
At-Start = Lts.Start Tie.the-claims Reads.Pre Reads.Post Tie.handed_clauses

abbrev st : At-Start → State
st c = decoded c.args.words.now

pub returns-then-not-state_ok : goal.returns-then-not-state_ok
unfolding abort_of
returns-then-not-state_ok c =
    let rs = abort_rows (st c.before.before.before.before) c.args.writer in
    let e = row_at rs 0 (omega arith) tt (sym (ap not c.state_ok.ensures) ∙ (ap not c.if-not-state_ok.true)) in
    record {
      state = row-refused rs (st c.before.before.before.before) (aborting (st c.before.before.before.before) c.args.writer) 0 BadState e;
      words = λ n. refl;
    }

pub abort_valid-requires : goal.abort_valid-requires
abort_valid-requires c = (c.sizes_in-z.ensures, c.places_in-at.ensures, held _ _ c.state_ok.ensures (ap not c.if-not-state_ok.false))
