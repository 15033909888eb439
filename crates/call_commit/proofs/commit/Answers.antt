use mathlib.Core.Bool.{not}
use mathlib.Core.Path.{refl, sym, ◌∙◌}
use native.Mathlib.Omega.{arith}
use Rattle.bounded.proofs.Rows.{row_at}
use Rattle.bounded.proofs.Tests.{held}
use Rattle.state.specs.State.{State}
use Rattle.refinement.specs.Calls.{commit_call_rows}
use Rattle.rows.specs.declared.Refusal.TheVariants.{BadState}
use Rattle.state_words.specs.Decoded.{decoded}
use Rattle.call_commit.proofs.Calls.{refused}
use Rattle.call_commit.proofs.commit.Lts
use Rattle.call_commit.proofs.commit.Tie
use Rattle.call_commit.proofs.commit.Reads
use mathlib.Core.Path.{ap}
use mathlib.Core.Bool.{not}
use Rattle.call_commit.proofs.commit.Goals as goal

abbrev At-Start : Type 0
At-Start = Lts.Start Tie.the-claims Reads.Pre Reads.Post Tie.handed_clauses

abbrev st : At-Start → State
st s = decoded s.args.words.now

pub returns-then-not-state_ok : goal.returns-then-not-state_ok
returns-then-not-state_ok c =
    let e = row_at (commit_call_rows (st c.before.before.before.before.before.before) c.args.image.now c.args.writer) 0 (omega arith) tt (sym (ap not c.state_ok.ensures) ∙ (ap not c.if-not-state_ok.true)) in
    record {
      started = refused (st c.before.before.before.before.before.before) c.args.image.now c.args.writer c.args.until BadState e;
      words = λ n. refl;
    }

pub commit_valid-requires : goal.commit_valid-requires
commit_valid-requires c =
    (c.sizes_in-z.ensures, c.places_in-at.ensures, held _ _ c.state_ok.ensures (ap not c.if-not-state_ok.false))
