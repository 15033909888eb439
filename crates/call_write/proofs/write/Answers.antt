use mathlib.Core.Bool.{not}
use mathlib.Core.Path.{refl, sym, ◌∙◌}
use native.Mathlib.Omega.{arith}
use Rattle.bounded.proofs.Rows.{row_at}
use Rattle.bounded.proofs.Tests.{held}
use Rattle.state.specs.State.{State}
use Rattle.refinement.specs.Calls.{write_call_rows, write_of}
use Rattle.rows.specs.declared.Refusal.TheVariants.{BadState}
use Rattle.op_stores.proofs.Starting.{started-refused}
use Rattle.state_words.specs.Decoded.{decoded}
use Rattle.call_write.proofs.write.Lts
use Rattle.call_write.proofs.write.Tie
use Rattle.call_write.proofs.write.Reads
use mathlib.Core.Path.{ap}
use mathlib.Core.Bool.{not}
use Rattle.call_write.proofs.write.Goals as goal

abbrev At-Start : Type 0
At-Start = Lts.Start Tie.the-claims Reads.Pre Reads.Post Tie.handed_clauses

abbrev st : At-Start → State
st s = decoded s.args.words.now

pub returns-then-not-state_ok : goal.returns-then-not-state_ok
unfolding write_of
returns-then-not-state_ok c =
    let a = c.args in
    let rs = write_call_rows (st c.before.before.before.before.before.before.before) a.image.now a.writer a.span.page a.span.line a.span.offset a.span.length a.«data».now in
    let e = row_at rs 0 (omega arith) tt (sym (ap not c.state_ok.ensures) ∙ (ap not c.if-not-state_ok.true)) in
    record {
      started = started-refused (st c.before.before.before.before.before.before.before) a.image.now a.until rs BadState e _ _;
      words = λ n. refl;
    }

pub write_valid-requires : goal.write_valid-requires
write_valid-requires c =
    (c.sizes_in-z.ensures, c.places_in-at.ensures, held _ _ c.state_ok.ensures (ap not c.if-not-state_ok.false))
