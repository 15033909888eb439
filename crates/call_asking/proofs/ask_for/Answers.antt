use borrow.Author.Rules.{rules}
use mathlib.Core.List.{◌++◌}
use mathlib.Core.Path.{◌≡◌, refl, ap}
use lib.ListN.{length}
use Rattle.std.specs.Prelude.{Err}
use Rattle.operations.specs.Operations.{op_rows}
use Rattle.validity.specs.Validity.{is_fresh}
use Rattle.refinement.specs.Calls.{quiet_rows}
use Rattle.answers.specs.Answers.{number_of}
use Rattle.op_stores.proofs.Starting.{started-refused}
use Rattle.state_words.specs.Decoded.{decoded}
use Rattle.call_asking.proofs.Allowing.{may-ask-for, asked-for}
use Rattle.call_asking.proofs.ask_for.Goals as goal

pub returns-in_err-ask_row : goal.returns-in_err-ask_row
returns-in_err-ask_row c =
    let st = decoded c.args.words.now in
    let same : c.from_residual.result ≡ Err c.in_err-ask_row.field-0.0 = search rules in
    record {
      started = rw same (started-refused st c.args.image.now c.args.until (quiet_rows st (length c.args.image.now) ++ op_rows st c.args.op) _ c.in_err-ask_row.ensures _ _);
      words = λ k. refl;
    }

pub ask-requires : goal.ask-requires
ask-requires c =
    let st = decoded c.args.words.now in
    may-ask-for st c.args.image.now (op_rows st c.args.op) c.in_ok-ask_row.ensures c.args.op _ _ c.sizes_in-z.ensures c.places_in-at.ensures c.requires.0 (c.requires.1 st.wide.writer (is_fresh st)) (λ h. h)

pub returns : goal.returns
returns c =
    let st = decoded c.args.words.now in
    let g = c.ask.ensures in
    record {
      started = asked-for st c.args.image.now (op_rows st c.args.op) c.in_ok-ask_row.ensures c.args.op c.ask.result _ _ c.args.until g.started;
      words = λ k. absurd (k (ap number_of g.answer));
    }
