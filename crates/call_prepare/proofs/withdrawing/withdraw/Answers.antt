use borrow.Author.Rules.{rules}
use mathlib.Core.Path.{◌≡◌, refl}
use Rattle.std.specs.Prelude.{Err}
use Rattle.refinement.specs.Calls.{confirm_call_rows, withdraw_of}
use Rattle.refinement.proofs.Begun.{unprepared}
use Rattle.answers.proofs.Answered.{row-refused, row-taken}
use Rattle.state_words.specs.Decoded.{decoded}
use Rattle.call_prepare.proofs.withdrawing.withdraw.Goals as goal

pub returns-in_err-ask_row : goal.returns-in_err-ask_row
unfolding withdraw_of
returns-in_err-ask_row c =
    let st = decoded c.args.words.now in
    let same : c.from_residual.result ≡ Err c.in_err-ask_row.field-0.0 = search rules in
    record {
      state = rw same (row-refused (confirm_call_rows st c.args.image.now c.args.writer) st (unprepared st) 0 _ c.in_err-ask_row.ensures);
      words = λ n. refl;
    }

pub returns : goal.returns
unfolding withdraw_of
returns c =
    let st = decoded c.args.words.now in
    record {
      state = row-taken (confirm_call_rows st c.args.image.now c.args.writer) st (unprepared st) 0 _ c.in_ok-ask_row.ensures c.put_prepared.ensures;
      words = λ n. absurd (n refl);
    }
