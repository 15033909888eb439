use borrow.Author.Rules.{rules}
use mathlib.Core.Path.{◌≡◌}
use Rattle.std.specs.Prelude.{Err}
use Rattle.refinement.specs.Calls.{begin_rows, begin_of, with_writers}
use Rattle.refinement.proofs.Begun.{opening}
use Rattle.answers.proofs.Answered.{row-refused, row-taken}
use Rattle.bounded.specs.Below.{one}
use Rattle.state_words.specs.Decoded.{decoded}
use Rattle.call_begin.proofs.begin_valid.Goals as goal

pub returns-in_err-begin_row-clause-state : goal.returns-in_err-begin_row-clause-state
unfolding begin_of
returns-in_err-begin_row-clause-state c =
    let st = decoded c.args.words.now in
    let same : c.from_residual.result ≡ Err c.in_err-begin_row.field-0.0 = search rules in
    rw same (row-refused (begin_rows st c.args.writer) st (with_writers st (opening st c.args.writer)) 0 _ c.in_err-begin_row.ensures)

pub returns : goal.returns
unfolding begin_of one
returns c =
    let st = decoded c.args.words.now in
    record {
      state = row-taken (begin_rows st c.args.writer) st (with_writers st (opening st c.args.writer)) 0 _ c.in_ok-begin_row.ensures c.put_open.ensures.state;
      words = c.put_open.ensures.words;
    }
