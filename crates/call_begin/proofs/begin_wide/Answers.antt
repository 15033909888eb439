use borrow.Author.Rules.{rules}
use mathlib.Core.Path.{◌≡◌}
use Rattle.std.specs.Prelude.{Err}
use Rattle.refinement.specs.Calls.{begin_wide_rows, begin_wide_of}
use Rattle.refinement.proofs.Begun.{beginning_wide}
use Rattle.answers.proofs.Answered.{row-refused, row-taken}
use Rattle.state_words.specs.Decoded.{decoded}
use Rattle.call_begin.proofs.CallLaws.{wide-begun}
use Rattle.call_begin.proofs.begin_wide.Goals as goal

pub returns-in_err-wide_row-clause-state : goal.returns-in_err-wide_row-clause-state
unfolding begin_wide_of
returns-in_err-wide_row-clause-state c =
    let st = decoded c.args.words.now in
    let same : c.from_residual.result ≡ Err c.in_err-wide_row.field-0.0 = search rules in
    rw same (row-refused (begin_wide_rows st c.args.writer) st (beginning_wide st c.args.writer) 0 _ c.in_err-wide_row.ensures)

pub returns-clause-state : goal.returns-clause-state
unfolding begin_wide_of
returns-clause-state c =
    let st = decoded c.args.words.now in
    row-taken (begin_wide_rows st c.args.writer) st (beginning_wide st c.args.writer) 0 _ c.in_ok-wide_row.ensures
    (wide-begun st _ _ _ c.args.writer c.put_open.ensures.state c.put_no_wide.ensures c.put_wide.ensures)
