use borrow.Author.Rules.{rules}
use mathlib.Core.Path.{◌≡◌, sym, ap, ◌∙◌}
use Rattle.std.specs.Prelude.{Err}
use Rattle.state.specs.declared.Places.{Places}
use Rattle.refinement.specs.Calls.{abort_rows, abort_of}
use Rattle.refinement.proofs.Begun.{abort-taken, aborting}
use Rattle.refinement.proofs.Going.{ranges-of}
use Rattle.answers.proofs.Answered.{row-refused, row-taken}
use Rattle.state_words.specs.Decoded.{decoded}
use Rattle.call_begin.proofs.CallLaws.{narrow-aborted, wide-aborted}
use Rattle.call_begin.proofs.abort_valid.Goals as goal

pub returns-in_err-abort_row-clause-state : goal.returns-in_err-abort_row-clause-state
unfolding abort_of
returns-in_err-abort_row-clause-state c =
    let st = decoded c.args.words.now in
    let same : c.from_residual.result ≡ Err c.in_err-abort_row.field-0.0 = search rules in
    rw same (row-refused (abort_rows st c.args.writer) st (aborting st c.args.writer) 0 _ c.in_err-abort_row.ensures)

pub let_go-requires : goal.let_go-requires
let_go-requires c =
    let may = abort-taken (decoded c.args.words.now) c.args.writer (sym c.in_ok-abort_row.ensures) in
    rw c.requires.0 ((ranges-of (decoded c.args.words.now) may.is-valid).legal, may.writer-low)

pub returns-then-at-writer-clause-state : goal.returns-then-at-writer-clause-state
unfolding abort_of
returns-then-at-writer-clause-state c =
    let st = decoded c.args.words.now in
    let wide = ap (λ (p : Places). p.wide) c.requires.1 in
    row-taken (abort_rows st c.args.writer) st (aborting st c.args.writer) 0 _ c.in_ok-abort_row.ensures
    (wide-aborted st _ _ _ c.args.writer c.requires.0 c.put_open.ensures.state c.let_go.ensures _ (sym wide ∙ c.if-at-writer.true) c.put_no_wide.ensures)

pub returns-else-at-writer-clause-state : goal.returns-else-at-writer-clause-state
unfolding abort_of
returns-else-at-writer-clause-state c =
    let st = decoded c.args.words.now in
    let wide = ap (λ (p : Places). p.wide) c.requires.1 in
    row-taken (abort_rows st c.args.writer) st (aborting st c.args.writer) 0 _ c.in_ok-abort_row.ensures
    (narrow-aborted st _ _ _ c.args.writer c.requires.0 c.put_open.ensures.state c.let_go.ensures (λ q. c.if-at-writer.false (wide ∙ q)))
