use mathlib.Core.Path.{◌≡◌, ap, ◌∙◌, refl}
use borrow.Author.Rules.{rules}
use Rattle.std.specs.Prelude.{Err}
use Rattle.bounded.specs.Rows.{refusal}
use Rattle.bounded.proofs.Rows.{rows-first, rows_then}
use Rattle.rows.proofs.Numbers.{number-some}
use Rattle.rows.specs.Numbers.{number}
use Rattle.state.specs.State.{State}
use Rattle.operations.specs.Operations.{op_rows}
use Rattle.refinement.specs.Calls.{quiet_rows}
use Rattle.refinement.proofs.Quiet.{quiet}
use Rattle.asked.proofs.Rows.{first-ranges}
use Rattle.op_rows.specs.Seen.{seen}
use Rattle.state_words.specs.Decoded.{decoded}
use Rattle.call_rows.proofs.asking.ask_row.Goals as goal

pub returns-in_err-quiet_row : goal.returns-in_err-quiet_row
returns-in_err-quiet_row c =
    let st = decoded c.args.words.now in
    let row = c.in_err-quiet_row.field-0.0 in
    let same : c.from_residual.result ≡ Err row = search rules in
    rw same (rows-first (quiet_rows st c.args.n) (op_rows st c.args.op) (number row) c.in_err-quiet_row.ensures (number-some row))

pub op_row-requires : goal.op_row-requires
op_row-requires c =
    let h = first-ranges (decoded c.args.words.now) c.args.n 0 c.in_ok-quiet_row.ensures refl in
    rw (c.requires.0, c.requires.1) ((h.0, h.1, h.2, h.3, h.4), h.5)

pub returns : goal.returns
returns c =
    let st = decoded c.args.words.now in
    let same : seen c.args.z c.args.at st ≡ st = rw (c.requires.0, c.requires.1) in
    rows_then (quiet_rows st c.args.n) (op_rows st c.args.op) _ (quiet st c.args.n 0 c.in_ok-quiet_row.ensures refl).past
    (c.op_row.ensures ∙ ap (λ (u : State). refusal (op_rows u c.args.op)) same)
