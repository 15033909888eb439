use mathlib.Core.Path.{◌≡◌, ap, ◌∙◌, refl}
use Rattle.bounded.specs.Rows.{refusal}
use Rattle.bounded.proofs.Rows.{rows_then}
use Rattle.state.specs.State.{State}
use Rattle.operations.specs.Operations.{commit_rows}
use Rattle.refinement.specs.Calls.{quiet_rows}
use Rattle.refinement.proofs.Quiet.{quiet}
use Rattle.asked.proofs.Rows.{first-ranges}
use Rattle.op_rows.specs.Seen.{seen}
use Rattle.state_words.specs.Decoded.{decoded}
use Rattle.call_rows.proofs.commit_row.Goals as goal

pub commit_row-requires : goal.commit_row-requires
commit_row-requires c =
    let h = first-ranges (decoded c.args.words.now) c.args.n 0 c.in_ok-valid_row.ensures refl in
    rw (c.requires.0, c.requires.1) (h.0, h.1, h.2, h.3, h.4)

pub returns : goal.returns
returns c =
    let st = decoded c.args.words.now in
    let same : seen c.args.z c.args.at st ≡ st = rw (c.requires.0, c.requires.1) in
    rows_then (quiet_rows st c.args.n) (commit_rows st c.args.writer) _ (quiet st c.args.n 0 c.in_ok-valid_row.ensures refl).past
    (c.commit_row.ensures ∙ ap (λ (u : State). refusal (commit_rows u c.args.writer)) same)
