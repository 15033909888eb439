use Rattle.std.proofs.Common.{refl, ap}
use Rattle.bounded.specs.Rows.{refusal}
use Rattle.refinement.specs.Calls.{abort_rows, abort_of}
use Rattle.refinement.specs.Run.{Result, abort, exec}
use Rattle.state_words.specs.Decoded.{decoded}
use Rattle.call_round.proofs.Finishing.{finishes-at-once, no_stores}
use Rattle.call_round.proofs.calls.abort_made.Goals as goal

pub returns : goal.returns
unfolding exec abort_of
returns c img =
    let a = c.args in
    let f = c.abort_valid in
    ap (λ (d : Result). d.world)
    (finishes-at-once _ img (no_stores (refusal (abort_rows (decoded a.words.now) a.writer)))
    (abort a.writer) a.words.now refl f.result _ f.ensures.state)
