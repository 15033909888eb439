use Rattle.std.proofs.Common.{refl}
use Rattle.bounded.specs.Rows.{refusal}
use Rattle.refinement.specs.Calls.{begin_rows, begin_of}
use Rattle.refinement.specs.Run.{begin, exec}
use Rattle.state_words.specs.Decoded.{decoded}
use Rattle.call_round.proofs.Finishing.{finishes-at-once, no_stores}
use Rattle.call_round.proofs.Playing.{call-made}
use Rattle.call_round.proofs.calls.begin_made.Goals as goal

pub returns : goal.returns
unfolding exec begin_of
returns c img =
    let a = c.args in
    let f = c.begin_valid-answer in
    call-made (begin a.writer) _ _ a.words.now img f.result _ img
    (finishes-at-once _ img (no_stores (refusal (begin_rows (decoded a.words.now) a.writer)))
    (begin a.writer) a.words.now refl f.result _ f.ensures.state)
    c.told.ensures
