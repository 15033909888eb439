use Rattle.std.proofs.Common.{refl}
use Rattle.refinement.specs.Calls.{world_of}
use Rattle.refinement.specs.Run.{checkpoint, exec}
use Rattle.refinement.proofs.Reports.{stores-reported}
use Rattle.refinement.proofs.Refused.{refused-unchanged}
use Rattle.state_words.specs.Decoded.{decoded}
use Rattle.call_round.proofs.Finishing.{finishes}
use Rattle.call_round.proofs.Keeping.{kept}
use Rattle.call_round.proofs.Playing.{call-made}
use Rattle.call_round.proofs.calls.checkpoint_made.Goals as goal

pub returns : goal.returns
unfolding exec
returns c =
    let a = c.args in
    let f = c.checkpoint-answer in
    let v = world_of (decoded a.words.now) a.image.now in
    let d = checkpoint in
    let e =
    call-made d a.t _ a.words.now a.image.now f.result _ _
    (finishes _ a.image.now (λ n. (stores-reported d v n).all_left) (λ n. (refused-unchanged d v n).stores)
    d a.words.now refl f.result _ _ f.ensures.started)
    c.told.ensures in
    record {
      came = e;
      kept = kept d _ _ _ _ e c.requires;
    }
