use Rattle.std.proofs.Common.{[], ◌∷◌, refl}
use Rattle.refinement.specs.Run.{write, exec}
use Rattle.refinement.proofs.Reports.{stores-reported}
use Rattle.refinement.proofs.Refused.{refused-unchanged}
use Rattle.refinement.specs.Calls.{world_of}
use Rattle.state_words.specs.Decoded.{decoded}
use Rattle.trials.proofs.Finishing.{finishes}
use Rattle.trials.proofs.calls.write_first.Goals as goal

pub returns : goal.returns
unfolding exec
returns c =
    let a = c.args in
    let f = c.write in
    let v = world_of (decoded a.words.now) a.image.now in
    let d = write 0 a.page 0 0 1 (a.byte ∷ []) in
    finishes _ a.image.now (λ n. (stores-reported d v n).all_left) (λ n. (refused-unchanged d v n).stores)
    d a.words.now refl f.result _ _ f.ensures.started
