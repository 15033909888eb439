use Rattle.workbench.proofs.Formed.{has-numbers}
use Rattle.image_calls.proofs.Replaced.{has-mounted}
use Rattle.image_calls.proofs.mount.Goals as goal

pub returns : goal.returns
returns c =
    let (form, e) = has-numbers 0 c.args.line _ c.in_ok-numbers.ensures in
    has-mounted _ _ _ _ c.mount-answer.result form c.answered.ensures _ c.mount-answer.ensures.state
