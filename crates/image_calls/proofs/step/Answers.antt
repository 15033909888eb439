use mathlib.Core.Path.{◌∙◌}
use Rattle.bounded.proofs.Tests.{row-yes}
use Rattle.workbench.proofs.Formed.{has-numbers, has-called}
use Rattle.image_calls.proofs.step.Goals as goal

pub returns : goal.returns
returns c =
    let (form, e) = has-numbers 0 c.args.line _ c.in_ok-numbers.ensures in
    record {
      turn = has-called _ _ _ _ c.step-answer.result _ form c.step-answer.ensures.outcome c.answered.ensures;
      bytes = c.step-answer.ensures.bytes ∙ row-yes _ _ _ form;
    }
