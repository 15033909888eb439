use mathlib.Core.Path.{◌∙◌}
use native.Mathlib.Omega.{arith}
use Rattle.bounded.proofs.Tests.{row-yes}
use Rattle.workbench.proofs.Formed.{has-numbers, nth-number, has-called}
use Rattle.image_calls.proofs.run.Goals as goal

pub returns : goal.returns
returns c =
    let (form, e) = has-numbers 1 c.args.line _ c.in_ok-k.ensures in
    let first = nth-number 1 c.args.line _ 0 (omega arith) e in
    record {
      turn = has-called _ _ _ _ c.run-answer.result _ form (rw first at c.run-answer.ensures.outcome) c.answered.ensures;
      bytes = (rw first at c.run-answer.ensures.bytes) ∙ row-yes _ _ _ form;
    }
