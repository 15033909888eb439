use mathlib.Core.Path.{◌∙◌}
use Rattle.state_words.specs.Decoded.{decoded}
use Rattle.call_step.proofs.OneStep.{step-outcome, step-bytes}
use Rattle.call_step.proofs.step.Goals as goal

pub returns : goal.returns
returns c =
    let h = c.run.ensures in
    let st = decoded c.args.words.now in
    record {
      outcome = h.outcome ∙ step-outcome st c.args.image.now;
      bytes = h.bytes ∙ step-bytes st c.args.image.now;
      words = h.words;
    }
