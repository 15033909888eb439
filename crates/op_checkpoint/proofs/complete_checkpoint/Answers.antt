use mathlib.Core.Path.{ap, ◌∙◌}
use Rattle.state.specs.State.{State}
use Rattle.state_words.specs.Decoded.{with_tail, with_nothing}
use Rattle.op_checkpoint.proofs.complete_checkpoint.Goals as goal

pub returns : goal.returns
returns c =
    c.put_nothing.ensures ∙ ap with_nothing (c.put_tail.ensures ∙ ap (λ (u : State). with_tail u c.args.at.head) c.put_no_lasts.ensures) ∙ rw (c.requires.0, c.requires.1)
