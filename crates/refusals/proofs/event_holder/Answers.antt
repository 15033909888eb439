use mathlib.Core.Path.{ap, ap₂, ◌∙◌}
use Prim.Native.Nat.{min}
use Rattle.state_words.specs.Decoded.{decoded}
use Rattle.refusals.specs.Met.{line_holder, event_holder}
use Rattle.refusals.proofs.event_holder.Goals as goal

-- The lowest of both lines are those of the meters.
pub returns : goal.returns
unfolding event_holder
returns c =
    let st = decoded c.args.words.now in
    c.min.ensures
    ∙ ap₂ min
    (c.line_holder-first.ensures ∙ ap (line_holder st 1 0) c.first_meter.ensures)
    (c.line_holder-own.ensures ∙ ap (line_holder st 1 0) c.own_meter.ensures)
