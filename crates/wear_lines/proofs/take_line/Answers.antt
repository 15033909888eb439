use mathlib.Core.Path.{sym, ◌∙◌}
use Rattle.executing.specs.Called.{machine_at}
use Rattle.wear_lines.proofs.Taken.{acts-parting, acts-turn}
use Rattle.wear_lines.proofs.take_line.Goals as goal

pub returns-then-is_parting : goal.returns-then-is_parting
returns-then-is_parting c =
    let o = c.open_input in
    acts-parting (machine_at c.args.m c.args.words.now) c.args.image.now c.args.counts.now c.args.line.now _ _
    (sym c.is_parting.ensures ∙ c.if-is_parting.true) o.ensures.machine o.ensures.image

pub returns : goal.returns
returns c =
    acts-turn (machine_at c.args.m c.args.words.now) c.args.image.now c.args.counts.now c.args.line.now _ _ _ _
    (sym c.is_parting.ensures ∙ c.if-is_parting.false) c.parse.ensures c.requires.narrow_machine c.turn.ensures
