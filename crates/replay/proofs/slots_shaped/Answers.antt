use mathlib.Core.Path.{ap, ◌∙◌}
use Rattle.journal.specs.Slots.{shaped}
use Rattle.bounded.proofs.Below.{all_none, all-turn, all-stops, all-ends}
use Rattle.replay.proofs.slots_shaped.Goals as goal

pub loop-s-init : goal.loop-s-init
loop-s-init c = all_none _

pub returns-then-not-is_shaped : goal.returns-then-not-is_shaped
returns-then-not-is_shaped c = all-stops _ _ _ _ c.loop-s-test.true (c.is_shaped.ensures ∙ ap (shaped c.args.z) c.slot_at.ensures) (c.if-not-is_shaped.true)

pub loop-s-preserved : goal.loop-s-preserved
loop-s-preserved c = all-turn _ _ _ c.loop-s.invariant (c.is_shaped.ensures ∙ ap (shaped c.args.z) c.slot_at.ensures) c.if-not-is_shaped.false

pub returns : goal.returns
returns c = all-ends _ _ _ c.loop-s.auto.s-end c.loop-s-test.false c.loop-s.invariant
