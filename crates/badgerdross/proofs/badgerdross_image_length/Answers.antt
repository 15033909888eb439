use mathlib.Core.Path.{sym, ◌∙◌}
use Rattle.layout.proofs.LayoutLaws.{legal}
use Rattle.badgerdross.proofs.badgerdross_image_length.Goals as goal

pub returns-then-not-sizes_ok : goal.returns-then-not-sizes_ok
returns-then-not-sizes_ok c = rw (sym c.sizes_ok.ensures ∙ c.if-not-sizes_ok.true)

pub image_length-requires : goal.image_length-requires
image_length-requires c = legal _ (sym c.sizes_ok.ensures ∙ c.if-not-sizes_ok.false)

pub returns : goal.returns
returns c = rw (sym c.sizes_ok.ensures ∙ c.if-not-sizes_ok.false) c.image_length.ensures
