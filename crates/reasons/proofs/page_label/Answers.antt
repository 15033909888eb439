use mathlib.Core.Path.{refl}
use Rattle.wording.specs.Words.{codes}
use Rattle.reasons.proofs.page_label.Goals as goal

pub returns-then-later : goal.returns-then-later
unfolding codes
returns-then-later c = rw c.if-later.true refl

pub returns-else-later : goal.returns-else-later
unfolding codes
returns-else-later c = rw c.if-later.false refl
