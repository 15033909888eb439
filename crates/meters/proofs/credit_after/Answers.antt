use mathlib.Core.Path.{sym, ◌∙◌}
use Rattle.meters.proofs.credit_after.Goals as goal

pub overflow_add-result : goal.overflow_add-result
overflow_add-result c =
    record { fits = c.requires.0 (sym c.is_adding.ensures ∙ c.if-is_adding.true) }

pub overflow_sub-result : goal.overflow_sub-result
overflow_sub-result c =
    c.requires.1 (sym c.is_adding.ensures ∙ c.if-is_adding.false)

pub returns-then-is_adding : goal.returns-then-is_adding
returns-then-is_adding c = rw (← c.is_adding.ensures, c.if-is_adding.true)

pub returns-else-is_adding : goal.returns-else-is_adding
returns-else-is_adding c = rw (← c.is_adding.ensures, c.if-is_adding.false)
