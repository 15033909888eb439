use mathlib.Core.Bool.{true, false}
use mathlib.Core.Path.{refl, sym, ◌∙◌}
use borrow.Author.Tests.{eq-eqb, ne_eqb}
use Rattle.bounded.proofs.Below.{first-none, first-turn, first_stops, first_ends}
use Rattle.state_held.proofs.slots.slot_of.Goals as goal

pub loop-s-init : goal.loop-s-init
loop-s-init c = first-none _

pub returns-then-page_at-p : goal.returns-then-page_at-p
returns-then-page_at-p c =
    first_stops _ _ _ true c.loop-s-test.true c.loop-s.invariant (sym (eq-eqb _ _ (sym c.page_at.ensures ∙ c.if-page_at-p.true))) refl

pub loop-s-preserved : goal.loop-s-preserved
loop-s-preserved c =
    first-turn _ _ false c.loop-s.invariant (sym (ne_eqb _ _ (λ q. c.if-page_at-p.false (c.page_at.ensures ∙ q)))) refl

pub returns : goal.returns
returns c = first_ends _ _ _ c.loop-s.auto.s-end c.loop-s-test.false c.loop-s.invariant
