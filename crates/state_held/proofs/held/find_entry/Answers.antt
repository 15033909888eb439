use mathlib.Core.Bool.{true, false}
use mathlib.Core.Path.{refl, sym, ◌∙◌}
use borrow.Author.Tests.{eq-eqb, ne_eqb}
use Rattle.bounded.proofs.Below.{first-none, first-turn, first_stops, first_ends}
use Rattle.state_held.proofs.held.find_entry.Goals as goal

pub loop-e-init : goal.loop-e-init
loop-e-init c = first-none _

pub returns-then-key_at-key : goal.returns-then-key_at-key
returns-then-key_at-key c = first_stops _ _ _ true c.loop-e-test.true c.loop-e.invariant (sym (eq-eqb _ _ (sym c.key_at.ensures ∙ c.if-key_at-key.true))) refl

pub loop-e-preserved : goal.loop-e-preserved
loop-e-preserved c = first-turn _ _ false c.loop-e.invariant (sym (ne_eqb _ _ (λ q. c.if-key_at-key.false (c.key_at.ensures ∙ q)))) refl

pub returns : goal.returns
returns c = first_ends _ _ _ c.loop-e.auto.e-end c.loop-e-test.false c.loop-e.invariant
