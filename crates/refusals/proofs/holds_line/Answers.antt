use mathlib.Core.Path.{refl, ap, ◌∙◌}
use Prim.Native.Nat.{ℕ}
use borrow.Author.Tests.{eq-eqb, ne_eqb}
use Rattle.masks.specs.Lines.{in_mask}
use Rattle.refusals.proofs.holds_line.Goals as goal

pub returns-then-v-w : goal.returns-then-v-w
returns-then-v-w c = rw (ne_eqb c.args.v c.args.w c.if-v-w.true) (c.has.ensures ∙ ap (λ (m : ℕ). in_mask m c.args.l) c.held_at.ensures)

pub returns-else-v-w : goal.returns-else-v-w
returns-else-v-w c = rw (eq-eqb c.args.v c.args.w c.if-v-w.false) refl
