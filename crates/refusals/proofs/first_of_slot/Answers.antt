use Prim.Native.Nat.{ℕ}
use mathlib.Core.Bool.{true, false, not}
use mathlib.Core.Path.{◌≡◌, refl, sym, ap, ◌∙◌}
use lib.Dec.{eqb}
use borrow.Author.Rules.{rules}
use borrow.Author.Tests.{eq-eqb, ne_eqb}
use Rattle.bounded.proofs.Below.{first-none, first-turn, first_stops, first_ends}
use Rattle.refusals.proofs.first_of_slot.Goals as goal

-- the lines held, as they were read: some, none
some : (m : ℕ) {h : ℕ} → (m ≡ 0 → ⊥) → m ≡ h → true ≡ not (eqb h 0)
some m n e = sym (ap not (ne_eqb m 0 n)) ∙ ap (λ (x : ℕ). not (eqb x 0)) e

none : (m : ℕ) {h : ℕ} → m ≡ 0 → m ≡ h → false ≡ not (eqb h 0)
none m n e = sym (ap not (eq-eqb m 0 n)) ∙ ap (λ (x : ℕ). not (eqb x 0)) e

pub loop-v-init : goal.loop-v-init
loop-v-init c = (search rules, first-none _)

pub returns-then-held_at-ne0 : goal.returns-then-held_at-ne0
returns-then-held_at-ne0 c =
    first_stops _ _ _ true c.loop-v-test.true c.loop-v.invariant.1 (some c.held_at.result c.if-held_at-ne0.true c.held_at.ensures) refl

pub loop-v-preserved : goal.loop-v-preserved
loop-v-preserved c =
    let m = c.held_at in
    (search rules, first-turn _ _ false c.loop-v.invariant.1 (none m.result c.if-held_at-ne0.false m.ensures) refl)

pub returns : goal.returns
returns c = first_ends _ _ _ c.loop-v.invariant.0 c.loop-v-test.false c.loop-v.invariant.1
