use Prim.Native.Nat.{ℕ}
use mathlib.Core.Bool.{true, false}
use mathlib.Core.Path.{refl, sym, ap, ◌∙◌}
use native.Mathlib.Omega.{arith}
use lib.ListN.{get_or}
use borrow.Author.Tests.{eq-eqb, ne_eqb}
use Rattle.bounded.proofs.Below.{first-none, first-turn, first_stops, first_ends}
use Rattle.state.specs.Slots.{free_after}
use Rattle.state.proofs.Numbers.{round-low}
use Rattle.state_words.specs.Decoded.{decoded}
use Rattle.state_held.proofs.slots.free_after.Goals as goal

pub loop-k-init : goal.loop-k-init
loop-k-init c = first-none _

pub page_at-requires : goal.page_at-requires
page_at-requires c = omega (arith, round-low _ _ _ _ c.requires.0 c.round_slot-s.ensures)

pub returns-then-page_at : goal.returns-then-page_at
unfolding free_after
returns-then-page_at c =
    let read = c.page_at.ensures ∙ ap (λ (s : ℕ). get_or (decoded c.args.words.now).table.page s 0) c.round_slot-s.ensures in
    first_stops _ _ _ true c.loop-k-test.true c.loop-k.invariant (sym (eq-eqb _ _ (sym read ∙ c.if-page_at.true))) refl

pub loop-k-preserved : goal.loop-k-preserved
loop-k-preserved c =
    let read = c.page_at.ensures ∙ ap (λ (s : ℕ). get_or (decoded c.args.words.now).table.page s 0) c.round_slot-s.ensures in
    first-turn _ _ false c.loop-k.invariant (sym (ne_eqb _ _ (λ q. c.if-page_at.false (read ∙ q)))) refl

pub returns : goal.returns
unfolding free_after
returns c = first_ends _ _ _ c.loop-k.auto.k-end c.loop-k-test.false c.loop-k.invariant
