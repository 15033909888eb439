use Prim.Native.Nat.{ℕ}
use mathlib.Core.Bool.{Bool, not}
use mathlib.Core.Path.{refl, sym, ap, ◌∙◌}
use native.Mathlib.Omega.{arith}
use borrow.Author.Rules.{rules}
use borrow.Author.Tests.{tests}
use Rattle.std.proofs.lemmas.Iterator.{YieldsList-from_range}
use Rattle.std.proofs.lemmas.Iterator.Search.{all_from_yields_List}
use Rattle.state.specs.Held.{holder_ok}
use Rattle.state.proofs.Unheld.{unheld-ok}
use Rattle.state_words.specs.Decoded.{decoded}
use Rattle.state_words.proofs.Ranges.{all-range}
use Rattle.state_held.proofs.held.slot_held_ok.Goals as goal

pub returns-then-not-some_hold : goal.returns-then-not-some_hold
returns-then-not-some_hold c =
    let a = c.args in
    let st = decoded a.words.now in
    ap not c.if-not-some_hold.true ∙ unheld-ok st.writers.opened st.writers.held a.free a.s (sym c.some_hold.ensures ∙ c.if-not-some_hold.true)

pub returns-else-not-some_hold : goal.returns-else-not-some_hold
returns-else-not-some_hold c =
    let a = c.args in
    let st = decoded a.words.now in
    let test : ℕ → Bool = holder_ok st.writers.opened st.writers.held a.free a.s in
    all_from_yields_List test _ _ c.all.result c.all.ensures.ran (YieldsList-from_range 0 4 4 refl (omega arith)) (λ x b q k. search (rules, tests)) ∙ all-range test 4
