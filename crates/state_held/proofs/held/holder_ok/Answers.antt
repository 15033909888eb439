use Prim.Native.Nat.{ℕ}
use mathlib.Core.Bool.{Bool, true, false}
use mathlib.Core.Path.{◌≡◌, refl, sym, ◌∙◌}
use native.Mathlib.Omega.{arith}
use borrow.Author.Rules.{rules}
use borrow.Author.Tests.{tests, ne_eqb}
use Rattle.std.proofs.lemmas.Iterator.{YieldsList-from_range}
use Rattle.std.proofs.lemmas.Iterator.Search.{all_from_yields_List}
use Rattle.bounded.specs.Below.{all_below}
use Rattle.masks.specs.Lines.{disjoint}
use Rattle.state.specs.Held.{held_at}
use Rattle.state_words.specs.Decoded.{decoded}
use Rattle.state_words.proofs.Ranges.{all-range}
use Rattle.state_held.proofs.held.holder_ok.Goals as goal

pub returns-then-all : goal.returns-then-all
returns-then-all c =
    let a = c.args in
    let test : ℕ → Bool = λ (v : ℕ). disjoint c.held_at-m.result (held_at (decoded a.words.now).writers.held v a.s) in
    let ran = all_from_yields_List test _ _ c.all.result c.all.ensures.ran (YieldsList-from_range 0 a.w a.w refl (omega arith)) (λ x b q k. search (rules, tests)) ∙ all-range test a.w in
    let all : all_below a.w test ≡ true = sym ran ∙ c.if-all.true in
    rw (← c.held_at-m.ensures, ne_eqb _ _ c.if-m-eq0.false, all, c.open_at.ensures)

pub returns-else-all : goal.returns-else-all
returns-else-all c =
    let a = c.args in
    let test : ℕ → Bool = λ (v : ℕ). disjoint c.held_at-m.result (held_at (decoded a.words.now).writers.held v a.s) in
    let ran = all_from_yields_List test _ _ c.all.result c.all.ensures.ran (YieldsList-from_range 0 a.w a.w refl (omega arith)) (λ x b q k. search (rules, tests)) ∙ all-range test a.w in
    let all : all_below a.w test ≡ false = sym ran ∙ c.if-all.false in
    rw (← c.held_at-m.ensures, ne_eqb _ _ c.if-m-eq0.false, all) c.if-all.false
