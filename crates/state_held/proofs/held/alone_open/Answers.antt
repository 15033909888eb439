use Prim.Native.Nat.{ℕ}
use mathlib.Core.Bool.{Bool, not, ◌&&◌, ◌||◌}
use mathlib.Core.Path.{refl, ◌∙◌}
use native.Mathlib.Omega.{arith}
use lib.Dec.{eqb}
use borrow.Author.Rules.{rules}
use borrow.Author.Tests.{tests}
use Rattle.std.proofs.lemmas.Iterator.{YieldsList-from_range}
use Rattle.std.proofs.lemmas.Iterator.Search.{all_from_yields_List}
use Rattle.state.specs.Held.{is_open}
use Rattle.state_words.specs.Decoded.{decoded}
use Rattle.state_words.proofs.Ranges.{all-range}
use Rattle.state_held.proofs.held.alone_open.Goals as goal

pub returns : goal.returns
returns c =
    let a = c.args in
    let opened = (decoded a.words.now).writers.opened in
    let test : ℕ → Bool = λ (v : ℕ). (is_open opened v && eqb v a.w) || (not (is_open opened v) && not (eqb v a.w)) in
    all_from_yields_List test _ _ c.all.result c.all.ensures.ran (YieldsList-from_range 0 4 4 refl (omega arith)) (λ x b q k. search (rules, tests)) ∙ all-range test 4
