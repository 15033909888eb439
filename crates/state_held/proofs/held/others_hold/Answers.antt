use Prim.Native.Nat.{ℕ}
use mathlib.Core.Bool.{Bool, not, ◌&&◌}
use mathlib.Core.Path.{refl, ◌∙◌}
use native.Mathlib.Omega.{arith}
use lib.Dec.{eqb}
use borrow.Author.Rules.{rules}
use borrow.Author.Tests.{tests}
use Rattle.std.proofs.lemmas.Iterator.{YieldsList-from_range}
use Rattle.std.proofs.lemmas.Iterator.Search.{any_from_yields_List}
use Rattle.masks.specs.Lines.{in_mask}
use Rattle.state.specs.Held.{held_at, others_hold}
use Rattle.state_words.specs.Decoded.{decoded}
use Rattle.state_words.proofs.Ranges.{any-range}
use Rattle.state_held.proofs.held.others_hold.Goals as goal

pub returns : goal.returns
unfolding others_hold
returns c =
    let a = c.args in
    let test : ℕ → Bool = λ (v : ℕ). not (eqb v a.w) && in_mask (held_at (decoded a.words.now).writers.held v a.s) a.l in
    any_from_yields_List test _ _ c.any.result c.any.ensures.ran (YieldsList-from_range 0 4 4 refl (omega arith)) (λ x b q k. search (rules, tests)) ∙ any-range test 4
