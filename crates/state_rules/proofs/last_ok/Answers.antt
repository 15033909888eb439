use Prim.Native.Nat.{ℕ}
use mathlib.Core.Bool.{Bool, not}
use mathlib.Core.Path.{◌≡◌, refl, ◌∙◌}
use native.Mathlib.Omega.{arith}
use lib.Dec.{eqb}
use lib.ListN.{get_or}
use borrow.Author.Rules.{rules}
use borrow.Author.Tests.{tests, ne_eqb}
use Rattle.std.proofs.lemmas.Iterator.{YieldsList-from_range}
use Rattle.std.proofs.lemmas.Iterator.Search.{all_from_yields_List}
use Rattle.bounded.specs.Below.{all_below}
use Rattle.state_words.specs.Decoded.{decoded}
use Rattle.state_words.proofs.Ranges.{all-range}
use Rattle.state_rules.proofs.last_ok.Goals as goal

pub returns-then-is_live : goal.returns-then-is_live
returns-then-is_live c =
    let a = c.args in
    let test : ℕ → Bool = λ (k : ℕ). not (eqb (get_or (decoded a.words.now).table.last a.s 0) (get_or (decoded a.words.now).table.last k 0)) in
    let e : c.all.result ≡ all_below a.s test = all_from_yields_List test _ _ c.all.result c.all.ensures.ran (YieldsList-from_range 0 a.s a.s refl (omega arith)) (λ x b q k. search (rules, tests)) ∙ all-range test a.s in
    rw (← c.last_at-q.ensures, ne_eqb _ _ c.if-q.false, ← c.is_live.ensures, c.if-is_live.true) (rw c.last_at-q.ensures e)
