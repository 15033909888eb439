use Prim.Native.Nat.{ℕ}
use mathlib.Core.Bool.{Bool}
use mathlib.Core.Path.{refl, ◌∙◌}
use native.Mathlib.Omega.{arith}
use borrow.Author.Rules.{rules}
use borrow.Author.Tests.{tests, le-leb, lt-leb}
use Rattle.std.proofs.lemmas.Iterator.{YieldsList-from_range}
use Rattle.std.proofs.lemmas.Iterator.Search.{all_from_yields_List}
use Rattle.entries.specs.Entries.{key_right, entries_ok}
use Rattle.state_words.specs.Decoded.{decoded}
use Rattle.state_words.proofs.Ranges.{all-range}
use Rattle.state_held.proofs.held.entries_ok.Goals as goal

pub returns-then-n-z : goal.returns-then-n-z
unfolding entries_ok
returns-then-n-z c =
    let a = c.args in
    let test : ℕ → Bool = key_right a.z (decoded a.words.now).wide.keys in
    rw (le-leb _ _ c.if-n-z.true) (all_from_yields_List test _ _ c.all.result c.all.ensures.ran (YieldsList-from_range 0 a.n a.n refl (omega arith)) (λ x b q k. search (rules, tests)) ∙ all-range test a.n)

pub returns-else-n-z : goal.returns-else-n-z
unfolding entries_ok
returns-else-n-z c = rw (lt-leb _ _ c.if-n-z.false)
