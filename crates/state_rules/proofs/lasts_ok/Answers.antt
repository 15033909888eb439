use Prim.Native.Nat.{ℕ}
use mathlib.Core.Bool.{Bool}
use mathlib.Core.Path.{refl, ap, ◌∙◌}
use native.Mathlib.Omega.{arith}
use borrow.Author.Rules.{rules}
use borrow.Author.Tests.{tests}
use Rattle.std.proofs.lemmas.Iterator.{YieldsList-from_range}
use Rattle.std.proofs.lemmas.Iterator.Search.{all_from_yields_List}
use Rattle.bounded.specs.Below.{all_below}
use Rattle.validity.specs.Validity.{last_ok_of, lasts_ok}
use Rattle.state_words.specs.Decoded.{decoded}
use Rattle.state_words.proofs.Ranges.{all-range}
use Rattle.state_rules.proofs.lasts_ok.Goals as goal

pub returns : goal.returns
unfolding lasts_ok
returns c =
    let a = c.args in
    let test : ℕ → Bool = last_ok_of a.z a.tail c.live_count-live.result (decoded a.words.now).table.last in
    all_from_yields_List test _ _ c.all.result c.all.ensures.ran (YieldsList-from_range 0 a.z.slots a.z.slots refl (omega arith)) (λ x b q k. search (rules, tests)) ∙ all-range test a.z.slots
    ∙ ap (λ (n : ℕ). all_below a.z.slots (last_ok_of a.z a.tail n (decoded a.words.now).table.last)) c.live_count-live.ensures
