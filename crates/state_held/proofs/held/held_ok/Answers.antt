use Prim.Native.Nat.{ℕ}
use mathlib.Core.Bool.{Bool}
use mathlib.Core.Path.{refl, ◌∙◌}
use native.Mathlib.Omega.{arith}
use borrow.Author.Rules.{rules}
use borrow.Author.Tests.{tests}
use Rattle.std.proofs.lemmas.Iterator.{YieldsList-from_range}
use Rattle.std.proofs.lemmas.Iterator.Search.{all_from_yields_List}
use Rattle.bounded.specs.Below.{all_below}
use Rattle.state.specs.Slots.{free_at}
use Rattle.state.specs.Held.{holder_ok, held_ok}
use Rattle.state_words.specs.Decoded.{decoded}
use Rattle.state_words.proofs.Ranges.{all-range}
use Rattle.state_held.proofs.held.held_ok.Goals as goal

pub returns : goal.returns
unfolding held_ok
returns c =
    let a = c.args in
    let st = decoded a.words.now in
    let test : ℕ → Bool = λ (s : ℕ). all_below 4 (holder_ok st.writers.opened st.writers.held (free_at st.table.page s) s) in
    all_from_yields_List test _ _ c.all.result c.all.ensures.ran (YieldsList-from_range 0 a.z.slots a.z.slots refl (omega arith)) (λ x b q k. search (rules, tests)) ∙ all-range test a.z.slots
