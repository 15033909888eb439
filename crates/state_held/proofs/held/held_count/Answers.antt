use Prim.Native.Nat.{ℕ}
use mathlib.Core.Bool.{Bool, not}
use mathlib.Core.Path.{refl, ap, ◌∙◌}
use native.Mathlib.Omega.{arith}
use lib.Dec.{eqb}
use lib.ListN.{length}
use borrow.Author.Rules.{rules}
use borrow.Author.Tests.{tests}
use Rattle.std.proofs.lemmas.Iterator.{YieldsList-from_range}
use Rattle.std.proofs.lemmas.Iterator.Consumers.{count_from_yields_List, YieldsList-from_filter, YieldsList-at}
use Rattle.state.specs.Held.{held_at, held_slots}
use Rattle.state_words.specs.Decoded.{decoded}
use Rattle.state_words.proofs.Ranges.{those-range}
use Rattle.state_held.proofs.held.held_count.Goals as goal

pub returns : goal.returns
unfolding held_slots
returns c =
    let a = c.args in
    let n = a.z.slots in
    let held : ℕ → Bool = λ (s : ℕ). not (eqb (held_at (decoded a.words.now).writers.held a.w s) 0) in
    count_from_yields_List c.filter.result c.count.result c.count.ensures.ran
    (YieldsList-from_filter _ held (YieldsList-at c.filter.ensures.source (YieldsList-from_range 0 n n refl (omega arith))) c.filter.ensures.closure (λ x b q k. search (rules, tests)))
    ∙ ap length (those-range held n)
