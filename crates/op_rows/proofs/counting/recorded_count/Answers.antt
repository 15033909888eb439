use Prim.Native.Nat.{ℕ}
use mathlib.Core.Bool.{Bool, not}
use mathlib.Core.Path.{refl, ap, ◌∙◌}
use native.Mathlib.Omega.{arith}
use lib.Dec.{eqb}
use lib.ListN.{get_or, length}
use borrow.Author.Rules.{rules}
use borrow.Author.Tests.{tests}
use Rattle.std.proofs.lemmas.Iterator.{YieldsList-from_range}
use Rattle.std.proofs.lemmas.Iterator.Consumers.{count_from_yields_List, YieldsList-from_filter, YieldsList-at}
use Rattle.replay.specs.Table.{no_position}
use Rattle.operations.specs.Operations.{recorded_slots}
use Rattle.state_words.specs.Decoded.{decoded}
use Rattle.state_words.proofs.Ranges.{those-range}
use Rattle.op_rows.proofs.counting.recorded_count.Goals as goal

pub returns : goal.returns
unfolding recorded_slots
returns c =
    let n = c.args.z.slots in
    let recorded : ℕ → Bool = λ (s : ℕ). not (eqb (get_or (decoded c.args.words.now).table.last s 0) no_position) in
    count_from_yields_List c.filter.result c.count.result c.count.ensures.ran
    (YieldsList-from_filter _ recorded (YieldsList-at c.filter.ensures.source (YieldsList-from_range 0 n n refl (omega arith))) c.filter.ensures.closure (λ x b q k. search (rules, tests)))
    ∙ ap length (those-range recorded n)
