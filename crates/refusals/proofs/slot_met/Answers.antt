use mathlib.Core.Path.{◌≡◌, sym, ◌∙◌}
use mathlib.Core.Bool.{true}
use Rattle.bounded.proofs.Tests.{held}
use Rattle.layout.specs.Layout.{sizes_ok}
use Rattle.layout.proofs.LayoutLaws.{legal}
use Rattle.state_words.specs.Decoded.{decoded}
use Rattle.refusals.proofs.Slots.{sizes-bad, no_slot, has-slot}
use Rattle.refusals.proofs.slot_met.Lts
use Rattle.refusals.proofs.slot_met.Tie
use Rattle.refusals.proofs.slot_met.Reads
use mathlib.Core.Path.{ap}
use mathlib.Core.Bool.{not}
use Rattle.refusals.proofs.slot_met.Goals as goal

abbrev At-Else-not-sizes_ok : Type 0
At-Else-not-sizes_ok = Lts.Else1 Tie.the-claims Reads.Pre Reads.Post

sizes : (c : At-Else-not-sizes_ok) → sizes_ok c.before.before.args.z ≡ true
sizes c = held _ _ c.before.sizes_ok.ensures (ap not c.if-not-sizes_ok.false)

pub returns-then-not-sizes_ok : goal.returns-then-not-sizes_ok
returns-then-not-sizes_ok c =
    let x = c.args in
    sizes-bad x.z (decoded x.words.now).table.page x.p (sym c.sizes_ok.ensures ∙ c.if-not-sizes_ok.true)

pub slot_of-s-requires : goal.slot_of-s-requires
slot_of-s-requires c = legal c.args.z (sizes c)

pub returns-then-s-z : goal.returns-then-s-z
returns-then-s-z c =
    let x = c.args in
    no_slot x.z (decoded x.words.now).table.page x.p c.slot_of-s.result (sizes c.before.before.before) c.slot_of-s.ensures c.if-s-z.true

pub returns : goal.returns
returns c =
    let x = c.args in
    has-slot x.z (decoded x.words.now).table.page x.p c.slot_of-s.result (sizes c.before.before.before) c.slot_of-s.ensures c.if-s-z.false
