use mathlib.Core.Path.{◌≡◌, ap, ap₂, ◌∙◌}
use Prim.Native.Nat.{ℕ, ◌<◌, ◌≤◌}
use borrow.Author.Rules.{rules}
use native.Mathlib.Omega.{arith}
use Rattle.bounded.proofs.Below.{up_none, up_turn}
use Rattle.journal.specs.declared.Record.{Record}
use Rattle.journal.specs.Records.{records_ok}
use Rattle.layout.specs.declared.Sizes.{Sizes}
use mathlib.Core.Bool.{true}
use Rattle.replay.specs.Table.{replaced, replay}
use Rattle.journal.proofs.RightRecords.{right-at}
use Rattle.replay.proofs.replayed.Goals as goal

pub loop-i-init : goal.loop-i-init
loop-i-init c = c.table_from-t.ensures ∙ up_none _ _

-- the record's slot is one of the S
low : (z : Sizes) (tail n i : ℕ) (e : ℕ → Record) (r : Record) → r ≡ e i → i < n → records_ok z tail n e ≡ true → z.slots ≤ 16 → r.slot < 16
low z tail n i e r q l ok h = omega (arith, ap (λ (x : Record). x.slot) q, (right-at z tail e n i l ok).slot-low, h)

pub put_slot-requires : goal.put_slot-requires
put_slot-requires c = low _ _ _ _ _ _ c.live_record-e.ensures c.loop-i-test.true c.requires.4 c.requires.0.slots-high

pub offset_bounds-t-e : goal.offset_bounds-t-e
offset_bounds-t-e c = let h = low _ _ _ _ _ _ c.live_record-e.ensures c.loop-i-test.true c.requires.4 c.requires.0.slots-high in omega (arith, h)

pub bounds-t-e : goal.bounds-t-e
bounds-t-e c = low _ _ _ _ _ _ c.live_record-e.ensures c.loop-i-test.true c.requires.4 c.requires.0.slots-high

pub loop-i-preserved : goal.loop-i-preserved
loop-i-preserved c =
    rw c.put_slot.ensures (ap₂ (replaced c.loop-i.t) c.live_record-e.ensures c.position.ensures ∙ up_turn _ _ _ _ c.loop-i.invariant)

pub returns : goal.returns
unfolding replay
returns c = search rules
