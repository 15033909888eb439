use mathlib.Core.Path.{ap, ◌∙◌, ◌≡◌}
use Prim.Native.Nat.{◌+◌, ◌-◌}
use native.Mathlib.Omega.{arith}
use Rattle.bounded.proofs.Below.{all_none, all-turn, all-stops, all-ends}
use Rattle.words.specs.Words.{word}
use Rattle.journal.specs.Records.{live_record, record_ok, records_ok}
use Rattle.journal.proofs.RightRecords.{right-read}
use Rattle.journal.proofs.records.records_ok.Goals as goal

pub loop-i-init : goal.loop-i-init
loop-i-init c = (c.live_record-before.ensures, all_none _)

pub returns-then-not-record_ok : goal.returns-then-not-record_ok
unfolding records_ok
returns-then-not-record_ok c = let x = c.args in
    let e = live_record (word x.image.now) x.z x.tail in
    let i = c.loop-i.i in
    let r = right-read x.z x.tail e i c.record_ok.ensures c.position-own.ensures c.loop-i.invariant.0 c.live_record-e.ensures in
    all-stops (record_ok x.z x.tail e) x.n i _ c.loop-i-test.true r (c.if-not-record_ok.true)

pub loop-i-preserved : goal.loop-i-preserved
loop-i-preserved c =
    let x = c.args in
    let e = live_record (word x.image.now) x.z x.tail in
    let i = c.loop-i.i in
    let r = right-read x.z x.tail e i c.record_ok.ensures c.position-own.ensures c.loop-i.invariant.0 c.live_record-e.ensures in
    let k : i ≡ i + 1 - 1 = omega arith in
    (c.live_record-e.ensures ∙ ap e k, all-turn (record_ok x.z x.tail e) i _ c.loop-i.invariant.1 r (c.if-not-record_ok.false))

pub returns : goal.returns
unfolding records_ok
returns c = all-ends _ _ _ c.loop-i.auto.i-end c.loop-i-test.false c.loop-i.invariant.1
