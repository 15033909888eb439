use Prim.Native.Nat.{ℕ, ◌<◌}
use mathlib.Core.Bool.{true}
use mathlib.Core.Path.{◌≡◌, ap}
use native.Mathlib.Omega.{arith}
use Rattle.layout.specs.Layout.{Legal}
use Rattle.layout.specs.declared.Sizes.{Sizes}
use Rattle.meters.proofs.MeterLaws.{first-low, own_range}
use Rattle.replay.specs.Table.{slots_shaped}
use Rattle.state.specs.State.{State}
use Rattle.state.specs.declared.Places.{Places}
use Rattle.validity.specs.Validity.{state_ok}
use Rattle.refinement.proofs.Going.{ranges-of, shapes-of}
use Rattle.state_words.specs.Decoded.{decoded, places_of}
use Rattle.op_event.proofs.Long.{table-long, held-long, opened-long}
use Rattle.op_event.proofs.LinesMade.{taken, first_piece, second-piece, commit-piece}
use Rattle.op_event.proofs.event_piece.Goals as goal

next-is : (st : State) (at : Places) → at ≡ places_of st → at.next ≡ st.next
next-is st at q = ap (λ (a : Places). a.next) q

-- what a line's piece leans on
leans : (z : Sizes) (at : Places) (st : State) → z ≡ st.sizes → at ≡ places_of st → state_ok st ≡ true
    → Legal z × (at.next < z.slots) × (slots_shaped z st.table ≡ true)
leans z at st sizes places ok =
    let r = ranges-of st ok in
    rw (sizes, places) (r.legal, r.next_low, shapes-of st ok)

pub line_piece-requires : goal.line_piece-requires
line_piece-requires c =
    let a = c.args in
    let st = decoded a.words.now in
    let h = leans a.z a.at st c.requires.0 c.requires.1 c.requires.2 in
    (h.0, h.1, h.2, omega (arith, first-low a.kind a.meter (taken st a.kind a.meter c.requires.2 c.requires.4).known, c.first_meter-l.ensures))

pub returns-then-i-lt8 : goal.returns-then-i-lt8
returns-then-i-lt8 c =
    let a = c.args in
    let st = decoded a.words.now in
    let n = c.all_words.ensures in
    let q = c.line_piece.ensures in
    λ img. first_piece st a.kind a.meter c.requires.2 c.requires.4 (table-long _ n) (held-long _ n) (opened-long _ n) a.z c.requires.0 a.i img _
    a.at.next (next-is st a.at c.requires.1) _ _ c.if-i-lt8.true c.first_meter-l.ensures c.line_in-line.ensures q.piece q.inside

pub line_piece-requires-then-i-lines : goal.line_piece-requires-then-i-lines
line_piece-requires-then-i-lines c =
    let a = c.args in
    let st = decoded a.words.now in
    let h = leans a.z a.at st c.requires.0 c.requires.1 c.requires.2 in
    (h.0, h.1, h.2, omega (arith, (own_range a.kind a.meter (taken st a.kind a.meter c.requires.2 c.requires.4).known).1, c.own_meter-o.ensures))

pub returns-then-i-lines : goal.returns-then-i-lines
returns-then-i-lines c =
    let a = c.args in
    let st = decoded a.words.now in
    let n = c.all_words.ensures in
    let q = c.line_piece-then-i-lines.ensures in
    λ img. second-piece st a.kind a.meter c.requires.2 c.requires.4 (table-long _ n) (held-long _ n) (opened-long _ n) a.z c.requires.0 a.i img _
    a.at.next (next-is st a.at c.requires.1) _ _ _ c.if-i-lt8.false c.if-i-lines.true c.line_stores-lines.ensures c.own_meter-o.ensures
    c.second_in-line.ensures q.piece q.inside

pub returns : goal.returns
returns c =
    let a = c.args in
    let n = c.all_words.ensures in
    λ img. commit-piece (decoded a.words.now) a.kind a.meter c.requires.2 c.requires.4 (table-long _ n) (held-long _ n) (opened-long _ n) a.z
    c.requires.0 a.i img _ _ c.if-i-lines.false c.line_stores-lines.ensures (c.commit_piece.ensures img)
