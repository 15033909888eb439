use borrow.Author.Rules.{rules}
use Prim.Native.Nat.{ℕ, ◌<◌}
use mathlib.Core.List.{List}
use mathlib.Core.Path.{◌≡◌, refl, sym, ap, ◌∙◌}
use lib.ListN.{length}
use Rattle.std.specs.Prelude.{Err}
use Rattle.bounded.specs.Rows.{refusal}
use Rattle.layout.specs.declared.Sizes.{Sizes}
use Rattle.layout.specs.Layout.{frames}
use Rattle.words.specs.Words.{word_at}
use Rattle.meters.specs.Meters.{first_meter, own_meter, amount_bad}
use Rattle.rows.specs.Numbers.{number}
use Rattle.rows.proofs.Numbers.{number-some}
use Rattle.state.specs.State.{State}
use Rattle.state.specs.Slots.{slot_of_page}
use Rattle.refinement.specs.Frames.{seen_frame}
use Rattle.refinement.specs.Calls.{meter_in}
use Rattle.refinement.proofs.Going.{ranges-of}
use Rattle.call_event.specs.declared.found.Found.{Found}
use Rattle.call_event.proofs.Asked.{Started, started, row-start, row-early, row-amount, row_room, row-taken, line_frame, narrow-line}
use Rattle.state_words.specs.Decoded.{decoded}
use Rattle.call_event.specs.Seen.{line_from, lines_seen}
use Rattle.call_event.proofs.found.event_found.Goals as goal

-- a line is read from a frame; z and s are what the code read
line_low : (z : Sizes) (st : State) (n : ℕ) (ms : List ℕ) (k m s : ℕ) → z ≡ st.sizes → s ≡ slot_of_page z st.table.page 0 → Started st n ms k m → (l : ℕ) → line_from z st s l < frames z
unfolding seen_frame
line_low z st n ms k m s ez es q l = rw (es, ez) (line_frame st n l q.quiet)

-- what was found, as the definitions have it
lines : (z : Sizes) (st : State) (img : List ℕ) (n : ℕ) (ms : List ℕ) (k m s : ℕ) (r : Found) → z ≡ st.sizes → s ≡ slot_of_page z st.table.page 0 → Started st n ms k m
    → r ≡ lines_seen z st img s k m
    → ◌≡◌ {A = Found} r (record { first = seen_frame st 1 0 (first_meter k m); own = seen_frame st 1 0 (own_meter k m); stored = meter_in st img (first_meter k m) })
unfolding seen_frame
lines z st img n ms k m s r ez es q h =
    let l = first_meter k m in
    (rw (es, ez) at h)
    ∙ ap (λ (x : List ℕ). record { first = seen_frame st 1 0 l; own = seen_frame st 1 0 (own_meter k m); stored = word_at x 0 })
    (narrow-line st img l q.narrow)

-- The tests stand in the table's order: the rows that come first, those before 21, then 21 and 19.
pub returns-in_err-start_row : goal.returns-in_err-start_row
returns-in_err-start_row c =
    let a = c.args in
    let r = c.in_err-start_row.field-0.0 in
    let same : c.from_residual.result ≡ Err r = search rules in
    rw same (row-start (decoded a.words.now) a.image.now a.moduli.now a.kind a.meter a.amount (number r) c.in_err-start_row.ensures (number-some r))

pub slot_of-s-requires : goal.slot_of-s-requires
slot_of-s-requires c =
    let a = c.args in
    let q = started (decoded a.words.now) (length a.image.now) a.moduli.now a.kind a.meter 0 c.in_ok-start_row.ensures refl in
    rw c.requires.0 (ranges-of (decoded a.words.now) q.quiet.ok).legal

pub event_next_row-requires : goal.event_next_row-requires
event_next_row-requires c =
    let a = c.args in
    let q = started (decoded a.words.now) (length a.image.now) a.moduli.now a.kind a.meter 0 c.in_ok-start_row.ensures refl in
    let r = ranges-of (decoded a.words.now) q.quiet.ok in
    rw (c.requires.0, c.requires.1) (r.legal, r.next_low, q.known)

pub returns-in_err-event_next_row : goal.returns-in_err-event_next_row
returns-in_err-event_next_row c =
    let a = c.args in
    let q = started (decoded a.words.now) (length a.image.now) a.moduli.now a.kind a.meter 0 c.in_ok-start_row.ensures refl in
    let r = c.in_err-event_next_row.field-0.0 in
    let early = rw (c.slot_of-s.ensures, c.requires.0, c.requires.1) at c.in_err-event_next_row.ensures in
    let same : c.from_residual-in_err-event_next_row.result ≡ Err r = search rules in
    rw same (row-early (decoded a.words.now) a.image.now a.moduli.now a.kind a.meter a.amount q (number r) early (number-some r))

pub lines_seen-found-requires : goal.lines_seen-found-requires
lines_seen-found-requires c =
    let a = c.args in
    let st = decoded a.words.now in
    let q = started st (length a.image.now) a.moduli.now a.kind a.meter 0 c.in_ok-start_row.ensures refl in
    (rw c.requires.0 (ranges-of st q.quiet.ok).legal, q.known, line_low a.z st _ _ _ _ _ c.requires.0 c.slot_of-s.ensures q, rw c.requires.0 q.quiet.long)

pub amount_bad-requires : goal.amount_bad-requires
amount_bad-requires c =
    let a = c.args in
    let q = started (decoded a.words.now) (length a.image.now) a.moduli.now a.kind a.meter 0 c.in_ok-start_row.ensures refl in
    (q.moduli, q.known)

pub returns-then-amount_bad : goal.returns-then-amount_bad
returns-then-amount_bad c =
    let a = c.args in
    let st = decoded a.words.now in
    let q = started st (length a.image.now) a.moduli.now a.kind a.meter 0 c.in_ok-start_row.ensures refl in
    let early = rw (c.slot_of-s.ensures, c.requires.0, c.requires.1) at c.in_ok-event_next_row.ensures in
    let seen = lines a.z st a.image.now _ _ _ _ _ _ c.requires.0 c.slot_of-s.ensures q c.lines_seen-found.ensures in
    let amount = c.amount_bad.ensures ∙ ap (λ (f : Found). amount_bad a.moduli.now a.kind a.meter f.stored a.amount) seen in
    row-amount st a.image.now a.moduli.now a.kind a.meter a.amount q (sym early) (sym amount ∙ c.if-amount_bad.true)

pub no_room-requires : goal.no_room-requires
no_room-requires c =
    let a = c.args in
    let q = started (decoded a.words.now) (length a.image.now) a.moduli.now a.kind a.meter 0 c.in_ok-start_row.ensures refl in
    let r = ranges-of (decoded a.words.now) q.quiet.ok in
    rw (c.requires.0, c.requires.1) (r.legal, r.head-low, r.tail-low, r.live-high)

pub returns-then-no_room : goal.returns-then-no_room
returns-then-no_room c =
    let a = c.args in
    let st = decoded a.words.now in
    let q = started st (length a.image.now) a.moduli.now a.kind a.meter 0 c.in_ok-start_row.ensures refl in
    let early = rw (c.slot_of-s.ensures, c.requires.0, c.requires.1) at c.in_ok-event_next_row.ensures in
    let seen = lines a.z st a.image.now _ _ _ _ _ _ c.requires.0 c.slot_of-s.ensures q c.lines_seen-found.ensures in
    let amount = c.amount_bad.ensures ∙ ap (λ (f : Found). amount_bad a.moduli.now a.kind a.meter f.stored a.amount) seen in
    let full = rw (c.requires.0, c.requires.1) at c.no_room.ensures in
    row_room st a.image.now a.moduli.now a.kind a.meter a.amount q (sym early) (sym amount ∙ c.if-amount_bad.false) (sym full ∙ c.if-no_room.true)

pub returns : goal.returns
returns c =
    let a = c.args in
    let st = decoded a.words.now in
    let q = started st (length a.image.now) a.moduli.now a.kind a.meter 0 c.in_ok-start_row.ensures refl in
    let early = rw (c.slot_of-s.ensures, c.requires.0, c.requires.1) at c.in_ok-event_next_row.ensures in
    let seen = lines a.z st a.image.now _ _ _ _ _ _ c.requires.0 c.slot_of-s.ensures q c.lines_seen-found.ensures in
    let amount = c.amount_bad.ensures ∙ ap (λ (f : Found). amount_bad a.moduli.now a.kind a.meter f.stored a.amount) seen in
    let full = rw (c.requires.0, c.requires.1) at c.no_room.ensures in
    let taken = row-taken st a.image.now a.moduli.now a.kind a.meter a.amount q (sym early) (sym amount ∙ c.if-amount_bad.false) (sym full ∙ c.if-no_room.false) in
    (taken, ap (λ (f : Found). f.first) seen, ap (λ (f : Found). f.own) seen, ap (λ (f : Found). f.stored) seen)
