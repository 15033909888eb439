use borrow.Author.Rules.{rules}
use Prim.Native.Nat.{ℕ, ◌<◌, ◌≤◌}
use mathlib.Core.Bool.{Bool, false}
use mathlib.Core.List.{List}
use mathlib.Core.Path.{◌≡◌, sym, ap, ◌∙◌}
use lib.Dec.{ltb, leb}
use lib.ListN.{length}
use borrow.Author.Tests.{leb-false, ne_eqb}
use Rattle.std.specs.Prelude.{Err}
use Rattle.bounded.proofs.Tests.{or_left, or_right}
use Rattle.bounded.specs.Rows.{refusal}
use Rattle.layout.specs.declared.Sizes.{Sizes}
use Rattle.layout.specs.Layout.{Legal, image_length}
use Rattle.state.specs.State.{State}
use Rattle.refinement.specs.Calls.{quiet_rows}
use Rattle.state.specs.declared.Places.{Places}
use Rattle.state.specs.Wide.{is_wide}
use Rattle.rows.specs.declared.Refusal.TheVariants.{BadArgument}
use Rattle.call_write.proofs.FoundLine.{entry-after, frames-after}
use Rattle.call_write.proofs.ShortData.{write-bad}
use Rattle.call_write.proofs.Whole.{found-first, first-known, found-whole}
use Rattle.state_words.specs.Decoded.{decoded, places_of}
use Rattle.call_write.proofs.found.write_found.Goals as goal

-- what the rest leans on; z and at are what the code read
leans : (z : Sizes) (at : Places) (st : State) (img : List ℕ) → z ≡ st.sizes → at ≡ places_of st → 0 ≡ refusal (quiet_rows st (length img))
    → Legal z × (at.next < z.slots) × (at.count ≤ 64) × (image_length z ≤ length img)
leans z at st img ez ea e = rw (ez, ea) (first-known st img e)

-- Rows 8, 4 and 9, row 11 for the data, then the others.
pub returns-in_err-valid_row : goal.returns-in_err-valid_row
returns-in_err-valid_row c =
    let a = c.args in
    let same : c.from_residual.result ≡ Err c.in_err-valid_row.field-0.0 = search rules in
    rw same (found-first (decoded a.words.now) a.image.now a.writer a.a.page a.a.line a.a.offset a.a.length a.«data».now _ c.in_err-valid_row.ensures)

pub returns-then-data-a : goal.returns-then-data-a
returns-then-data-a c =
    let a = c.args in
    let st = decoded a.words.now in
    let over = rw (ap (λ (z : Sizes). z.pages) c.requires.0) at c.if-data-a.true in
    let bad = write-bad (ltb (length a.«data».now) a.a.length) (is_wide st.wide a.writer) st a.writer a.a.page a.a.line a.a.offset a.a.length over in
    found-whole st a.image.now c.in_ok-valid_row.ensures a.writer a.a.page a.a.line a.a.offset a.a.length a.«data».now (Err BadArgument) bad

pub entry_found-requires : goal.entry_found-requires
entry_found-requires c =
    let a = c.args in
    let q = leans a.z a.at (decoded a.words.now) a.image.now c.requires.0 c.requires.1 c.in_ok-valid_row.ensures in
    let low = leb-false _ _ (or_right (ltb (length a.«data».now) a.a.length) (leb a.z.pages a.a.page) c.if-data-a.false) in
    (q.0, q.2, low)

pub returns-then-at-writer : goal.returns-then-at-writer
returns-then-at-writer c =
    let a = c.args in
    let st = decoded a.words.now in
    let wide : st.wide.writer ≡ a.writer = sym (ap (λ (p : Places). p.wide) c.requires.1) ∙ c.if-at-writer.true in
    let long = or_left (ltb (length a.«data».now) a.a.length) (leb a.z.pages a.a.page) c.if-data-a.false in
    found-whole st a.image.now c.in_ok-valid_row.ensures a.writer a.a.page a.a.line a.a.offset a.a.length a.«data».now _ (entry-after st a.writer a.a.page a.a.line a.a.offset a.a.length a.«data».now long _ wide (rw (c.requires.0, c.requires.1) at c.entry_found.ensures))

pub frames_found-requires : goal.frames_found-requires
frames_found-requires c =
    let a = c.args in
    let q = leans a.z a.at (decoded a.words.now) a.image.now c.requires.0 c.requires.1 c.in_ok-valid_row.ensures in
    let low = leb-false _ _ (or_right (ltb (length a.«data».now) a.a.length) (leb a.z.pages a.a.page) c.if-data-a.false) in
    (q.0, q.1, low)

pub returns : goal.returns
returns c =
    let a = c.args in
    let st = decoded a.words.now in
    let narrow : is_wide st.wide a.writer ≡ false = ne_eqb st.wide.writer a.writer (λ q. c.if-at-writer.false (ap (λ (p : Places). p.wide) c.requires.1 ∙ q)) in
    let long = or_left (ltb (length a.«data».now) a.a.length) (leb a.z.pages a.a.page) c.if-data-a.false in
    found-whole st a.image.now c.in_ok-valid_row.ensures a.writer a.a.page a.a.line a.a.offset a.a.length a.«data».now _ (frames-after st a.writer a.a.page a.a.line a.a.offset a.a.length a.«data».now long _ narrow (rw (c.requires.0, c.requires.1) at c.frames_found.ensures))
