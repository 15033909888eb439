use mathlib.Core.List.{List, [], ◌∷◌}
use mathlib.Core.Bool.{not}
use mathlib.Core.Path.{◌≡◌, sym, ap, ◌∙◌}
use borrow.Author.Rules.{rules}
use borrow.Author.Tests.{le-ltb}
use Rattle.std.specs.Prelude.{Err}
use Rattle.bounded.specs.Rows.{Row, refusal}
use Rattle.rows.specs.Numbers.{number}
use Rattle.rows.proofs.Numbers.{number-some}
use Rattle.state.specs.Slots.{slot_of_page}
use Rattle.state_words.specs.Decoded.{decoded}
use Rattle.operations.specs.Operations.{journal_full_of}
use Rattle.operations.proofs.Joined.{joined-first}
use Rattle.op_rows.specs.Seen.{event_next_rows_in}
use Rattle.op_rows.proofs.events.event_row.Goals as goal

-- a row from 12 to 15 is the first of all
pub returns-in_err-event_next_row : goal.returns-in_err-event_next_row
returns-in_err-event_next_row c =
    let a = c.args in
    let first : List Row = event_next_rows_in a.z a.at (decoded a.words.now) a.kind a.meter (slot_of_page a.z (decoded a.words.now).table.page 0) in
    let last : List Row = (journal_full_of a.z a.at.head a.at.tail 1, 19) ∷ [] in
    let row = c.in_err-event_next_row.field-0.0 in
    let same : c.from_residual.result ≡ Err row = search rules in
    let e : number row ≡ refusal first = rw (← c.slot_of-s.ensures) c.in_err-event_next_row.ensures in
    rw (same, le-ltb _ _ c.if-at-lt4.false, ap not (sym c.is_known.ensures ∙ c.if-not-is_known.false))
    (e ∙ joined-first first last (λ z. number-some row (e ∙ z)))
