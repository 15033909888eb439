use native.Mathlib.Omega.{arith}
use Prim.Native.Nat.{◌+◌, ◌≤◌}
use Rattle.number_text.proofs.Puts.{put_then}
use Rattle.wording.specs.Words.{codes}
use Rattle.reasons.specs.Sentence.{closing}
use Rattle.reasons.proofs.Lengths.{field_end, page-label, holder-label}
use Rattle.reasons.proofs.put_closing.Goals as goal

-- The four fields and the dot; each ends where the longest would.
pub put_field-next-requires-2 : goal.put_field-next-requires-2
put_field-next-requires-2 c =
    let writer : c.put_field-next.result ≤ c.args.at + 29 = field_end _ _ _ c.put_field-next.ensures in
    omega (arith, writer, page-label _ c.page_label.ensures)

pub put_field-next-requires-3 : goal.put_field-next-requires-3
unfolding codes
put_field-next-requires-3 c =
    let writer : c.put_field-next.result ≤ c.args.at + 29 = field_end _ _ _ c.put_field-next.ensures in
    let page : c.put_field-next-2.result ≤ c.args.at + 56 = omega (arith, writer, field_end _ _ _ c.put_field-next-2.ensures, page-label _ c.page_label.ensures) in
    omega (arith, page)

pub put_field-next-requires-4 : goal.put_field-next-requires-4
unfolding codes
put_field-next-requires-4 c =
    let writer : c.put_field-next.result ≤ c.args.at + 29 = field_end _ _ _ c.put_field-next.ensures in
    let page : c.put_field-next-2.result ≤ c.args.at + 56 = omega (arith, writer, field_end _ _ _ c.put_field-next-2.ensures, page-label _ c.page_label.ensures) in
    let line : c.put_field-next-3.result ≤ c.args.at + 83 = omega (arith, page, field_end _ _ _ c.put_field-next-3.ensures) in
    omega (arith, line, holder-label _ c.holder_label.ensures, c.requires)

pub put_byte-requires : goal.put_byte-requires
unfolding codes
put_byte-requires c =
    let writer : c.put_field-next.result ≤ c.args.at + 29 = field_end _ _ _ c.put_field-next.ensures in
    let page : c.put_field-next-2.result ≤ c.args.at + 56 = omega (arith, writer, field_end _ _ _ c.put_field-next-2.ensures, page-label _ c.page_label.ensures) in
    let line : c.put_field-next-3.result ≤ c.args.at + 83 = omega (arith, page, field_end _ _ _ c.put_field-next-3.ensures) in
    let holder : c.put_field-next-4.result ≤ c.args.at + 120 = omega (arith, line, field_end _ _ _ c.put_field-next-4.ensures, holder-label _ c.holder_label.ensures) in
    omega (arith, holder, c.requires)

pub returns : goal.returns
unfolding closing codes
returns c =
    let writer : c.put_field-next.result ≤ c.args.at + 29 = field_end _ _ _ c.put_field-next.ensures in
    let page : c.put_field-next-2.result ≤ c.args.at + 56 = omega (arith, writer, field_end _ _ _ c.put_field-next-2.ensures, page-label _ c.page_label.ensures) in
    let line : c.put_field-next-3.result ≤ c.args.at + 83 = omega (arith, page, field_end _ _ _ c.put_field-next-3.ensures) in
    let holder : c.put_field-next-4.result ≤ c.args.at + 120 = omega (arith, line, field_end _ _ _ c.put_field-next-4.ensures, holder-label _ c.holder_label.ensures) in
    rw (← c.meets_writer-met.ensures, ← c.takes_line-has_line.ensures, ← c.takes_page-has_page.ensures, ← c.takes_writer-has_writer.ensures, ← c.page_label.ensures, ← c.holder_label.ensures)
    (put_then c.put_field-next.ensures
    (put_then c.put_field-next-2.ensures
    (put_then c.put_field-next-3.ensures
    (put_then c.put_field-next-4.ensures
    (record { laid = c.put_byte.ensures.target_after; place = c.put_byte.ensures.value })
    (omega (arith, holder)))
    (omega (arith, line)))
    (omega (arith, page)))
    (omega (arith, writer)))
