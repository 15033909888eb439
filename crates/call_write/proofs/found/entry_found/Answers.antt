use borrow.Author.Rules.{rules}
use mathlib.Core.Path.{◌≡◌, refl, sym, ◌∙◌}
use native.Mathlib.Omega.{arith}
use Rattle.std.specs.Prelude.{Err}
use Rattle.bounded.specs.Rows.{refusal}
use Rattle.bounded.proofs.Rows.{none-apply}
use Rattle.layout.specs.declared.Sizes.{Sizes}
use Rattle.state.specs.State.{State}
use Rattle.state.specs.declared.Places.{Places}
use Rattle.state.specs.Wide.{wide_of}
use Rattle.operations.proofs.Taken.{ArgsGood, args-good}
use Rattle.call_write.proofs.FoundLine.{has-entry, has-none}
use Rattle.refinement.specs.Frames.{seen_frame}
use Rattle.op_rows.specs.declared.Span.{Span}
use Rattle.op_rows.specs.Seen.{log_rows_in}
use Rattle.state_words.specs.Decoded.{decoded}
use Rattle.call_write.proofs.found.entry_found.Goals as goal

good : (z : Sizes) (at : Places) (st : State) (a : Span) → 0 ≡ refusal (log_rows_in z at st a) → ArgsGood z at.wide a.page a.line a.offset a.length
good z at st a e = args-good z at.wide a.page a.line a.offset a.length (none-apply (log_rows_in z at st a) (omega arith) (sym e)).0

pub returns-in_err-log_row : goal.returns-in_err-log_row
returns-in_err-log_row c =
    let same : c.from_residual.result ≡ Err c.in_err-log_row.field-0.0 = search rules in
    rw same c.in_err-log_row.ensures

pub overflow_add-a : goal.overflow_add-a
overflow_add-a c =
    let g = good c.args.z c.args.at (decoded c.args.words.now) c.args.a c.in_ok-log_row.ensures in
    record { fits = omega (arith, g.line_low, c.requires.2, c.requires.0.pages-high) }

pub returns-then-e-at : goal.returns-then-e-at
returns-then-e-at c =
    let has = has-entry (wide_of c.args.at.wide c.args.at.count (decoded c.args.words.now).wide.keys) c.args.a.page c.args.a.line _ _ c.find_entry-e.ensures c.if-e-at.true in
    (c.in_ok-log_row.ensures, has.0, has.1, refl)

pub seen_frame-seen-requires : goal.seen_frame-seen-requires
seen_frame-seen-requires c =
    let g = good c.args.z c.args.at (decoded c.args.words.now) c.args.a c.in_ok-log_row.ensures in
    (c.requires.0, g.writer-low, omega (arith, c.requires.2, c.requires.0.pages-high), g.line_low)

pub returns : goal.returns
unfolding seen_frame
returns c =
    let has = has-none (wide_of c.args.at.wide c.args.at.count (decoded c.args.words.now).wide.keys) c.args.a.page c.args.a.line _ _ c.find_entry-e.ensures c.if-e-at.false in
    (c.in_ok-log_row.ensures, rw c.slot_of-s.ensures at c.seen_frame-seen.ensures ∙ has.0, has.1, refl)
