use borrow.Author.Rules.{rules}
use Prim.Native.Nat.{ℕ}
use mathlib.Core.Path.{◌≡◌, refl, sym, ◌∙◌}
use native.Mathlib.Omega.{arith}
use Rattle.std.specs.Prelude.{Err}
use Rattle.bounded.specs.Rows.{refusal}
use Rattle.bounded.proofs.Rows.{none-apply}
use Rattle.layout.specs.declared.Sizes.{Sizes}
use Rattle.state.specs.State.{State}
use Rattle.state.specs.declared.Places.{Places}
use Rattle.operations.proofs.Taken.{ArgsGood, args-good}
use Rattle.refinement.specs.Frames.{seen_frame}
use Rattle.op_rows.specs.declared.Span.{Span}
use Rattle.op_rows.specs.Seen.{write_rows_in}
use Rattle.state_words.specs.Decoded.{decoded}
use Rattle.call_write.proofs.found.frames_found.Goals as goal

good : (z : Sizes) (at : Places) (st : State) (w : ℕ) (a : Span) (s : ℕ) → 0 ≡ refusal (write_rows_in z at st w a s) → ArgsGood z w a.page a.line a.offset a.length
good z at st w a s e = args-good z w a.page a.line a.offset a.length (none-apply (write_rows_in z at st w a s) (omega arith) (sym e)).0

pub returns-in_err-write_row : goal.returns-in_err-write_row
returns-in_err-write_row c =
    let same : c.from_residual.result ≡ Err c.in_err-write_row.field-0.0 = search rules in
    rw same (rw c.slot_of-s.ensures at c.in_err-write_row.ensures)

pub seen_frame-seen-requires : goal.seen_frame-seen-requires
seen_frame-seen-requires c =
    let g = good c.args.z c.args.at (decoded c.args.words.now) c.args.writer c.args.a _ c.in_ok-write_row.ensures in
    (c.requires.0, g.writer-low, omega (arith, c.requires.2, c.requires.0.pages-high), g.line_low)

pub holds_line-held-requires : goal.holds_line-held-requires
holds_line-held-requires c =
    let g = good c.args.z c.args.at (decoded c.args.words.now) c.args.writer c.args.a _ c.in_ok-write_row.ensures in
    (c.requires.0, g.writer-low, g.line_low)

pub returns : goal.returns
unfolding seen_frame
returns c =
    let slot = c.slot_of-s.ensures in
    (rw slot at c.in_ok-write_row.ensures, rw slot at c.seen_frame-seen.ensures, rw slot at c.holds_line-held.ensures, refl)
