use Prim.Native.Nat.{◌/◌, ◌<◌}
use native.Mathlib.Omega.{arith}
use Rattle.image.proofs.LineLaws.{length-frame}
use Rattle.needs.proofs.Counted.{copy-le}
use Rattle.refinement.proofs.ConsolidatePlaces.{copy_line}
use Rattle.op_consolidate.proofs.ConsolidatePieces.{line-piece, page-piece, record-piece, head-piece}
use Rattle.op_consolidate.proofs.slot_piece.Lts
use Rattle.op_consolidate.proofs.slot_piece.Tie
use Rattle.op_consolidate.proofs.slot_piece.Reads
use Rattle.op_consolidate.proofs.slot_piece.Goals as goal

abbrev At-After-copied_line-l : Type 0
At-After-copied_line-l = Lts.After-copied_line Tie.the-claims Reads.Pre Reads.Post

pub overflow_mul-c : goal.overflow_mul-c
overflow_mul-c c = omega (arith, copy-le _ _ c.copy_count-c.ensures)

-- the line is one of the 64
line_low : (c : At-After-copied_line-l) → c.copied_line-l.result < 64
line_low c =
    rw c.copied_line-l.ensures (copy_line c.args.t (c.args.i / 8) (omega (arith, c.copy_count-c.ensures, c.if-i-c.true)))

pub line_word-to-requires : goal.line_word-to-requires
line_word-to-requires c =
    (c.requires.0, rw c.copy_to.ensures c.requires.3, line_low c.before.before)

pub frame-requires : goal.frame-requires
frame-requires c =
    (c.requires.0, rw c.copy_from.ensures c.requires.2, c.requires.7)

pub overflow_mul-l : goal.overflow_mul-l
overflow_mul-l c = omega (arith, line_low c.before.before.before.before.before)

pub of_copy-requires : goal.of_copy-requires
of_copy-requires c =
    omega (arith, line_low c.before.before.before.before.before, length-frame c.args.image.now c.args.z c.copy_from.result (rw c.copy_from.ensures c.requires.2) c.requires.7 c.frame.ensures)

pub returns-then-i-c : goal.returns-then-i-c
returns-then-i-c c =
    line-piece c.args.z c.args.head c.args.t c.args.e c.args.p c.args.i _ c.copy_count-c.ensures c.args.image.now _ _ _ _ _ _ c.requires.7 c.if-i-c.true c.requires.2 c.requires.3 c.requires.4 c.copied_line-l.ensures c.copy_to.ensures c.line_word-to.ensures c.copy_from.ensures c.frame.ensures c.of_copy.ensures

pub returns-then-i-c-2 : goal.returns-then-i-c-2
returns-then-i-c-2 c =
    page-piece c.args.z c.args.head c.args.t c.args.e c.args.p c.args.i _ c.copy_count-c.ensures c.args.image.now _ _ _ c.requires.6 c.if-i-c-2.true c.copy_to-then-i-c-2.ensures c.page_word.ensures c.one.ensures

pub returns-then-i-c-3 : goal.returns-then-i-c-3
returns-then-i-c-3 c =
    record-piece c.args.z c.args.head c.args.t c.args.e c.args.p c.args.i _ c.copy_count-c.ensures c.args.image.now _ _ c.requires.0 (omega (arith, c.if-i-c-2.false, c.if-i-c.false)) c.if-i-c-3.true c.record_word.ensures c.of_record.ensures

pub returns : goal.returns
returns c =
    head-piece c.args.z c.args.head c.args.t c.args.e c.args.p c.args.i _ c.copy_count-c.ensures c.args.image.now _ _ c.if-i-c-3.false c.position-h.ensures c.one-2.ensures
