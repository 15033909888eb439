use Rattle.std.proofs.Common.{◌≡◌, ℕ, ◌+◌, ◌<◌, ◌≤◌, List, length, refl, arith}
use Rattle.cutting.specs.Pieces.{line_end}
use Rattle.cutting.proofs.Cutting.{end-le, end_ge, end-again}
use Rattle.powerhit.proofs.Going.{goes-rest, goes_lines}
use Rattle.powerhit.proofs.perform_piece.Goals as goal

-- What the first line keeps, then its newline, then the lines after it, then what stands after the last newline.
pub returns-then-end-piece : goal.returns-then-end-piece
returns-then-end-piece c =
    let kept = c.keep.ensures in
    let piece = c.args.piece.now in
    goes-rest piece c.line_end-end.result _ _ c.line_end-end.ensures kept.line_after kept.value refl refl refl c.if-end-piece.true

-- the first newline is in the piece
inside : (piece : List ℕ) {end : ℕ} → end ≡ line_end piece 0 → (end ≡ length piece → ⊥) → end < length piece
inside piece found before = omega (arith, end-le piece 0, found, before)

pub overflow_add-from : goal.overflow_add-from
overflow_add-from c =
    omega (arith, inside c.args.piece.now c.line_end-end.ensures c.if-end-piece.false, c.well_formed.1.1.1.1.0.0)

pub perform_lines-last-requires : goal.perform_lines-last-requires
perform_lines-last-requires c =
    let piece = c.args.piece.now in
    let from = c.line_end-end.result + 1 in
    let next = c.line_end.ensures in
    let some : from ≤ length piece = omega (arith, inside piece c.line_end-end.ensures c.if-end-piece.false) in
    record {
      from_le_to = omega (arith, next, end_ge piece from some);
      to_value = rw next (end-again piece from some);
    }

pub returns : goal.returns
returns c =
    let piece = c.args.piece.now in
    let first = c.line_end-end in
    goes_lines piece first.result _ _ first.ensures c.keep.ensures.line_after c.keep.ensures.value refl refl refl
    c.line_end.result (inside piece first.ensures c.if-end-piece.false) c.perform_kept-next.ensures c.line_end.ensures
    c.perform_lines-last.ensures c.keep-2.ensures.line_after c.keep-2.ensures.value refl refl refl
