use Prim.Native.Nat.{ℕ, ◌-◌, min}
use mathlib.Core.Path.{refl, ap, ◌∙◌}
use native.Mathlib.Omega.{arith}
use Rattle.layout.specs.Layout.{layout_word}
use Rattle.op_pieces.specs.Pieces.{one_piece}
use Rattle.op_format.proofs.FormatPieces.{first_piece, last-piece, low-piece, high-piece}
use Rattle.op_format.proofs.format_piece.Goals as goal

pub returns-then-i-eq0 : goal.returns-then-i-eq0
returns-then-i-eq0 c =
    first_piece c.args.z c.requires.0 c.args.i _ c.if-i-eq0.true c.one.ensures

pub returns-then-i-end : goal.returns-then-i-end
returns-then-i-end c =
    last-piece c.args.z c.requires.0 c.args.i _ (c.if-i-end.true ∙ c.entry_word-end.ensures) (c.one-then-i-end.ensures ∙ ap (one_piece layout_word) c.layout_of.ensures)

pub returns-then-i-lt4 : goal.returns-then-i-lt4
returns-then-i-lt4 c =
    low-piece c.args.z c.requires.0 c.args.i _ _ (omega (arith, c.if-i-eq0.false)) c.if-i-lt4.true refl c.fresh_words-words.ensures

pub returns : goal.returns
returns c =
    high-piece c.args.z c.requires.0 c.args.i _ _ _ c.if-i-lt4.false (omega (arith, c.requires.1, c.entry_word-end.ensures, c.if-i-end.false)) (c.smaller.ensures ∙ ap (λ (x : ℕ). min 8 (x - c.args.i)) c.entry_word-end.ensures) refl c.fresh_words-words-2.ensures
