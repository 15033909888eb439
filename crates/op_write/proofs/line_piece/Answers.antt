use Prim.Native.Nat.{ℕ, ◌<◌}
use mathlib.Core.Path.{◌≡◌, ap, ◌∙◌}
use native.Mathlib.Omega.{arith}
use Rattle.layout.specs.Layout.{line_word}
use Rattle.refinement.proofs.WritePlaces.{write-frame-low}
use Rattle.op_pieces.specs.Pieces.{line_piece}
use Rattle.state_words.specs.Decoded.{decoded}
use Rattle.op_write.proofs.Held.{slot-low, frame_is}
use Rattle.op_write.proofs.line_piece.Goals as goal

pub slot_at-t-requires : goal.slot_at-t-requires
slot_at-t-requires c =
    slot-low c.args.z c.args.next (decoded c.args.words.now).table.page c.args.p _ _ c.requires.0 c.slot_of-own.ensures c.write_slot-s.ensures

pub line_word-requires : goal.line_word-requires
line_word-requires c =
    let a = c.args in
    let t = (decoded a.words.now).table in
    let frame = frame_is a.z a.next t a.p a.l _ _ _ _ c.slot_of-own.ensures c.write_slot-s.ensures c.slot_at-t.ensures c.other_frame-f.ensures in
    (c.requires.0, write-frame-low a.z t a.next a.p a.l _ c.requires.0 c.requires.2 frame, c.requires.3)

pub returns : goal.returns
returns c =
    let a = c.args in
    let t = (decoded a.words.now).table in
    let frame = frame_is a.z a.next t a.p a.l _ _ _ _ c.slot_of-own.ensures c.write_slot-s.ensures c.slot_at-t.ensures c.other_frame-f.ensures in
    let low = write-frame-low a.z t a.next a.p a.l _ c.requires.0 c.requires.2 frame in
    let at : ℕ → ℕ = λ f. line_word a.z f a.l in record {
      piece = c.of_line.ensures ∙ ap (λ (b : ℕ). line_piece b a.line a.k) (c.line_word.ensures ∙ ap at frame);
      inside = rw c.of_line.ensures (omega (arith, c.line_word.ensures, low, c.requires.3));
    }
