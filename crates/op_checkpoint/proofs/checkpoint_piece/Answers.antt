use native.Mathlib.Omega.{arith}
use mathlib.Core.Path.{ap}
use lib.ListN.{get_or}
use Rattle.layout.proofs.LayoutLaws.{record-end}
use Rattle.replay.specs.Table.{no_position}
use Rattle.state.specs.declared.Places.{Places}
use Rattle.state_words.specs.Decoded.{decoded}
use Rattle.op_checkpoint.proofs.CheckpointPieces.{slot-piece, tail-piece}
use Rattle.op_checkpoint.proofs.checkpoint_piece.Goals as goal

pub of_slot-requires : goal.of_slot-requires
of_slot-requires c =
    let a = c.args in
    let last = get_or (decoded a.words.now).table.last c.recorded_slot-s.result no_position in
    omega (arith, c.last_words-a.ensures, record-end a.z c.requires.2 last, c.requires.3)

pub returns-then-s-z : goal.returns-then-s-z
returns-then-s-z c =
    let a = c.args in
    slot-piece a.z (decoded a.words.now) c.requires.0 a.i _ a.image.now _ c.recorded_slot-s.ensures _ _ c.requires.2 c.requires.3 c.if-s-z.true
    c.last_words-a.ensures c.slot_word.ensures c.of_slot.ensures

pub returns : goal.returns
returns c =
    let a = c.args in
    tail-piece a.z (decoded a.words.now) c.requires.0 a.i _ a.image.now _ c.recorded_slot-s.ensures _ (ap (λ (p : Places). p.head) c.requires.1)
    c.if-s-z.false c.one.ensures
