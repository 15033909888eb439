use Prim.Native.Nat.{◌-◌, ◌/◌}
use native.Mathlib.Omega.{arith}
use Rattle.state.specs.State.{State, own_frame}
use Rattle.state_words.specs.Decoded.{decoded}
use Rattle.op_copy.proofs.CopyPieces.{count-piece, none-piece, copied-piece}
use Rattle.op_copy.proofs.copy_piece.Lts
use Rattle.op_copy.proofs.copy_piece.Tie
use Rattle.op_copy.proofs.copy_piece.Reads
use Rattle.op_copy.proofs.copy_piece.Goals as goal

abbrev At-Start : Type 0
At-Start = Lts.Start Tie.the-claims Reads.Pre Reads.Post

abbrev st : At-Start → State
st s = decoded s.args.words.now

pub returns-then-i-eq0 : goal.returns-then-i-eq0
returns-then-i-eq0 c =
    count-piece (own_frame (st c.before.before.before.before)) c.args.z (st c.before.before.before.before).table c.args.count (st c.before.before.before.before).wide.keys c.args.image.now c.args.i _ c.if-i-eq0.true c.one.ensures

pub returns-then-count-i : goal.returns-then-count-i
returns-then-count-i c =
    none-piece (own_frame (st c.before.before.before.before.before)) c.args.z (st c.before.before.before.before.before).table c.args.count (st c.before.before.before.before.before).wide.keys c.args.image.now c.args.i _ c.if-i-eq0.false c.if-count-i.true c.one-then-count-i.ensures

pub key_at-key-requires : goal.key_at-key-requires
key_at-key-requires c =
    omega (arith, c.if-count-i.false, c.if-i-eq0.false, c.requires.1, c.requires.0.entries-high)

pub copied_frame-f-requires : goal.copied_frame-f-requires
copied_frame-f-requires c =
    (c.requires.0, rw c.key_at-key.ensures (c.requires.2 ((c.args.i - 1) / 8) (omega (arith, c.if-count-i.false, c.if-i-eq0.false))).0)

pub line_word-to-requires : goal.line_word-to-requires
line_word-to-requires c =
    (c.requires.0, rw (c.copied_frame-f.ensures, c.key_at-key.ensures) (c.requires.2 ((c.args.i - 1) / 8) (omega (arith, c.if-count-i.false, c.if-i-eq0.false))).1, omega arith)

pub returns : goal.returns
returns c =
    let few = c.if-count-i.false in
    let some = c.if-i-eq0.false in
    let key = c.key_at-key.ensures in
    copied-piece (own_frame (st c.before.before.before.before.before.before.before.before.before)) c.args.z (st c.before.before.before.before.before.before.before.before.before).table c.args.count (st c.before.before.before.before.before.before.before.before.before).wide.keys c.args.image.now c.args.i _ some _ _ _ few c.requires.1 (c.requires.2 ((c.args.i - 1) / 8) (omega (arith, few, some))).1 c.requires.3
    (rw key at c.copied_frame-f.ensures) (rw key at c.line_word-to.ensures) c.entry_word-from.ensures c.of_copy.ensures
