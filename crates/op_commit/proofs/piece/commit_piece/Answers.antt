use Prim.Native.Nat.{◌/◌}
use native.Mathlib.Omega.{arith}
use Rattle.state.specs.State.{State}
use Rattle.state_words.specs.Decoded.{decoded}
use Rattle.state.proofs.Numbers.{held-le}
use Rattle.refinement.proofs.CommitPlaces.{commit-record-fits}
use Rattle.op_commit.proofs.CommitPieces.{record-piece, head-piece}
use Rattle.op_commit.proofs.piece.commit_piece.Lts
use Rattle.op_commit.proofs.piece.commit_piece.Tie
use Rattle.op_commit.proofs.piece.commit_piece.Reads
use Rattle.op_commit.proofs.piece.commit_piece.Goals as goal

abbrev At-Start : Type 0
At-Start = Lts.Start Tie.the-claims Reads.Pre Reads.Post

abbrev st : At-Start → State
st s = decoded s.args.words.now

pub overflow_mul-c : goal.overflow_mul-c
overflow_mul-c c = omega (arith, held-le _ _ _ _ c.requires.4, c.requires.0)

pub record_place-a-requires : goal.record_place-a-requires
record_place-a-requires c =
    (c.requires.0, c.requires.1, omega (arith, held-le _ _ _ _ c.requires.4, c.requires.0, c.if-i-c.true))

pub of_record-requires : goal.of_record-requires
of_record-requires c =
    rw c.commit_record-e.ensures (commit-record-fits c.args.z c.args.head (st c.before.before.before).table (st c.before.before.before).writers.held c.args.w (c.args.i / 4) c.requires.0 c.requires.1 c.requires.2)

pub returns-then-i-c : goal.returns-then-i-c
returns-then-i-c c =
    λ img. record-piece c.args.z c.args.head (st c.before.before.before.before).table (st c.before.before.before.before).writers.held c.args.w c.args.i _ c.requires.4 img _ _ _ c.requires.0 (omega (arith, c.if-i-c.true)) c.commit_record-e.ensures c.record_place-a.ensures c.of_record.ensures

pub position-h-requires : goal.position-h-requires
position-h-requires c =
    (c.requires.0, c.requires.1, omega (arith, held-le _ _ _ _ c.requires.4, c.requires.0))

pub returns : goal.returns
returns c =
    λ img. head-piece c.args.z c.args.head (st c.before.before.before).table (st c.before.before.before).writers.held c.args.w c.args.i _ c.requires.4 img _ _ (omega (arith, c.if-i-c.false)) c.position-h.ensures c.one.ensures
