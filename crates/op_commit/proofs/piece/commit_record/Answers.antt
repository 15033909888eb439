use Prim.Native.Nat.{◌<◌}
use native.Mathlib.Omega.{arith}
use Rattle.refinement.proofs.CommitPlaces.{held-slot-low}
use Rattle.op_commit.proofs.CommitMade.{commit-made}
use Rattle.state_words.specs.Decoded.{decoded}
use Rattle.op_commit.proofs.piece.commit_record.Lts
use Rattle.op_commit.proofs.piece.commit_record.Tie
use Rattle.op_commit.proofs.piece.commit_record.Reads
use Rattle.op_commit.proofs.piece.commit_record.Goals as goal

abbrev At-After-held_slot-s : Type 0
At-After-held_slot-s = Lts.After-held_slot Tie.the-claims Reads.Pre Reads.Post

low : (c : At-After-held_slot-s) → c.held_slot-s.result < 16
low c =
    omega (arith, held-slot-low c.args.z (decoded c.args.words.now).writers.held c.args.w c.args.j _ c.requires.0 c.held_slot-s.ensures, c.requires.0)

pub slot_at-t-requires : goal.slot_at-t-requires
slot_at-t-requires c = low c

pub held_at-m-requires : goal.held_at-m-requires
held_at-m-requires c = (c.requires.1, low c.before)

pub returns : goal.returns
returns c =
    commit-made c.args.z c.args.head (decoded c.args.words.now).table (decoded c.args.words.now).writers.held c.args.w c.args.j _ _ _ c.held_slot-s.ensures c.slot_at-t.ensures (rw c.held_at-m.ensures at c.exclusive_or.ensures)
