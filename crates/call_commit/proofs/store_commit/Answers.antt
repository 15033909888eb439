use Prim.Native.Nat.{◌-◌}
use mathlib.Core.Path.{refl}
use native.Mathlib.Omega.{arith}
use Rattle.bounded.proofs.Below.{up_none, up_ends}
use Rattle.state.specs.State.{State}
use Rattle.refinement.specs.Stores.{store_at, store_value}
use Rattle.op_pieces.proofs.Turns.{piece-turn}
use Rattle.state_words.specs.Decoded.{decoded}
use Rattle.call_commit.proofs.Committing.{piece-leans, piece-next, all-needs}
use borrow.Author.Rules.{rules}
use Rattle.call_commit.proofs.store_commit.Lts
use Rattle.call_commit.proofs.store_commit.Tie
use Rattle.call_commit.proofs.store_commit.Reads
use Rattle.call_commit.proofs.store_commit.Goals as goal

abbrev At-Start : Type 0
At-Start = Lts.Start Tie.the-claims Reads.Pre Reads.Post goal.the-invariant-loop-i goal.the-decreases-loop-i

abbrev st : At-Start → State
st s = decoded s.args.words.now

pub loop-i-init : goal.loop-i-init
loop-i-init c = (search rules, refl, up_none _ _)

pub commit_piece-p-requires : goal.commit_piece-p-requires
commit_piece-p-requires c =
    piece-leans c.args.z c.args.at (st c.before.before.before) c.args.w c.args.c c.requires.0

pub overflow_sub-p : goal.overflow_sub-p
overflow_sub-p c = let h = c.commit_piece-p.ensures c.loop-i.image in omega (arith, h.some)

pub put_piece-requires : goal.put_piece-requires
put_piece-requires c =
    let l = c.loop-i in
    let h = c.commit_piece-p.ensures l.image in
    let g = c.requires.0 in
    let m = c.smaller-m.ensures in
    record {
      i = l.i;
      start = c.args.image.now;
      landed = l.invariant.2;
      next = piece-next c.args.z c.args.at (st c.before.before.before.before.before.before.before) c.args.w c.args.c g l.i l.image _ (omega (arith, c.requires.2, l.invariant.1)) h;
      inside = omega (arith, h.some, m);
      within = omega (arith, g.none_made, c.requires.1, all-needs c.args.z c.args.at (st c.before.before.before.before.before.before.before) c.args.w c.args.c g, m, l.invariant.0);
    }

pub overflow_add-i : goal.overflow_add-i
overflow_add-i c = omega (arith, c.smaller-m.ensures)

pub loop-i-smaller : goal.loop-i-smaller
loop-i-smaller c =
    let l = c.loop-i in
    let h = c.commit_piece-p.ensures l.image in
    omega (arith, h.some, c.smaller-m.ensures, c.loop-i-test.true)

pub loop-i-preserved : goal.loop-i-preserved
loop-i-preserved c =
    let l = c.loop-i in
    let h = c.commit_piece-p.ensures l.image in
    let m = c.smaller-m.ensures in (
      omega (arith, m, c.loop-i-test.true),
      search rules,
      piece-turn (λ u. store_at (st c.before.before.before.before.before.before.before.before.before.before.before) (st c.before.before.before.before.before.before.before.before.before.before.before).pending.op) (λ u. store_value (st c.before.before.before.before.before.before.before.before.before.before.before) u (st c.before.before.before.before.before.before.before.before.before.before.before).pending.op) (st c.before.before.before.before.before.before.before.before.before.before.before).pending.made l.i _ _ _ c.args.image.now l.image _ l.invariant.2
          (piece-next c.args.z c.args.at (st c.before.before.before.before.before.before.before.before.before.before.before) c.args.w c.args.c c.requires.0 l.i l.image _ (omega (arith, c.requires.2, l.invariant.1)) h)
          (omega (arith, h.some, m)) c.put_piece.ensures,
    )

pub returns : goal.returns
returns c = up_ends _ _ _ _ _ c.loop-i.invariant.0 c.loop-i-test.false c.loop-i.invariant.2
