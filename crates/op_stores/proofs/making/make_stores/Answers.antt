use mathlib.Core.Path.{◌≡◌, refl, ap}
use native.Mathlib.Omega.{arith}
use Rattle.bounded.proofs.Below.{up_none, up_ends}
use Rattle.state.specs.State.{State}
use Rattle.operations.specs.Operations.{needs as needs_of}
use Rattle.refinement.specs.Stores.{store_at, store_value}
use Rattle.op_pieces.proofs.Turns.{piece-turn}
use Rattle.state_words.specs.Decoded.{decoded}
use Rattle.op_stores.proofs.Leaning.{pending_next}
use borrow.Author.Rules.{rules}
use Rattle.op_stores.proofs.making.make_stores.Lts
use Rattle.op_stores.proofs.making.make_stores.Tie
use Rattle.op_stores.proofs.making.make_stores.Reads
use Rattle.op_stores.proofs.making.make_stores.Goals as goal

abbrev At-Start : Type 0
At-Start = Lts.Start Tie.the-claims Reads.Pre Reads.Post goal.the-invariant-loop-i goal.the-decreases-loop-i

abbrev st : At-Start → State
st s = decoded s.args.words.now

pub loop-i-init : goal.loop-i-init
loop-i-init c = (search rules, refl, up_none _ _)

pub overflow_add-made : goal.overflow_add-made
overflow_add-made c = omega (arith, c.requires.4, c.loop-i-test.true)

pub next_piece-p-requires : goal.next_piece-p-requires
next_piece-p-requires c =
    let l = c.loop-i in
    (c.requires.0, c.requires.1, omega (arith, c.requires.3, c.loop-i-test.true), omega (arith, c.requires.5, l.invariant.1))

pub overflow_sub-p : goal.overflow_sub-p
overflow_sub-p c = let h = c.next_piece-p.ensures in omega (arith, h.some)

pub put_piece-requires : goal.put_piece-requires
put_piece-requires c =
    let h = c.next_piece-p.ensures in
    let l = c.loop-i in
    let m = c.smaller-m.ensures in
    let all : needs_of (st c.before.before.before.before.before.before.before) c.args.op ≡ needs_of (st c.before.before.before.before.before.before.before) (st c.before.before.before.before.before.before.before).pending.op = ap (needs_of (st c.before.before.before.before.before.before.before)) c.requires.1 in
    record {
      i = l.i;
      start = c.args.image.now;
      landed = l.invariant.2;
      next = pending_next c.args.z (st c.before.before.before.before.before.before.before) c.args.op c.args.made l.i l.image _ c.requires.1 c.requires.2 (omega (arith, c.requires.5, l.invariant.1)) h;
      inside = omega (arith, h.some, m);
      within = omega (arith, c.requires.2, c.requires.3, all, m, l.invariant.0);
    }

pub overflow_add-i : goal.overflow_add-i
overflow_add-i c = omega (arith, c.smaller-m.ensures)

pub loop-i-smaller : goal.loop-i-smaller
loop-i-smaller c =
    let h = c.next_piece-p.ensures in
    omega (arith, h.some, c.smaller-m.ensures, c.loop-i-test.true)

pub loop-i-preserved : goal.loop-i-preserved
loop-i-preserved c =
    let h = c.next_piece-p.ensures in
    let m = c.smaller-m.ensures in
    let l = c.loop-i in (
      omega (arith, m, c.loop-i-test.true),
      search rules,
      piece-turn (λ u. store_at (st c.before.before.before.before.before.before.before.before.before.before.before) (st c.before.before.before.before.before.before.before.before.before.before.before).pending.op) (λ u. store_value (st c.before.before.before.before.before.before.before.before.before.before.before) u (st c.before.before.before.before.before.before.before.before.before.before.before).pending.op) (st c.before.before.before.before.before.before.before.before.before.before.before).pending.made l.i _ _ _ c.args.image.now l.image _ l.invariant.2
          (pending_next c.args.z (st c.before.before.before.before.before.before.before.before.before.before.before) c.args.op c.args.made l.i l.image _ c.requires.1 c.requires.2 (omega (arith, c.requires.5, l.invariant.1)) h)
          (omega (arith, h.some, m)) c.put_piece.ensures,
    )

pub returns : goal.returns
returns c = up_ends _ _ _ _ _ c.loop-i.invariant.0 c.loop-i-test.false c.loop-i.invariant.2
