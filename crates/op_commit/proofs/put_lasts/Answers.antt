use borrow.Author.Rules.{rules}
use Prim.Native.Nat.{◌<◌}
use mathlib.Core.Path.{refl, ap, ◌∙◌}
use native.Mathlib.Omega.{arith}
use Rattle.bounded.proofs.Below.{up_none, up_ends}
use Rattle.state_words.specs.Decoded.{decoded}
use Rattle.op_commit.specs.After.{with_lasts}
use Rattle.op_commit.proofs.Turns.{slot-low, last_turn}
use Rattle.op_commit.proofs.put_lasts.Goals as goal

pub loop-j-init : goal.loop-j-init
loop-j-init c = ap (with_lasts (decoded c.args.words.now)) (up_none _ _)

pub position-requires : goal.position-requires
position-requires c = (c.requires.0, c.requires.1, omega (arith, c.loop-j-test.true, c.requires.3))

pub put_last-requires : goal.put_last-requires
put_last-requires c = slot-low _ _ _ _ _ c.requires.0 c.held_slot-s.ensures

pub loop-j-preserved : goal.loop-j-preserved
loop-j-preserved c =
    last_turn (decoded c.args.words.now) (decoded c.loop-j.words) _ c.args.z c.args.w c.loop-j.j _ c.args.head _ c.loop-j.invariant c.held_slot-s.ensures c.position.ensures c.put_last.ensures

pub returns : goal.returns
returns c =
    c.loop-j.invariant ∙ ap (with_lasts (decoded c.args.words.now)) (up_ends _ _ _ _ _ c.loop-j.auto.j-end c.loop-j-test.false refl)
