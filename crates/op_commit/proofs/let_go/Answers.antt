use mathlib.Core.Path.{refl, ap, ◌∙◌}
use Rattle.bounded.proofs.Below.{up_none, up_ends}
use Rattle.state_words.specs.Decoded.{decoded}
use Rattle.op_commit.proofs.Turns.{go-turn}
use Rattle.op_commit.proofs.let_go.Invariants.{gone}
use Rattle.op_commit.proofs.let_go.Goals as goal

pub loop-s-init : goal.loop-s-init
loop-s-init c = ap (gone (decoded c.args.words.now) c.args.w) (up_none _ _)

pub loop-s-preserved : goal.loop-s-preserved
loop-s-preserved c = go-turn _ _ _ _ _ c.loop-s.invariant c.put_held.ensures

pub returns : goal.returns
returns c =
    c.loop-s.invariant ∙ ap (gone (decoded c.args.words.now) c.args.w) (up_ends _ _ _ _ _ c.loop-s.auto.s-end c.loop-s-test.false refl)
