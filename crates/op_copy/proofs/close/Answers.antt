use Rattle.state_words.specs.Decoded.{decoded}
use Rattle.op_copy.proofs.NoWide.{closed, closed_none}
use Rattle.op_copy.proofs.close.Goals as goal

pub returns-then-w-gt3 : goal.returns-then-w-gt3
returns-then-w-gt3 c =
    closed_none c.args.words.now c.args.z c.args.w c.all_words.ensures c.if-w-gt3.true

pub returns : goal.returns
returns c =
    closed (decoded c.args.words.now) _ _ c.args.z c.args.w c.let_go.ensures c.put_open.ensures.state
