use Rattle.state_words.specs.Decoded.{decoded}
use Rattle.op_copy.proofs.NoWide.{copied}
use Rattle.op_copy.proofs.complete_copy.Goals as goal

pub returns : goal.returns
returns c =
    copied (decoded c.args.words.now) _ _ _ c.args.z c.args.w c.requires.0 c.requires.2 c.close.ensures c.put_no_wide.ensures c.put_nothing.ensures
