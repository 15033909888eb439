use native.Mathlib.Omega.{arith}
use Rattle.state_words.proofs.DecodedLaws.{held-put}
use Rattle.state_words.proofs.put_held.Goals as goal

pub returns : goal.returns
returns c = held-put c.args.words.now c.args.w c.args.s _ (omega arith) c.requires.0 c.requires.1 c.args.m
