use native.Mathlib.Omega.{arith}
use Rattle.state_words.proofs.DecodedLaws.{held-read}
use Rattle.state_words.proofs.held_at.Goals as goal

pub returns : goal.returns
returns c = held-read c.args.words.now c.args.w c.args.s _ (omega arith) c.requires.0 c.requires.1
