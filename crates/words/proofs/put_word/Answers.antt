use Prim.Native.Nat.{◌+◌}
use native.Mathlib.Omega.{arith}
use Rattle.words.specs.Words.{bytes_of, put_word}
use Rattle.words.proofs.Parts.{over-back}
use Rattle.words.proofs.put_word.Goals as goal

-- The part comes back as the bytes of v, laid over the whole.
pub returns : goal.returns
unfolding put_word bytes_of
returns c =
    over-back c.args.s.now c.args.at (c.args.at + 8) c.put_bytes.ensures (omega arith)
