use mathlib.Core.Path.{ap}
use lib.Bits.{bit_or}
use Rattle.masks.specs.Lines.{with_line}
use Rattle.masks.proofs.Members.{shifted_one}
use Rattle.masks.proofs.with.Goals as goal

-- the shifted one is 2 ^ i, which fits
pub returns : goal.returns
unfolding with_line
returns c = ap (bit_or c.args.m) (shifted_one c.args.i c.requires)
