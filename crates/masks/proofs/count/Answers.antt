use native.Mathlib.Omega.{arith}
use lib.Count.{ones-le}
use Rattle.masks.proofs.Counts.{ones-count}
use Rattle.masks.proofs.count.Goals as goal

-- a mask has no more than 64 ones, and they are its lines
pub overflow_cast-result : goal.overflow_cast-result
overflow_cast-result c = omega (arith, ones-le 64 c.args.m c.ranges.m.fits)

pub returns : goal.returns
returns c = ones-count c.args.m c.ranges.m.fits
