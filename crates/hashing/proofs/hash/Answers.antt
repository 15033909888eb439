use mathlib.Core.Path.{refl}
use native.Mathlib.Omega.{arith}
use Rattle.hashing.proofs.Hashes.{hash-turn, hash-ends}
use Rattle.hashing.proofs.hash.Goals as goal

pub loop-byte-init : goal.loop-byte-init
loop-byte-init c = (omega arith, refl)

pub loop-byte-preserved : goal.loop-byte-preserved
loop-byte-preserved c = (omega arith, rw c.from.ensures (hash-turn c.args.bytes.now c.loop-byte.h c.loop-byte.byte-index c.loop-byte-test.true c.loop-byte.invariant.1))

pub returns : goal.returns
returns c = hash-ends c.args.bytes.now _ _ c.loop-byte-test.false c.loop-byte.invariant.1
