use Prim.Native.Nat.{◌<◌}
use mathlib.Core.Path.{◌≡◌}
use lib.ListN.{drop}
use Rattle.hashing.specs.Hash.{hash_from, hash_of}
use Rattle.hashing.proofs.hash.Given as goal

abbrev pub invariant-loop-byte : goal.invariant-loop-byte
invariant-loop-byte l = (l.h < 4294967291) × (hash_from l.h (drop l.byte-index l.bytes) ≡ hash_of l.bytes)
