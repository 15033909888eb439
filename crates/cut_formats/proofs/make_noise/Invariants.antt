use Prim.Native.Nat.{◌<◌}
use Rattle.cut_formats.proofs.make_noise.Given as goal

-- The seed stays below 65,537.
abbrev pub invariant-loop-byte : goal.invariant-loop-byte
invariant-loop-byte l = l.seed < 65537
