use mathlib.Core.Path.{◌≡◌}
use lib.ListN.{take}
use Rattle.words.proofs.put_bytes.Given as goal

abbrev pub invariant-loop-i : goal.invariant-loop-i
invariant-loop-i l = take l.i l.b ≡ take l.i l.bytes
