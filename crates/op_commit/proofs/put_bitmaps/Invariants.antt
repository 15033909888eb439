use Prim.Native.Nat.{◌-◌, ◌≤◌}
use mathlib.Core.Path.{◌≡◌}
use Rattle.refinement.specs.Commit.{bitmaps_after}
use Rattle.state_words.specs.Decoded.{decoded}
use Rattle.op_commit.specs.After.{with_bitmaps}
use Rattle.op_commit.proofs.put_bitmaps.Given as goal

abbrev pub invariant-loop-j : goal.invariant-loop-j
invariant-loop-j l = decoded l.words ≡ with_bitmaps (decoded l.initial.words) (bitmaps_after l.z (decoded l.initial.words).table.bitmap (decoded l.initial.words).writers.held l.w l.j)
