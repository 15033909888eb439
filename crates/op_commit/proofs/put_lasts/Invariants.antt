use Prim.Native.Nat.{◌-◌, ◌≤◌}
use mathlib.Core.Path.{◌≡◌}
use Rattle.refinement.specs.Commit.{lasts_after}
use Rattle.state_words.specs.Decoded.{decoded}
use Rattle.op_commit.specs.After.{with_lasts}
use Rattle.op_commit.proofs.put_lasts.Given as goal

abbrev pub invariant-loop-j : goal.invariant-loop-j
invariant-loop-j l = decoded l.words ≡ with_lasts (decoded l.initial.words) (lasts_after l.z l.head (decoded l.initial.words).table.last (decoded l.initial.words).writers.held l.w l.j)
