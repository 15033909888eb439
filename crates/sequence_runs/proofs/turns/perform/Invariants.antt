use Prim.Native.Nat.{◌≤◌}
use mathlib.Core.Path.{◌≡◌}
use lib.ListN.{length}
use Rattle.sequence_runs.specs.Runs.{ran}
use Rattle.sequence_runs.specs.Turns.{begun}
use Rattle.sequence_runs.proofs.Performed.{Reached}
use Rattle.sequence_runs.proofs.turns.perform.Given as goal

-- At the head of the loop i calls are made.
abbrev pub invariant-loop-i : goal.invariant-loop-i
invariant-loop-i l = (l.i ≤ length l.numbers) × (length l.image ≡ length l.initial.image) × (length l.answers ≡ length l.initial.answers)
    × Reached l.k l.numbers l.i l.answers l.needed l.words l.image (ran l.k l.numbers (begun l.initial.words l.initial.image))
