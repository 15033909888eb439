use Rattle.std.proofs.Common.{◌≡◌, ◌-◌, ◌≤◌, length, drop}
use Rattle.words.specs.Words.{part}
use Rattle.cutting.specs.Pieces.{line_end}
use Rattle.cutting.specs.Feeding.{fed}
use Rattle.executing.specs.Called.{machine_at}
use Rattle.powerhit.specs.Program.{Work, act, Stands}
use Rattle.powerhit.proofs.Going.{Reached}
use Rattle.powerhit.proofs.perform_lines.Given as goal

-- At the head of the loop the lines before `start` are performed, and `end` is where the next one ends.
abbrev pub invariant-loop-end : goal.invariant-loop-end
invariant-loop-end l = (length l.image ≡ length l.initial.image) × (l.start ≤ l.end) × (l.end ≡ line_end l.piece l.end)
    × ((w : Work) → Stands (machine_at l.initial.mode l.initial.words) l.initial.lines l.initial.at l.initial.image l.initial.out w
    → Reached (machine_at l.mode l.words) l.lines l.at l.image l.out l.piece l.start l.end
    (fed act (record { done = w; begun = part l.piece l.from (l.to - l.from) }) (drop l.to l.piece)))

abbrev pub decreases-loop-end : goal.decreases-loop-end
decreases-loop-end l = length l.piece - l.start
