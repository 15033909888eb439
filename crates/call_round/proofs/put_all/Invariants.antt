use Rattle.std.proofs.Common.{◌≡◌, ◌*◌, ◌≤◌, length, drop}
use Rattle.call_round.specs.Kept.{FineAt}
use Rattle.call_round.specs.Round.{played_of, put_all}
use Rattle.call_round.proofs.put_all.Given as goal

-- At the head of the loop the writes before write k are taken, and their bytes stand before byte `at`.
abbrev pub invariant-loop-k : goal.invariant-loop-k
invariant-loop-k l = (l.at ≤ length l.data)
    × (length l.image ≡ length l.initial.image)
    × (l.t.call ≤ l.k)
    × FineAt l.words l.image
    × (put_all l.room l.writer (drop (4 * l.k) l.writes) (drop l.at l.data) (played_of l.t l.words l.image) ≡ put_all l.room l.writer l.writes l.data (played_of l.initial.t l.initial.words l.initial.image))
