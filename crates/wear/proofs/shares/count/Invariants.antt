use Rattle.std.proofs.Common.{◌≡◌, ◌+◌, ◌%◌, ◌^◌, ◌≤◌, length, get_or}
use Rattle.bounded.specs.Below.{count_below}
use Rattle.bounded.specs.Tab.{filled}
use Rattle.wear.specs.Shares.{wear_at}
use Rattle.wear.proofs.shares.count.Given as goal

abbrev pub invariant-loop-k : goal.invariant-loop-k
invariant-loop-k l = let k = l.k in (k ≤ 22) × (length l.counts ≡ length l.initial.counts)
    × (l.counts ≡ filled k (λ k. (get_or l.initial.counts k 0 + count_below l.n (λ i. wear_at l.e l.written i k)) % 2 ^ 64) l.initial.counts)
