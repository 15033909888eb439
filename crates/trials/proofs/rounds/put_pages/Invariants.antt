use Rattle.std.proofs.Common.{◌≡◌, ◌≤◌, length, drop}
use Rattle.trials.specs.Trials.{trial_of, put_all}
use Rattle.trials.proofs.rounds.put_pages.Given as goal

-- At the head of the loop the pages before i are written.
abbrev pub invariant-loop-page : goal.invariant-loop-page
invariant-loop-page l = (l.page-index ≤ length l.pages)
    × (length l.image ≡ length l.initial.image)
    × (put_all l.byte (drop l.page-index l.pages) (trial_of l.t l.words l.image) ≡ put_all l.byte l.pages (trial_of l.initial.t l.initial.words l.initial.image))
