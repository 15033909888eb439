use mathlib.Core.Path.{◌≡◌}
use lib.ListN.{length, replicate}
use Rattle.words.specs.Words.{put_words}
use Rattle.runs.proofs.fill_words.Given as goal

-- After i turns the first i words are put.
abbrev pub invariant-loop-i : goal.invariant-loop-i
invariant-loop-i l = (length l.s ≡ length l.initial.s) × (l.s ≡ put_words l.initial.s l.at (replicate l.i l.v))
