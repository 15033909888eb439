use mathlib.Core.Path.{◌≡◌}
use lib.ListN.{length}
use Rattle.words.specs.Words.{words_at, put_words}
use Rattle.runs.proofs.copy_words.Given as goal

-- After i turns the first i words are put; all of them are the bytes of the part.
abbrev pub invariant-loop-i : goal.invariant-loop-i
invariant-loop-i l = (length l.dst ≡ length l.initial.dst) × (l.dst ≡ put_words l.initial.dst l.to (words_at l.src l.from l.i))
