use mathlib.Core.Path.{◌≡◌}
use lib.ListN.{length}
use Rattle.bounded.specs.Tab.{filled}
use Rattle.words.specs.Words.{word}
use Rattle.replay.specs.Map.{page_frames}
use Rattle.names.proofs.put_words.Given as goal

-- After p turns the first p homes are set; at the end that is all of them.
abbrev pub invariant-loop-p : goal.invariant-loop-p
invariant-loop-p l = (length l.homes ≡ l.fn.z.pages) × (l.homes ≡ filled l.p (page_frames (word l.image)) l.initial.homes)
