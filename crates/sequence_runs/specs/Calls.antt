-- The twelve calls of request L9 by their numbers.
use Rattle.std.specs.Prelude.{ℕ, ◌+◌, List, [], ◌∷◌, get_or}
use Rattle.refinement.specs.Run.{Call, checkpoint, begin, abort, commit, consolidate, write}

-- a write by writer w to line l of page 0: its byte 0 becomes w + 1
abbrev pub marks : ℕ → ℕ → Call
marks w l = write w 0 l 0 1 ((w + 1) ∷ [])

-- numbered from 1
abbrev pub twelve : List Call
twelve =
    begin 0 ∷ begin 1
    ∷ marks 0 0 ∷ marks 0 1 ∷ marks 1 0 ∷ marks 1 1
    ∷ commit 0 ∷ commit 1
    ∷ abort 0 ∷ abort 1
    ∷ consolidate 0
    ∷ checkpoint
    ∷ []

-- the call of a number (no sequence has others than 1 to 12)
abbrev pub call_of : ℕ → Call
call_of c = get_or (checkpoint ∷ twelve) c checkpoint
