-- The bytes that a line prints are those of the reference machine (document 01, "the book") that is fed the same calls.
use Rattle.std.specs.Prelude.{ℕ, ◌<◌, List, [], ◌∷◌, ◌≡◌, eqb, length}
use Rattle.refinement.specs.Stores.{World}
use Rattle.refinement.specs.Run.{Call, run, exec}
use Rattle.refinement.specs.Reference.{Reference, blank}
use Rattle.refinement.specs.Beside.{follows}
use Rattle.sequence_runs.specs.Calls.{call_of}
use Rattle.sequence_runs.specs.Runs.{fresh_world, start, budget, ran, first_byte}

-- the calls that are made from a world on: each of the sequence, and a run of its stores
unfoldable pub made : ℕ → List ℕ → World → List Call
made k [] v = []
made k (c ∷ cs) v =
    let d = exec (call_of c) v in
    let r = run (budget (eqb (length cs) 0) k d.stores) in
    call_of c ∷ r ∷ made k cs (exec r d.world).world

abbrev pub fed : ℕ → List ℕ → Reference
fed k calls = follows (made k calls fresh_world) fresh_world blank

-- of every sequence, at every cut
abbrev pub BytesShown : Type 0
BytesShown = (k : ℕ) (calls : List ℕ) (l : ℕ) → l < 64 → first_byte (ran k calls start).world l ≡ (fed k calls).pages 0 l 0
