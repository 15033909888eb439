-- A call and its stores, as the code keeps them: the state in words and the image in bytes, both lent.
use Rattle.std.specs.Prelude.{ℕ, Bool, List, [], ◌∷◌, ◌++◌, ◌≡◌}
use Rattle.refinement.specs.Stores.{World}
use Rattle.refinement.specs.Calls.{world_of}
use Rattle.refinement.specs.Run.{Call, result, exec}
use Rattle.answers.specs.Answers.{Answer}
use Rattle.answers.specs.Answers.{answered_at}
use Rattle.state_words.specs.Decoded.{decoded}
use Rattle.sequence_runs.specs.declared.turns.Made.{Made}
use Rattle.sequence_runs.specs.Calls.{call_of}
use Rattle.sequence_runs.specs.Runs.{Ran, one_more}

-- the state that the words are, and the image
abbrev pub world_in : List ℕ → List ℕ → World
world_in words img = world_of (decoded words) img

-- of a call on these words and this image came the answer, and words and image after it
abbrev pub CameOf : Call → List ℕ → List ℕ → Answer → List ℕ → List ℕ → Type 0
CameOf c words img a words' img' = result (answered_at a (decoded words')) img' ≡ exec c (world_in words img)

-- no call made yet, on these words and this image
abbrev pub begun : List ℕ → List ℕ → Ran
begun words img = record { answers = []; needed = 0; world = world_in words img }

-- t, words' and img' are what one call more comes to, whatever was before
pub record Turned (last : Bool) (k c : ℕ) (words img : List ℕ) (t : Made) (words' img' : List ℕ) : Type 0 where
  pub more : (answers : List ℕ) (needed : ℕ)
      → one_more last k (call_of c) (record { answers = answers; needed = needed; world = world_in words img })
      ≡ record { answers = answers ++ (t.number ∷ []); needed = t.needed; world = world_in words' img' }
