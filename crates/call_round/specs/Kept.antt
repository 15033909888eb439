-- What row 8 and the types of words and bytes say of a world. Every call keeps it, so that a round tests row 8 once.
use Rattle.std.specs.Prelude.{ℕ, List}
use Rattle.words.specs.Words.{Bytes}
use Rattle.refinement.specs.Stores.{World}
use Rattle.refinement.specs.Calls.{world_of}
use Rattle.refinement.proofs.Sized.{Sized}
use Rattle.refinement.proofs.Called.{Good}
use Rattle.state_words.specs.Decoded.{decoded}

pub record Fine (v : World) : Type 0 where
  pub good : Good v.st
  pub bytes : Bytes v.image

-- of a state in words
abbrev pub FineAt : List ℕ → List ℕ → Type 0
FineAt words img = Fine (world_of (decoded words) img)

abbrev pub SizedAt : List ℕ → Type 0
SizedAt words = Sized (decoded words)
