-- A witness of `leftovers-never-show`: power goes before the commit of a write, and after the mount one word of what the write left is replaced. The premise
-- is met, and the word is another one.
use Rattle.std.specs.Prelude.{ℕ, List, [], ◌∷◌, ◌≡◌}
use Rattle.layout.specs.Layout.{line_word}
use Rattle.words.specs.Words.{word, store}
use Rattle.refinement.specs.Stores.{World}
use Rattle.refinement.specs.Calls.{world_of}
use Rattle.refinement.specs.Run.{Call, mount, begin, run, exec, after}
use Rattle.refinement.specs.Witness.{sizes, fresh, put}
use Rattle.leftovers.specs.Leftovers.{Leftover, Replaced, Unseen}

-- byte 165 is written to frame 1 and not committed
abbrev pub dropped : List Call
dropped = begin 0 ∷ put ∷ run 8 ∷ []

unfoldable pub mounted : World
mounted = (exec mount (after dropped fresh)).world

-- the first word of line 0 there, and the image with 7 in it
abbrev pub place : ℕ
place = line_word sizes 1 0

abbrev pub other : List ℕ
other = store mounted.image place 7

pub record LeftoverReplaced : Type 0 where
  pub was : word mounted.image place ≡ 165
  pub leftover : Leftover mounted place
  pub replaced : Replaced mounted other
  pub is : word other place ≡ 7
  pub unseen : Unseen mounted (world_of mounted.st other)
