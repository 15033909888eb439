-- That `AnyOrder` says something, by an example on the image P = 2, S = 1, J = 2: a cut that leaves an image which no stores in order leave, what a mount
-- finds of it, and what it would find without the fence before head.
use Rattle.std.specs.Prelude.{ℕ, List, [], ◌∷◌, ◌++◌, map, ◌≡◌, replicate}
use Rattle.layout.specs.Layout.{head_word}
use Rattle.words.specs.Words.{store}
use Rattle.refinement.specs.Run.{commit, run, after}
use Rattle.cases.specs.Cases.{small, fresh, to_commit, words, mounts}
use Rattle.any_order.specs.AnyOrder.{Machine, Torn, Act, call, fence, AllMay, acted_by, formatted_machine}

-- byte 165 is written to page 0, and all of that is in the memory; of the commit's five stores the four of the record are made, words 13 to 16. Head comes next
abbrev pub acts : List Act
acts = map call to_commit ++ (fence ∷ call (commit 0) ∷ call (run 4) ∷ [])

abbrev pub start : Machine
start = formatted_machine small (replicate 12480 0)

-- power goes, and of the four stores the last is in the memory alone: the record has its bitmap and lacks its frames
unfoldable pub last_alone : List ℕ
last_alone = store (after to_commit fresh).image 16 1

-- the record's four words, and the number of a mount
unfoldable pub shown : List ℕ → List ℕ
shown image = words image (13 ∷ 14 ∷ 15 ∷ 16 ∷ []) ++ (mounts image ∷ [])

pub record Witness : Type 0 where
  pub may : AllMay acts start
  pub torn : Torn (acted_by acts start) last_alone
  -- in order the record is whole; here it is not; both mount, and by `AnyOrder` to the same state
  pub in_order : shown (acted_by acts start).world.image ≡ 0 ∷ 0 ∷ 8589934592 ∷ 1 ∷ 0 ∷ []
  pub alone : shown last_alone ≡ 0 ∷ 0 ∷ 0 ∷ 1 ∷ 0 ∷ []
  -- without the fence before it, head could be in the memory with this record: mount answers 6, a live record breaks a rule
  pub unfenced : shown (store last_alone head_word 1) ≡ 0 ∷ 0 ∷ 0 ∷ 1 ∷ 6 ∷ []
