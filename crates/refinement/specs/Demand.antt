-- Demand 3 as one theorem over every list of calls, and demand 2 with it: what holds of the world that a list reaches on a freshly formatted buffer and of
-- the reference machine fed the same calls. A list may end anywhere, so each sentence holds before and after every call of every list.
use Rattle.std.specs.Prelude.{ℕ, false, List, ◌≡◌, drop}
use Rattle.layout.specs.declared.Sizes.{Sizes}
use Rattle.layout.specs.Layout.{image_length}
use Rattle.refinement.specs.Stores.{World}
use Rattle.refinement.specs.Run.{Call, mount, exec}
use Rattle.refinement.specs.Reference.{Reference, recall_line}
use Rattle.refinement.specs.Statement.{Right, Lent}
use Rattle.refinement.specs.Beside.{Always, Finds, ReadsBack, WholeOrAbsent, MakesRoom, broken}
use Rattle.refinement.specs.Refused.{Unchanged, target_of}
use Rattle.refinement.specs.Reports.{Reports}

pub record Demand (z : Sizes) (buffer : List ℕ) (v : World) (b : Reference) : Type 0 where
  -- whatever call comes next: a taken read or recall gives the reference machine's 64 bytes, a mount is taken, a recall is refused by row 11 alone
  pub right : (c : Call) → Lent c → Right c (exec c v) b
  -- and it is not turned back for a broken image, buffer or state: none is, after any list
  pub sound : (c : Call) → broken (exec c v).number ≡ false
  -- a refused one changes no state and no byte
  pub refused : (c : Call) → ((exec c v).number ≡ 0 → ⊥) → Unchanged (exec c v) v (target_of c)
  -- a taken one reports its stores: step and run those that they made, a call that asks for an operation those that it needs
  pub reports : (c : Call) → (exec c v).number ≡ 0 → Reports c (exec c v) v
  -- a commit and a confirm are whole or absent, wherever in them power fails
  pub whole : WholeOrAbsent z v b
  -- right after a checkpoint no call lacks journal space
  pub room : MakesRoom v
  -- a mount finds the reference machine's pages, and reads back the state's committed pages, committed slots and journal
  pub finds : Finds z v (recall_line b)
  pub reads-back : ReadsBack v.image v.st (exec mount v).world.st
  -- the bytes past the image are the buffer's
  pub past : drop (image_length z) v.image ≡ drop (image_length z) buffer

abbrev pub EveryDemand : Type 0
EveryDemand = Always Demand
