-- Witnesses: a theorem whose premises nothing meets says nothing. Each premise is met by a list in which every call stands, in any world, so that an edit that
-- makes it empty is refused here. Lists in which something happens are computed in a crate of their own (`witnesses`), on the image that stands here.
use Rattle.std.specs.Prelude.{ℕ, List, [], ◌∷◌, ◌++◌, replicate}
use Rattle.layout.specs.declared.Sizes.{Sizes}
use Rattle.meters.specs.Meters.{fixed_moduli}
use Rattle.refinement.specs.Stores.{World}
use Rattle.refinement.specs.Run.{Call, mount, checkpoint, free, step, begin, begin_wide, abort, commit, prepare, confirm, withdraw, consolidate, run}
use Rattle.refinement.specs.Run.{write, read, recall, event, load, formatted_world}
use Rattle.refinement.specs.Statement.{AllLent}
use Rattle.refinement.specs.Totals.{AllSpare, AllLend, NoLoad}
use Rattle.refinement.specs.Before.{Whole, through, AllBytes}

-- one page, one slot, four journal places: 8,448 bytes, freshly formatted
abbrev pub sizes : Sizes
sizes = record { pages = 1; slots = 1; places = 4; entries = 0 }

unfoldable pub buffer : List ℕ
buffer = replicate 8448 0

unfoldable pub fresh : World
fresh = formatted_world sizes buffer

-- byte 165 by writer 0 to page 0, line 0
abbrev pub put : Call
put = write 0 0 0 0 1 (165 ∷ [])

abbrev pub zeros : List ℕ
zeros = replicate 64 0

-- ---- every call may stand in the lists: the premises ask nothing of it but bytes of a write, another page than 0, and the moduli last loaded

abbrev pub every_call : List Call
every_call =
    (mount ∷ checkpoint ∷ free ∷ step ∷ begin 0 ∷ begin_wide 0 ∷ abort 0 ∷ commit 0 ∷ prepare 0 ∷ confirm 0 ∷ withdraw 0 ∷ consolidate 0 ∷ run 1 ∷ [])
    ++ (write 0 1 0 0 1 (165 ∷ []) ∷ read 0 0 0 zeros ∷ recall 0 0 zeros ∷ event fixed_moduli 1 0 60 ∷ load [] ∷ [])

pub record EveryCall (v : World) : Type 0 where
  pub lent : AllLent every_call
  pub spared : AllSpare every_call v
  pub lends : AllLend every_call v fixed_moduli
  pub unloaded : NoLoad (event fixed_moduli 1 0 60 ∷ []) v
  pub bytes : AllBytes (through put ∷ [])
