-- A round is no new behaviour: the world that it leaves is the one after a list of calls, so that whatever holds of all lists (demand 3) holds of it.
use Rattle.std.specs.Prelude.{◌≡◌, ℕ, List}
use Rattle.refinement.specs.Stores.{World}
use Rattle.refinement.specs.Run.{Call, after}
use Rattle.call_round.specs.declared.Room.{Room}
use Rattle.call_round.specs.Round.{round_of}

pub record Listed (v u : World) : Type 0 where
  pub calls : List Call
  pub come-to : after calls v ≡ u

abbrev pub InLists : Type 0
InLists = (r : Room) (w : ℕ) (writes bytes : List ℕ) (v : World) → Listed v (round_of r w writes bytes v).world
