-- What a taken call reports as its stores (document 01, "Calls"), on any state and any bytes.
use Rattle.std.specs.Prelude.{ℕ, ◌+◌, min, ◌≡◌}
use Rattle.refinement.specs.Stores.{World, stores_made, left}
use Rattle.refinement.specs.Run.{Call, Result, mount, checkpoint, free, step, begin, begin_wide, abort, commit, prepare, confirm, withdraw}
use Rattle.refinement.specs.Run.{consolidate, run, write, read, recall, event, load, exec}

-- n stores lead from world v to world u: they are the next n of the operation that is pending, and n fewer are left of it
pub record Made (n : ℕ) (v u : World) : Type 0 where
  pub image : u.image ≡ stores_made v.st n v.image
  pub fewer : left u.st + n ≡ left v.st

-- an operation that needs n stores is asked for in world v: none is made, and all are left; with n = 0 it is complete
pub record Needs (n : ℕ) (v u : World) : Type 0 where
  pub image : u.image ≡ v.image
  pub all_left : left u.st ≡ n

-- step makes exactly one store; run makes the smaller of k and those left; a call that asks for an operation reports how many it needs; the others have none
abbrev pub Reports : Call → Result → World → Type 0
Reports step d v = (d.stores ≡ 1) × Made d.stores v d.world
Reports (run k) d v = (d.stores ≡ min k (left v.st)) × Made d.stores v d.world
Reports (write w p l o n bytes) d v = Needs d.stores v d.world
Reports (commit w) d v = Needs d.stores v d.world
Reports (prepare w) d v = Needs d.stores v d.world
Reports (confirm w) d v = Needs d.stores v d.world
Reports (consolidate p) d v = Needs d.stores v d.world
Reports free d v = Needs d.stores v d.world
Reports checkpoint d v = Needs d.stores v d.world
Reports (event ms k m a) d v = Needs d.stores v d.world
Reports mount d v = d.stores ≡ 0
Reports (begin w) d v = d.stores ≡ 0
Reports (begin_wide w) d v = d.stores ≡ 0
Reports (abort w) d v = d.stores ≡ 0
Reports (withdraw w) d v = d.stores ≡ 0
Reports (read w p l target) d v = d.stores ≡ 0
Reports (recall p l target) d v = d.stores ≡ 0
Reports (load text) d v = d.stores ≡ 0

abbrev pub StoresReported : Type 0
StoresReported = (c : Call) (v : World) → (exec c v).number ≡ 0 → Reports c (exec c v) v
