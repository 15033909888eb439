-- Every call keeps what holds between two calls.
use mathlib.Core.List.{List}
use Prim.Native.Nat.{ℕ}
use Rattle.refinement.specs.Stores.{World}
use Rattle.refinement.specs.Run.{Call}
use Rattle.refinement.specs.Reference.{Reference}
use Rattle.refinement.specs.Statement.{Lent}
use Rattle.refinement.proofs.CallSound.{narrow-sound}
use Rattle.refinement.proofs.LoggingSound.{logging-sound}
use Rattle.refinement.proofs.CopyingSound.{copying-sound}
use Rattle.refinement.proofs.Cases.{Invariant, narrow, logging, copying}
pub use Rattle.refinement.proofs.Cases.{Kept}

pub call-sound : {past : List ℕ} (c : Call) → Lent c → (v : World) (b : Reference) → Invariant past v b → Kept past c v b
call-sound c lent v b (narrow h) = narrow-sound c lent v b h
call-sound c lent v b (logging G) = logging-sound v b G c lent
call-sound c lent v b (copying C) = copying-sound v b C c
