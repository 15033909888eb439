-- What holds between two calls: no wide transaction, one that is open, or one that is copied to its pages.
use Prim.Native.Nat.{ℕ}
use mathlib.Core.List.{List}
use mathlib.Core.Path.{◌≡◌}
use Rattle.refinement.specs.Stores.{World}
use Rattle.refinement.specs.Run.{Call, exec}
use Rattle.refinement.specs.Reference.{Reference, turn}
use Rattle.refinement.specs.Statement.{Right}
use Rattle.refinement.proofs.Next.{Next}
use Rattle.refinement.proofs.Between.{Between, Sounds}
use Rattle.refinement.proofs.Copying.{Copying}
use Rattle.refinement.proofs.Logging.{Logging}
use Rattle.refinement.proofs.Standing.{Standing, between-standing}
use Rattle.refinement.proofs.LoggingStanding.{logging-standing}
use Rattle.refinement.proofs.CopyingStanding.{copying-standing}

pub data Invariant (past : List ℕ) (v : World) (b : Reference) : Type 0 where
  narrow : Between past v b → Invariant past v b
  logging : Logging past v.st v.image b → Invariant past v b
  copying : Copying past v.st v.image b → Invariant past v b

pub standing-of : {past : List ℕ} (v : World) (b : Reference) → Invariant past v b → Standing past v b
standing-of v b (narrow h) = between-standing v b h
standing-of v b (logging G) = logging-standing v b G
standing-of v b (copying C) = copying-standing v b C

-- what every call's proof has to show: the answer is right, the sizes stay, and what holds between two calls holds again
pub record Kept (past : List ℕ) (c : Call) (v : World) (b : Reference) : Type 0 where
  pub right : Right c (exec c v) b
  pub sizes : (exec c v).world.st.sizes ≡ v.st.sizes
  pub related : Invariant past (exec c v).world (turn c (exec c v).number (exec c v).stores b)

-- where it is shown without a wide transaction
pub kept : {past : List ℕ} {c : Call} (v : World) (b : Reference) → Sounds past c v b → Kept past c v b
kept v b s = record { right = s.right; sizes = s.sizes; related = narrow s.between }

-- a world after a call
abbrev pub Then : List ℕ → World → World → Reference → Type 0
Then past v u b = Next (Invariant past) v u b
