-- What is answered, by its row: with row 0 the taken call's, with any other none. R is what holds between two calls.
use Prim.Native.Nat.{ℕ, zero, suc, ◌<◌}
use mathlib.Core.Bool.{cond}
use mathlib.Core.List.{List}
use mathlib.Core.Path.{◌≡◌, refl}
use native.Mathlib.Omega.{arith}
use lib.Dec.{eqb, eqb-suc-zero}
use Rattle.state.specs.State.{State}
use Rattle.state.specs.declared.Op.{Op}
use Rattle.operations.specs.Operations.{needs}
use Rattle.refinement.specs.Outcome.{answered}
use Rattle.refinement.specs.Stores.{World, completed}
use Rattle.refinement.specs.Calls.{with_pending, world_of, asked}
use Rattle.refinement.specs.Run.{Call}
use Rattle.refinement.specs.Reference.{Reference, Task, under, with_work, does, starts, taken, turn}

-- a world after a call: its sizes stay, and R holds
pub record Next (R : World → Reference → Type 0) (v u : World) (b : Reference) : Type 0 where
  pub sizes : u.st.sizes ≡ v.st.sizes
  pub related : R u b

module _ (R : World → Reference → Type 0) (c : Call) (v : World) (b : Reference) where
  pub answered-next : (row n : ℕ) (after : State) (img : List ℕ) → R v b → (row ≡ 0 → Next R v (world_of after img) (taken c n b))
      → Next R v (world_of (answered row v.st n after).state (cond (eqb row 0) img v.image)) (turn c row (answered row v.st n after).stores b)
  answered-next zero n after img h f = f refl
  answered-next (suc k) n after img h f = rw (eqb-suc-zero k) (record { sizes = refl; related = h })

  -- of a call that leaves the image alone
  pub answered-still : (row n : ℕ) (after : State) → R v b → (row ≡ 0 → Next R v (world_of after v.image) (taken c n b))
      → Next R v (world_of (answered row v.st n after).state v.image) (turn c row (answered row v.st n after).stores b)
  answered-still zero n after h f = f refl
  answered-still (suc k) n after h f = rw (eqb-suc-zero k) (record { sizes = refl; related = h })

  -- of one that asks for an operation: refused, complete where no store is needed, or pending
  module _ (op : Op) (line : List ℕ) (t : Task) where
    by-needs : (n : ℕ) → needs v.st op ≡ n → (needs v.st op ≡ 0 → Next R v (world_of (completed v.st op) v.image) (does t b))
        → (0 < needs v.st op → Next R v (world_of (with_pending v.st op line) v.image) (with_work (under t (needs v.st op)) b))
        → Next R v (world_of (cond (eqb (needs v.st op) 0) (completed v.st op) (with_pending v.st op line)) v.image) (starts t (needs v.st op) b)
    by-needs zero q now later = let d = now q in rw q d
    by-needs (suc k) q now later =
        let d : Next R v (world_of (with_pending v.st op line) v.image) (with_work (under t (needs v.st op)) b) = later (omega (arith, q)) in
        rw (q, eqb-suc-zero k) (rw q at d)

    pub asked-next : (row : ℕ) → (row ≡ 0 → (n : ℕ) → taken c n b ≡ starts t n b) → R v b
        → (row ≡ 0 → needs v.st op ≡ 0 → Next R v (world_of (completed v.st op) v.image) (does t b))
        → (row ≡ 0 → 0 < needs v.st op → Next R v (world_of (with_pending v.st op line) v.image) (with_work (under t (needs v.st op)) b))
        → Next R v (world_of (asked row v.st op line).state v.image) (turn c row (asked row v.st op line).stores b)
    asked-next zero e h now later = let n : ℕ = needs v.st op in rw (e refl n) (by-needs n refl (now refl) (later refl))
    asked-next (suc k) e h now later = rw (eqb-suc-zero k) (record { sizes = refl; related = h })
