-- A refused call changes no state and no byte: with a number but 0, every `cond` on it takes what was there before.
use Prim.Native.Nat.{ℕ}
use mathlib.Core.Bool.{Bool, cond}
use mathlib.Core.List.{List, []}
use mathlib.Core.Path.{◌≡◌, refl, ap, ap₂}
use lib.Dec.{eqb}
use borrow.Author.Tests.{ne_eqb}
use Rattle.state.specs.State.{State}
use Rattle.refinement.specs.Stores.{World}
use Rattle.refinement.specs.Outcome.{answered}
use Rattle.refinement.specs.Calls.{begin_of, begin_wide_of, abort_of, write_of, commit_of, prepare_of, confirm_of, withdraw_of, consolidate_of, free_of, checkpoint_of, event_of, load_of, read_bytes, step_of, step_bytes, run_of, run_bytes}
use Rattle.refinement.specs.Mount.{mount_call}
use Rattle.refinement.specs.Recall.{recall_bytes}
use Rattle.refinement.specs.Run.{Call, result, mount, checkpoint, free, step, begin, begin_wide, abort, commit, prepare, confirm, withdraw, consolidate, run, write, read, recall, event, load, exec}
use Rattle.refinement.specs.Refused.{Unchanged, RefusedUnchanged}

-- either of two, by a number that is not 0
kept : {A : Type 0} (row : ℕ) (x y : A) → (row ≡ 0 → ⊥) → cond (eqb row 0) x y ≡ y
kept row x y n = ap (λ (b : Bool). cond b x y) (ne_eqb row 0 n)

-- the state and the image
world : (v : World) (st : State) (img : List ℕ) → st ≡ v.st → img ≡ v.image → ◌≡◌ {A = World} (record { st = st; image = img }) v
world v st img e f = ap₂ (λ (s : State) (i : List ℕ). record { st = s; image = i }) e f

-- a call that returns a state and leaves these bytes
plain : (row n : ℕ) (after : State) (img : List ℕ) (v : World) → (row ≡ 0 → ⊥) → img ≡ v.image → Unchanged (result (answered row v.st n after) img) v []
plain row n after img v h e = record { world = world v _ _ (kept row after v.st h) e; stores = kept row n 0 h; target-kept = refl }

pub refused-unchanged : RefusedUnchanged
unfolding exec begin_of begin_wide_of abort_of write_of commit_of prepare_of confirm_of withdraw_of consolidate_of free_of checkpoint_of event_of load_of read_bytes step_of step_bytes run_of run_bytes mount_call recall_bytes
refused-unchanged (begin w) v h = plain _ _ _ _ v h refl
refused-unchanged (begin_wide w) v h = plain _ _ _ _ v h refl
refused-unchanged (abort w) v h = plain _ _ _ _ v h refl
refused-unchanged (commit w) v h = plain _ _ _ _ v h refl
refused-unchanged (prepare w) v h = plain _ _ _ _ v h refl
refused-unchanged (confirm w) v h = plain _ _ _ _ v h refl
refused-unchanged (withdraw w) v h = plain _ _ _ _ v h refl
refused-unchanged (consolidate p) v h = plain _ _ _ _ v h refl
refused-unchanged (write w p l o m bytes) v h = plain _ _ _ _ v h refl
refused-unchanged (event ms k m a) v h = plain _ _ _ _ v h refl
refused-unchanged free v h = plain _ _ _ _ v h refl
refused-unchanged checkpoint v h = plain _ _ _ _ v h refl
refused-unchanged step v h = plain _ _ _ _ v h (kept _ _ _ h)
refused-unchanged (run k) v h = plain _ _ _ _ v h (kept _ _ _ h)
refused-unchanged mount v h = record { world = world v _ _ (kept _ _ _ h) refl; stores = kept _ _ _ h; target-kept = refl }
refused-unchanged (read w p l target) v h = record { world = refl; stores = refl; target-kept = kept _ _ _ h }
refused-unchanged (recall p l target) v h = record { world = refl; stores = refl; target-kept = kept _ _ _ h }
refused-unchanged (load text) v h = record { world = refl; stores = refl; target-kept = kept _ _ _ h }
