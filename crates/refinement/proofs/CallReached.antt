-- Calls keep bytes bytes, so every state that a list of calls reaches from a valid one is valid.
use Prim.Native.Nat.{ℕ, min}
use mathlib.Core.List.{List, [], ◌∷◌}
use lib.Dec.{eqb}
use Rattle.bounded.proofs.Below.{up-keeps}
use Rattle.bounded.proofs.Tests.{row_keeps}
use Rattle.words.specs.Words.{Bytes}
use Rattle.words.proofs.WordLaws.{bytes-store}
use Rattle.state.specs.State.{State}
use Rattle.refinement.specs.Stores.{World, store_at, store_value, stepped, stepped_by, left}
use Rattle.refinement.specs.Calls.{step_row, world_of, step_bytes, run_bytes}
use Rattle.refinement.specs.Run.{Call, mount, checkpoint, free, step, begin, begin_wide, abort, commit, prepare, confirm, withdraw, consolidate, run, write, read, recall, exec, after, event, load}
use Rattle.refinement.proofs.Called.{Good, call-good}

step-image : (v : World) → Bytes v.image → Bytes (stepped v).image
unfolding stepped
step-image v b =
    let op = v.st.pending.op in
    let m = v.st.pending.made in
    bytes-store v.image (store_at v.st op m) (store_value v.st v.image op m) b

steps-image : (n : ℕ) (v : World) → Bytes v.image → Bytes (stepped_by n v).image
unfolding stepped_by
steps-image n v b = up-keeps (λ (u : World). Bytes u.image) (λ i u. stepped u) n v (λ i u l k. step-image u k) b

module _ (st : State) (img : List ℕ) (b : Bytes img) where
  step-bytes : Bytes (step_bytes st img)
  unfolding step_bytes
  step-bytes = row_keeps Bytes (eqb (step_row st img) 0) (stepped (world_of st img)).image img (step-image (world_of st img) b) b

  run-bytes : (k : ℕ) → Bytes (run_bytes st img k)
  unfolding run_bytes
  run-bytes k =
      row_keeps Bytes (eqb (step_row st img) 0) (stepped_by (min k (left st)) (world_of st img)).image img (steps-image (min k (left st)) (world_of st img) b) b

pub call-bytes : (c : Call) (v : World) → Bytes v.image → Bytes (exec c v).world.image
unfolding exec
call-bytes mount v b = b
call-bytes checkpoint v b = b
call-bytes free v b = b
call-bytes step v b = step-bytes v.st v.image b
call-bytes (begin w) v b = b
call-bytes (begin_wide w) v b = b
call-bytes (abort w) v b = b
call-bytes (commit w) v b = b
call-bytes (prepare w) v b = b
call-bytes (confirm w) v b = b
call-bytes (withdraw w) v b = b
call-bytes (consolidate p) v b = b
call-bytes (run k) v b = run-bytes v.st v.image b k
call-bytes (write w p l o n bytes) v b = b
call-bytes (read w p l target) v b = b
call-bytes (recall p l target) v b = b
call-bytes (event ms k m a) v b = b
call-bytes (load text) v b = b
