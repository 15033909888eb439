-- The last store of a pending operation completes it.
use Prim.Native.Nat.{ℕ, ◌+◌, ◌-◌}
use mathlib.Core.List.{List}
use mathlib.Core.Logic.{inl}
use mathlib.Core.Path.{◌≡◌, sym, ap, ◌∙◌, subst}
use Rattle.state.specs.State.{State}
use Rattle.state.specs.declared.Op.{Op}
use Rattle.operations.specs.Operations.{needs}
use Rattle.refinement.specs.Stores.{World, stepped, completed, store_made}
use Rattle.refinement.specs.Calls.{world_of}
use Rattle.refinement.specs.Reference.{Reference, Task, idle, under, with_work, does, advances}
use Rattle.refinement.proofs.Invariant.{Quiet, Related}
use Rattle.refinement.proofs.Stepping.{step-ends, advance-ends}

pub step-last : (past : List ℕ) (st : State) (img : List ℕ) (b : Reference) (op : Op) (t : Task) (after : List ℕ)
    → st.pending.op ≡ op → b.work ≡ under t (needs st op - st.pending.made) → st.pending.made + 1 ≡ needs st op → store_made st img op st.pending.made ≡ after
    → Quiet past (completed st op) after (does t (with_work idle b)) → Related past (stepped (world_of st img)) (advances 1 b.work b)
step-last past st img b op t after is working last image q =
    let m : ℕ = st.pending.made in
    let world : stepped (world_of st img) ≡ world_of (completed st op) after =
    step-ends st img (subst (λ (o : Op). m + 1 ≡ needs st o) (sym is) last)
    ∙ ap (λ (o : Op). world_of (completed st o) (store_made st img o m)) is
    ∙ ap (world_of (completed st op)) image in
    subst (λ (v : World). Related past v (advances 1 b.work b)) (sym world)
    (subst (Related past (world_of (completed st op) after)) (sym (advance-ends b t (needs st op) m working last)) (inl q))
