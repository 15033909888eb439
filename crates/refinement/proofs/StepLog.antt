-- One store of a wide write.
use Prim.Native.Nat.{ℕ, ◌+◌, ◌-◌, ◌<◌}
use mathlib.Core.List.{List}
use mathlib.Core.Path.{◌≡◌, sym, ap, ◌∙◌, subst}
use native.Mathlib.Omega.{arith}
use lib.Dec.{ltb}
use borrow.Author.Tests.{ltb-true, ltb-false}
use Rattle.bounded.proofs.Tests.{case_on}
use Rattle.state.specs.State.{State}
use Rattle.state.specs.declared.Op.{Op}
use Rattle.state.specs.declared.Op.TheVariants.{Log}
use Rattle.operations.specs.Operations.{needs}
use Rattle.refinement.specs.Stores.{World, completed, with_made, stepped, store_made}
use Rattle.refinement.specs.Calls.{world_of}
use Rattle.refinement.specs.Reference.{Reference, Task, writing, advances}
use Rattle.refinement.proofs.Stepping.{step-on, step-ends, advance-on, advance-ends}
use Rattle.refinement.proofs.Logging.{Logs, Logging}
use Rattle.refinement.proofs.LogMid.{made-low, logged-one}
use Rattle.refinement.proofs.LogEnds.{logged-all}

pub step-log : {past : List ℕ} (st : State) (img : List ℕ) (b : Reference) → Logging past st img b → (p l o n : ℕ) → st.pending.op ≡ Log p l o n → Logs st img b p l o n
    → Logging past (stepped (world_of st img)).st (stepped (world_of st img)).image (advances 1 b.work b)
unfolding needs
step-log {past = past} st img b G p l o n op L =
    let m : ℕ = st.pending.made in
    let t : Task = writing st.wide.writer p l o n L.given in
    let low = made-low st img b G p l o n op L in
    case_on (ltb (m + 1) 9)
    (λ h.
    let more : m + 1 < 9 = ltb-true (m + 1) 9 h in
    let world = step-on st img (subst (λ (q : Op). m + 1 < needs st q) (sym op) more) ∙ ap (λ (q : Op). world_of (with_made st (m + 1)) (store_made st img q m)) op in
    subst (λ (v : World). Logging past v.st v.image (advances 1 b.work b)) (sym world)
    (subst (Logging past (with_made st (m + 1)) (store_made st img (Log p l o n) m)) (sym (advance-on b t 9 m L.work more)) (logged-one st img b G p l o n op L more)))
    (λ h.
    let last : m + 1 ≡ 9 = omega (arith, ltb-false (m + 1) 9 h) in
    let world = step-ends st img (subst (λ (q : Op). m + 1 ≡ needs st q) (sym op) last) ∙ ap (λ (q : Op). world_of (completed st q) (store_made st img q m)) op in
    subst (λ (v : World). Logging past v.st v.image (advances 1 b.work b)) (sym world)
    (subst (Logging past (completed st (Log p l o n)) (store_made st img (Log p l o n) m)) (sym (advance-ends b t 9 m L.work last)) (logged-all st img b G p l o n op L last)))
