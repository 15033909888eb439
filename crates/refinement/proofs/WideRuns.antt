-- One store, and many, of whatever is pending while a wide transaction is open or copied.
use Prim.Native.Nat.{ℕ, zero, suc, ◌-◌, ◌<◌, ◌≤◌, min}
use mathlib.Core.Bool.{false}
use mathlib.Core.List.{List}
use mathlib.Core.Logic.{◌⊎◌, ⊎_elim}
use mathlib.Core.Path.{◌≡◌, refl, sym, ap, ◌∙◌, subst}
use native.Mathlib.Omega.{arith}
use Rattle.bounded.proofs.Tests.{contradicts}
use Rattle.state.specs.State.{State}
use Rattle.state.specs.declared.Pending.{Pending}
use Rattle.state.specs.declared.Op.{Op}
use Rattle.state.specs.declared.Op.TheVariants.{Copy}
use Rattle.operations.specs.Operations.{is_idle, needs}
use Rattle.refinement.specs.Stores.{World, stepped, stepped_by, left}
use Rattle.refinement.specs.Reference.{Reference, Task, Work, idle, under, copying, nothing, committing, with_work, does, continues, copies, advances}
use Rattle.refinement.proofs.Steps.{run_none, run_step, run-kept}
use Rattle.refinement.proofs.Invariant.{Quiet}
use Rattle.refinement.proofs.StepCall.{continues-work, work-same}
use Rattle.refinement.proofs.Copying.{Copying}
use Rattle.refinement.proofs.StepCopy.{step-copy}
use Rattle.refinement.proofs.CopyBegins.{step-first}
use Rattle.refinement.proofs.Logging.{Stage, settled, writes, asked, beside, Logging}
use Rattle.refinement.proofs.StepLog.{step-log}
use Rattle.refinement.proofs.StepBeside.{step-beside, beside-work}

-- ---- the reference machine: n stores more are n and one

-- so many stores are left of what is under way; of a copying that a mount returned it has nothing under way
abbrev pub WorkLeft : Work → ℕ → Type 0
WorkLeft idle j = Unit
WorkLeft (under t m) j = m ≡ j
WorkLeft (copying w m) j = m ≡ j

-- one after n of m
under_more : (t : Task) (m n : ℕ) (b : Reference) → n < m → advances 1 (continues t (m - n) b).work (continues t (m - n) b) ≡ continues t (m - suc n) b
under_more t m n b l =
    let r : ℕ = m - suc n in
    let e : m - n ≡ suc r = omega arith in
    let f : suc r - min 1 (suc r) ≡ r = omega arith in
    ap (λ (i : ℕ). advances 1 (continues t i b).work (continues t i b)) e ∙ ap (λ (i : ℕ). continues t i (with_work (under t (suc r)) b)) f ∙ continues-work t r (under t (suc r)) b

advance-none : (k : Work) (b : Reference) → b.work ≡ k → (j : ℕ) → 0 < j → WorkLeft k j → advances 0 k b ≡ b
advance-none idle b e j l h = refl
advance-none (under t m) b e j l h =
    let f : m - min 0 m ≡ suc (m - 1) = omega arith in
    let g : suc (m - 1) ≡ m = omega arith in
    ap (λ (i : ℕ). continues t i b) f ∙ ap (λ (i : ℕ). with_work (under t i) b) g ∙ work-same b (under t m) e
advance-none (copying w m) b e j l h = let f : min 0 m ≡ 0 = omega arith in ap (λ (i : ℕ). copies w m i b) f

advance-more : (k : Work) (b : Reference) → b.work ≡ k → (n j : ℕ) → n < j → WorkLeft k j → advances (suc n) k b ≡ advances 1 (advances n k b).work (advances n k b)
advance-more idle b e n j l h = sym (ap (λ (x : Work). advances 1 x b) e)
advance-more (under t m) b e n j l h =
    let f : m - min n m ≡ m - n = omega arith in
    let g : m - min (suc n) m ≡ m - suc n = omega arith in
    ap (λ (i : ℕ). continues t i b) g
    ∙ sym (ap (λ (i : ℕ). advances 1 (continues t i b).work (continues t i b)) f ∙ under_more t m n b (omega arith))
advance-more (copying w m) b e zero j l h =
    let f : min 0 m ≡ 0 = omega arith in
    sym (ap (λ (i : ℕ). advances 1 (copies w m i b).work (copies w m i b)) f ∙ ap (λ (x : Work). advances 1 x b) e)
advance-more (copying w m) b e (suc n) j l h =
    let c : Reference = does (committing w) b in
    let f : min (suc n) m ≡ suc n = omega arith in
    let g : min (suc (suc n)) m ≡ suc (suc n) = omega arith in
    ap (λ (i : ℕ). copies w m i b) g
    ∙ sym (ap (λ (i : ℕ). advances 1 (copies w m i b).work (copies w m i b)) f ∙ under_more nothing m (suc n) c (omega arith))

-- ---- what goes on

pub data Wider (past : List ℕ) (v : World) (b : Reference) : Type 0 where
  logged : Logging past v.st v.image b → Wider past v b
  copied : Copying past v.st v.image b → Wider past v b
  done : Quiet past v.st v.image b → Wider past v b

module _ {past : List ℕ} (v : World) (b : Reference) where
  stage-one : (G : Logging past v.st v.image b) → Stage past v.st v.image b → is_idle v.st.pending.op ≡ false → Wider past (stepped v) (advances 1 b.work b)
  stage-one G (settled e w) i = contradicts (ap (λ (x : Pending). is_idle x.op) e) i
  stage-one G (writes p l o n e L) i = logged (step-log v.st v.image b G p l o n e L)
  stage-one G (asked e m w) i = copied (step-first v.st v.image b G e m w)
  stage-one G (beside s B) i = logged (step-beside v.st v.image b G v.st.pending.op refl s B)

  pub one-wider : Wider past v b → is_idle v.st.pending.op ≡ false → Wider past (stepped v) (advances 1 b.work b)
  one-wider (logged G) i = stage-one G G.stage i
  one-wider (copied C) i = ⊎_elim copied done (step-copy past v.st v.image b C)
  one-wider (done q) i = contradicts (ap (λ (x : Pending). is_idle x.op) q.pending) i

  stage-left : Stage past v.st v.image b → is_idle v.st.pending.op ≡ false → WorkLeft b.work (left v.st)
  unfolding needs
  stage-left (settled e w) i = contradicts (ap (λ (x : Pending). is_idle x.op) e) i
  stage-left (writes p l o n e L) i = subst (λ (k : Work). WorkLeft k (left v.st)) (sym L.work) (ap (λ (q : Op). needs v.st q - v.st.pending.made) (sym e))
  stage-left (asked e m w) i =
      subst (λ (k : Work). WorkLeft k (left v.st)) (sym w) (let f : needs v.st Copy ≡ needs v.st Copy - v.st.pending.made = omega arith in f ∙ ap (λ (q : Op). needs v.st q - v.st.pending.made) (sym e))
  stage-left (beside s B) i = subst (λ (k : Work). WorkLeft k (left v.st)) (sym (beside-work v.st v.image b v.st.pending.op refl s B)) refl

  pub wider_left : Wider past v b → is_idle v.st.pending.op ≡ false → WorkLeft b.work (left v.st)
  wider_left (logged G) i = stage-left G.stage i
  wider_left (copied C) i =
      ⊎_elim
      (λ e. subst (λ (k : Work). WorkLeft k (left v.st)) (sym e) tt)
      (λ e. subst (λ (k : Work). WorkLeft k (left v.st)) (sym e) (ap (λ (q : Op). needs v.st q - v.st.pending.made) (sym C.op)))
      C.work
  wider_left (done q) i = contradicts (ap (λ (x : Pending). is_idle x.op) q.pending) i

-- n of the stores that are left
module _ {past : List ℕ} (v : World) (b : Reference) where
  pub many-wider : Wider past v b → is_idle v.st.pending.op ≡ false → 0 < left v.st → (n : ℕ) → n ≤ left v.st → Wider past (stepped_by n v) (advances n b.work b)
  many-wider h i some zero l =
      subst (λ (u : World). Wider past u (advances 0 b.work b)) (sym (run_none v)) (subst (Wider past v) (sym (advance-none b.work b refl (left v.st) some (wider_left v b h i))) h)
  many-wider h i some (suc n) l =
      let u : World = stepped_by n v in
      let m : n < left v.st = omega arith in
      let e = advance-more b.work b refl n (left v.st) m (wider_left v b h i) in
      let j : is_idle u.st.pending.op ≡ false = ap (λ (s : State). is_idle s.pending.op) (run-kept n v m) ∙ i in
      subst (λ (x : World). Wider past x (advances (suc n) b.work b)) (sym (run_step n v))
      (subst (Wider past (stepped u)) (sym e) (one-wider u (advances n b.work b) (many-wider h i some n (omega arith)) j))

-- no more than are left
pub advance-min : (k : Work) (b : Reference) (n j : ℕ) → WorkLeft k j → advances n k b ≡ advances (min n j) k b
advance-min idle b n j h = refl
advance-min (under t m) b n j h = let f : m - min n m ≡ m - min (min n j) m = omega arith in ap (λ (i : ℕ). continues t i b) f
advance-min (copying w m) b n j h = let f : min n m ≡ min (min n j) m = omega arith in ap (λ (i : ℕ). copies w m i b) f
