-- One store of a wide commit past its first: until the last it goes on, with the last nothing is pending.
use Prim.Native.Nat.{ℕ, ◌+◌, ◌-◌, ◌*◌, ◌/◌, ◌%◌, ◌<◌}
use mathlib.Core.List.{List}
use mathlib.Core.Logic.{◌⊎◌, inl, inr, ⊎_elim}
use mathlib.Core.Path.{◌≡◌, refl, sym, ap, ap₂, ◌∙◌, subst}
use native.Mathlib.Omega.{arith}
use lib.Dec.{ltb, eqb}
use borrow.Author.Tests.{ltb-true, ltb-false, eqb-false}
use Rattle.bounded.proofs.Tests.{case_on}
use Rattle.layout.specs.Layout.{count_word, entry_word}
use Rattle.words.specs.Words.{word, store}
use Rattle.entries.specs.Entries.{key_page, key_line}
use Rattle.state.specs.State.{State}
use Rattle.state.specs.declared.Op.{Op}
use Rattle.state.specs.declared.Op.TheVariants.{Copy}
use Rattle.operations.specs.Operations.{needs}
use Rattle.refinement.specs.Stores.{World, completed, with_made, stepped, store_made}
use Rattle.refinement.specs.Calls.{world_of}
use Rattle.refinement.specs.Reference.{Reference, Work, with_work, idle, under, nothing, advances}
use Rattle.refinement.proofs.Pending.{pends}
use Rattle.refinement.proofs.Invariant.{Quiet}
use Rattle.refinement.proofs.Stepping.{step-on, step-ends, advance-on, advance-ends}
use Rattle.refinement.proofs.StepCall.{work-same}
use Rattle.refinement.proofs.CopyPlaces.{at-line, value_line, at_last, value-last}
use Rattle.refinement.proofs.Copying.{copy_word, key_at, Copying}
use Rattle.refinement.proofs.CopyMid.{copied-one}
use Rattle.refinement.proofs.CopyEnds.{copied_all}

-- a wide commit of n lines needs 8 n + 2 stores, none where n is 0
pub copy_needs : (st : State) → 0 < needs st Copy → (0 < st.wide.count) × (needs st Copy ≡ 8 * st.wide.count + 2)
unfolding needs
copy_needs st l =
    case_on (eqb st.wide.count 0)
    (λ t. absurd (omega (arith, rw t at l)))
    (λ t.
    let n : st.wide.count ≡ 0 → ⊥ = eqb-false st.wide.count 0 t in
    (omega arith, rw t))

module _ (past : List ℕ) (st : State) (img : List ℕ) (b : Reference) (C : Copying past st img b) where
  abbrev m : ℕ
  m = st.pending.made

  low : m < needs st Copy
  low = (pends st Copy C.valid C.op refl).made-low

  pub counts : (0 < st.wide.count) × (needs st Copy ≡ 8 * st.wide.count + 2)
  counts = copy_needs st (omega (arith, low))

  -- what the reference machine has left
  book-on : m + 1 < needs st Copy → (w : Work) × (advances 1 b.work b ≡ with_work w b) × ((w ≡ idle) ⊎ (w ≡ under nothing (needs st Copy - (m + 1))))
  book-on l =
      ⊎_elim
      (λ e. (idle, ap (λ (k : Work). advances 1 k b) e ∙ sym (work-same b idle e), inl refl))
      (λ e. (under nothing (needs st Copy - (m + 1)), advance-on b nothing (needs st Copy) m e l, inr refl))
      C.work

  book-ends : m + 1 ≡ needs st Copy → advances 1 b.work b ≡ with_work idle b
  book-ends l =
      ⊎_elim
      (λ e. ap (λ (k : Work). advances 1 k b) e ∙ sym (work-same b idle e))
      (λ e. advance-ends b nothing (needs st Copy) m e l)
      C.work

  -- until the last
  step-goes : m + 1 < needs st Copy → Copying past (stepped (world_of st img)).st (stepped (world_of st img)).image (advances 1 b.work b)
  step-goes l =
      let e : ℕ = (m - 1) / 8 in
      let k : ℕ = (m - 1) % 8 in
      let one = C.begun in
      let made : 1 + (8 * e + k) ≡ m = omega arith in
      let le : e < st.wide.count = omega (arith, counts.1) in
      let lk : k < 8 = omega arith in
      let x = book-on l in
      let world =
      step-on st img (subst (λ (o : Op). m + 1 < needs st o) (sym C.op) l)
      ∙ ap (λ (o : Op). world_of (with_made st (m + 1)) (store_made st img o m)) C.op
      ∙ ap (world_of (with_made st (m + 1)))
      (ap (store_made st img Copy) (sym made) ∙ ap₂ (store img) (at-line st img C.valid C.durable e k le lk) (value_line st img e k le lk)) in
      subst (λ (v : World). Copying past v.st v.image (advances 1 b.work b)) (sym world)
      (subst (Copying past (with_made st (m + 1)) (store img (copy_word st img (key_page (key_at st e)) (key_line (key_at st e)) k) (word img (entry_word st.sizes e + 1 + k)))) (sym x.1)
      (copied-one past st img b C e k le lk made l x.0 x.2))

  step-last : m + 1 ≡ needs st Copy → Quiet past (stepped (world_of st img)).st (stepped (world_of st img)).image (advances 1 b.work b)
  step-last l =
      let n : ℕ = st.wide.count in
      let all : m ≡ 8 * n + 1 = omega (arith, counts.1) in
      let world =
      step-ends st img (subst (λ (o : Op). m + 1 ≡ needs st o) (sym C.op) l)
      ∙ ap (λ (o : Op). world_of (completed st o) (store_made st img o m)) C.op
      ∙ ap (world_of (completed st Copy)) (ap (store_made st img Copy) all ∙ ap₂ (store img) (at_last st img) (value-last st img)) in
      subst (λ (v : World). Quiet past v.st v.image (advances 1 b.work b)) (sym world)
      (subst (Quiet past (completed st Copy) (store img count_word 0)) (sym (book-ends l)) (copied_all past st img b C counts.0 all))

  pub step-copy : Copying past (stepped (world_of st img)).st (stepped (world_of st img)).image (advances 1 b.work b) ⊎ Quiet past (stepped (world_of st img)).st (stepped (world_of st img)).image (advances 1 b.work b)
  step-copy =
      case_on (ltb (m + 1) (needs st Copy))
      (λ t. inl (step-goes (ltb-true (m + 1) (needs st Copy) t)))
      (λ t. inr (step-last (omega (arith, low, ltb-false (m + 1) (needs st Copy) t))))
