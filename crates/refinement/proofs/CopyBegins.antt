-- The first store of a wide commit, that of the count: a mount counts its entries from then on, and shows their lines; the reference machine takes the
-- round with it.
use Prim.Native.Nat.{ℕ, suc, ◌+◌, ◌-◌, ◌*◌, ◌<◌, ◌≤◌, min}
use mathlib.Core.List.{List}
use mathlib.Core.Logic.{inr}
use mathlib.Core.Path.{◌≡◌, refl, sym, ap, ap₂, ◌∙◌, subst}
use native.Mathlib.Omega.{arith}
use lib.Dec.{eqb}
use lib.ListN.{length}
use borrow.Author.Tests.{eq-eqb, eqb-false}
use Rattle.bounded.proofs.Tab.{tab-ext}
use Rattle.bounded.proofs.Tests.{case_on}
use Rattle.layout.specs.declared.Sizes.{Sizes}
use Rattle.layout.specs.Layout.{entry_word, count_word}
use Rattle.words.specs.Words.{word, store}
use Rattle.words.proofs.WordLaws.{word-store-other}
use Rattle.entries.proofs.EntryLaws.{Right}
use Rattle.state.specs.State.{State}
use Rattle.state.specs.declared.Op.{Op}
use Rattle.state.specs.declared.Op.TheVariants.{Copy}
use Rattle.operations.specs.Operations.{is_idle, needs}
use Rattle.refinement.specs.Settled.{with_wide}
use Rattle.refinement.specs.Stores.{World, completed, with_made, stepped, store_made}
use Rattle.refinement.specs.Calls.{world_of}
use Rattle.refinement.specs.Reference.{Reference, Cell, Work, laid_over, under, copying, nothing, committing, with_work, does, continues, copies, advances, read_line, recall_line}
use Rattle.refinement.proofs.StateValid.{Valid, valid}
use Rattle.refinement.proofs.Pending.{pends, made-valid}
use Rattle.refinement.proofs.Invariant.{Durable}
use Rattle.refinement.proofs.Keeps.{durable-kept}
use Rattle.refinement.proofs.Copies.{durable-fits}
use Rattle.refinement.proofs.HeaderStore.{header-copy}
use Rattle.refinement.proofs.StoreKept.{eight-kept}
use Rattle.refinement.proofs.Stepping.{step-on}
use Rattle.refinement.proofs.Keys.{keys-ext}
use Rattle.refinement.proofs.Counted.{durable-counted}
use Rattle.refinement.proofs.Copying.{placed, Copying}
use Rattle.refinement.proofs.StepCopy.{copy_needs}
use Rattle.refinement.proofs.CopyPlaces.{at_first, value-first}
use Rattle.refinement.proofs.Logging.{Logged, Logging, unheld}

module _ {past : List ℕ} (st : State) (img : List ℕ) (b : Reference) (G : Logging past st img b) (op : st.pending.op ≡ Copy) (first : st.pending.made ≡ 0)
    (work : b.work ≡ copying st.wide.writer (needs st Copy)) where
  abbrev z : Sizes
  z = st.sizes

  abbrev w : ℕ
  w = st.wide.writer

  abbrev n : ℕ
  n = st.wide.count

  v : Valid st
  v = valid st G.valid

  pub counts : (0 < n) × (needs st Copy ≡ 8 * n + 2)
  counts = copy_needs st (omega (arith, (pends st Copy G.valid op refl).made-low))

  abbrev image : List ℕ
  image = store img count_word n

  -- what is left under way does nothing
  abbrev c : Reference
  c = with_work (under nothing (needs st Copy - 1)) (does (committing w) b)

  book : advances 1 b.work b ≡ c
  book =
      let k : ℕ = needs st Copy in
      let e : min 1 k ≡ 1 = omega (arith, counts.1) in
      let f : k - 1 ≡ suc (k - 2) = omega (arith, counts.1) in
      ap (λ (x : Work). advances 1 x b) work ∙ ap (λ (i : ℕ). copies w k i b) e ∙ ap (λ (i : ℕ). continues nothing i (does (committing w) b)) f
      ∙ ap (λ (i : ℕ). with_work (under nothing i) (does (committing w) b)) (sym f)

  -- the line that the writer reads is the page's from now on
  line_taken : (p l : ℕ) → recall_line c p l ≡ read_line b w p l
  line_taken p l = refl

  -- of the state as it was, the entries counted
  counted : Durable past st image b
  counted =
      durable-kept (with_wide (completed st Copy) st.wide) image b b st.next st.writers st.pending (λ p l h k. refl)
      (durable-counted (completed st Copy) img b G.durable st.wide (λ e. omega (arith, counts.0, v.entries.few)) (omega (arith, v.entries.few, v.legal.entries-high))
      (subst (λ (ks : List ℕ). Right z ks n) G.entries.keys v.entries))

  fits : 8 * count_word + 8 ≤ length img
  fits = omega (arith, durable-fits past (completed st Copy) img b G.durable)

  pub copying-begins : Copying past (with_made st 1) image c
  unfolding needs
  copying-begins =
      record {
        valid = made-valid st 1 G.valid (ap is_idle op) (subst (λ (q : Op). 1 < needs st q) (sym op) (omega (arith, counts.1)));
        op = op;
        begun = omega arith;
        four = G.four;
        sixty-four = G.sixty-four;
        unheld = unheld st G.valid G.low;
        durable = placed (with_made st 1) image b c (made-valid st 1 G.valid (ap is_idle op) (subst (λ (q : Op). 1 < needs st q) (sym op) (omega (arith, counts.1)))) (durable-kept st image b b st.next st.writers _ (λ p l h k. refl) counted);
        keys = G.entries.keys ∙ keys-ext (word img) (word image) z n (λ e _ _. sym (word-store-other img count_word n (entry_word z e) fits (λ q. omega arith)));
        entry = λ e le. eight-kept img count_word n (entry_word z e + 1) fits (λ k h q. omega arith) ∙ G.entries.line e le (subst (λ (q : Op). Logged st.wide q e → ⊥) (sym op) (λ x. x));
        other = λ p l lp ll bare.
            header-copy img z count_word n (omega arith) (durable-fits past (completed st Copy) img b G.durable) st.table p l
            ∙ G.durable.committed p l lp ll
            ∙ tab-ext 64 (b.pages p l) (λ i. laid_over (b.writes w p l i) (b.pages p l i)) (λ i li. ap (λ (x : Cell). laid_over x (b.pages p l i)) (sym (G.entries.no_writes p l i lp ll li bare)));
        landed = λ e k le lk l. absurd (omega arith);
        no_writes = λ u p l i lu lp ll li. case_on (eqb u w) (λ t. rw t) (λ t. rw t (G.alone u p l i lu (eqb-false u w t) lp ll li));
        work = inr refl;
        book = rw (eq-eqb b.wide w G.book);
      }

  pub step-first : Copying past (stepped (world_of st img)).st (stepped (world_of st img)).image (advances 1 b.work b)
  step-first =
      let more : st.pending.made + 1 < needs st Copy = omega (arith, counts.1) in
      let world =
      step-on st img (subst (λ (q : Op). st.pending.made + 1 < needs st q) (sym op) more)
      ∙ ap (λ (q : Op). world_of (with_made st (st.pending.made + 1)) (store_made st img q st.pending.made)) op
      ∙ ap (λ (i : ℕ). world_of (with_made st (i + 1)) (store_made st img Copy i)) first
      ∙ ap (world_of (with_made st 1)) (ap₂ (store img) (at_first st img) (value-first st img)) in
      subst (λ (u : World). Copying past u.st u.image (advances 1 b.work b)) (sym world) (subst (Copying past (with_made st 1) image) (sym book) copying-begins)
