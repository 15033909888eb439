-- Every call in two images that are alike, of the same state and the same reference machine: the same answer, and images alike again.
use Prim.Native.Nat.{ℕ, min}
use mathlib.Core.Bool.{Bool, true, false, cond, ◌||◌}
use mathlib.Core.List.{List, [], ◌∷◌}
use mathlib.Core.Path.{◌≡◌, refl, sym, ap, ap₂, ◌∙◌}
use native.Mathlib.Omega.{arith}
use lib.Dec.{ltb, leb, eqb}
use lib.ListN.{length}
use borrow.Author.Tests.{eqb-true, eqb-false}
use Rattle.bounded.specs.Rows.{refusal}
use Rattle.bounded.proofs.Rows.{none-apply}
use Rattle.bounded.proofs.Tests.{case_on}
use Rattle.layout.specs.declared.Sizes.{Sizes}
use Rattle.words.specs.Words.{word}
use Rattle.mount.specs.Mount.{sizes_from}
use Rattle.mount.proofs.Verdict.{found_in}
use Rattle.mount.proofs.View.{View}
use Rattle.state.specs.State.{State}
use Rattle.state.specs.declared.Op.TheVariants.{Consolidate, Checkpoint, Prepare, Confirm}
use Rattle.state.specs.Held.{some_prepared}
use Rattle.operations.specs.Operations.{is_idle, journal_full, commit_rows, prepare_rows, confirm_rows, consolidate_rows}
use Rattle.refinement.specs.Freeing.{freed_slot, freed_page}
use Rattle.refinement.specs.Mount.{quiet_state, copying_state, mounted_state}
use Rattle.refinement.specs.Beside.{counted}
use Rattle.refinement.specs.Outcome.{Outcome, answered}
use Rattle.refinement.specs.Stores.{World, stepped, stepped_by, left}
use Rattle.refinement.specs.Calls.{row_state, row_not_pending, world_of, begin_of, begin_wide_of, abort_of, commit_op, commit_of, prepare_of, confirm_of, consolidate_of, free_of, checkpoint_of, Loading, read_rows, read_row, read_bytes, step_rows, step_row, step_of, step_bytes, run_of, run_bytes}
use Rattle.refinement.specs.Recall.{recall_row, recall_bytes}
use Rattle.refinement.specs.Run.{Call, Result, mount, checkpoint, free, step, begin, begin_wide, abort, commit, prepare, confirm, withdraw, consolidate, run, write, read, recall, event, load, exec, result}
use Rattle.refinement.specs.Reference.{Reference}
use Rattle.refinement.proofs.Cases.{Invariant, standing-of}
use Rattle.refinement.proofs.CaseSound.{call-sound}
use Rattle.refinement.proofs.MountCall.{mount-viewed}
use Rattle.refinement.proofs.RecallCall.{row_is}
use Rattle.refinement.proofs.Standing.{Standing}
use Rattle.refinement.proofs.Viewed.{Viewed, view-found}
use Rattle.leftovers.specs.Leftovers.{Same}
use Rattle.leftovers.proofs.Alike.{Alike}
use Rattle.leftovers.proofs.OneStore.{shown-slots}
use Rattle.leftovers.proofs.AnyStore.{any-store}
use Rattle.leftovers.proofs.Runs.{run-state, run-alike}
use Rattle.leftovers.proofs.SameRows.{same-refusal}
use Rattle.leftovers.proofs.SameReads.{SameReads, same_reads}
use Rattle.leftovers.proofs.AskedSame.{write_same, rest-same, withdraw-same, event-same, load_same}

-- equal outcomes, over any images
by-outcome : {o p : Outcome} {x y : List ℕ} → o ≡ p → Same (result o x) (result p y)
by-outcome e = record { number = ap (λ (o : Outcome). o.number) e; stores = ap (λ (o : Outcome). o.stores) e; target = refl; state = ap (λ (o : Outcome). o.state) e }

-- images or targets that a taken call changes
when-taken : {A : Type 0} (P : A → A → Type 0) (row row' : ℕ) (a b c d : A) → row ≡ row' → (row ≡ 0 → P a c) → P b d → P (cond (eqb row 0) a b) (cond (eqb row' 0) c d)
when-taken P row row' a b c d e f g =
    case_on (eqb row 0)
    (λ t. let u : eqb row' 0 ≡ true = ap (λ (n : ℕ). eqb n 0) (sym e) ∙ t in rw (t, u) (f (eqb-true row 0 t)))
    (λ t. let u : eqb row' 0 ≡ false = ap (λ (n : ℕ). eqb n 0) (sym e) ∙ t in rw (t, u) g)

module _ {past past' : List ℕ} (st : State) (x y : List ℕ) (b : Reference) (h : Invariant past (world_of st x) b) (k : Invariant past' (world_of st y) b) (same : Alike x y) where
  abbrev z : Sizes
  z = st.sizes

  abbrev v : World
  v = world_of st x

  abbrev u : World
  u = world_of st y

  X : Standing past v b
  X = standing-of v b h

  Y : Standing past' u b
  Y = standing-of u b k

  abbrev D : Viewed past st x b
  D = X.viewed

  abbrev E : Viewed past' st y b
  E = Y.viewed

  reads : SameReads st x y
  reads = same_reads st x y b h k

  -- ---- mount

  -- what an image shows, under the state's own header
  found-same : mounted_state (found_in D.view) ≡ mounted_state (found_in E.view)
  found-same =
      let d = D.view in
      let f = E.view in
      let e₀ = D.sizes-same ∙ sym E.sizes-same in
      let e₁ = D.head-same ∙ sym E.head-same in
      let e₂ = D.tail-same ∙ sym E.tail-same in
      let e₃ = sym (shown-slots x d D.shows) ∙ same.table ∙ shown-slots y f E.shows in
      let e₄ = D.count_same ∙ sym E.count_same in
      let e₆ = view-found st x b D ∙ sym (view-found st y b E) in
      case_on (eqb d.count 0)
      (λ t.
      let u : eqb f.count 0 ≡ true = ap (λ (n : ℕ). eqb n 0) (sym e₄) ∙ t in
      rw (t, u) (λ i. quiet_state (e₀ i) (e₁ i) (e₂ i) (e₃ i) (e₆ i)))
      (λ t.
      let u : eqb f.count 0 ≡ false = ap (λ (n : ℕ). eqb n 0) (sym e₄) ∙ t in
      let some : counted st ≡ 0 → ⊥ = λ q. eqb-false d.count 0 t (D.count_same ∙ q) in
      let e₅ = D.keys-same some ∙ sym (E.keys-same some) in
      rw (t, u) (λ i. copying_state (e₀ i) (e₁ i) (e₂ i) (e₃ i) (e₆ i) (e₄ i) (e₅ i)))

  mount-same : Same (exec mount v) (exec mount u)
  unfolding exec
  mount-same =
      let m = mount-viewed v D.view D.shows D.mounts in
      let n = mount-viewed u E.view E.shows E.mounts in
      record {
        number = ap (λ (d : Result). d.number) m ∙ sym (ap (λ (d : Result). d.number) n);
        stores = ap (λ (d : Result). d.stores) m ∙ sym (ap (λ (d : Result). d.stores) n);
        target = refl;
        state = ap (λ (d : Result). d.world.st) m ∙ found-same ∙ sym (ap (λ (d : Result). d.world.st) n);
      }

  -- ---- read, recall

  read_same : (w p l : ℕ) (target : List ℕ) → Same (exec (read w p l target) v) (exec (read w p l target) u)
  unfolding exec read_row read_bytes
  read_same w p l target =
      let e : read_row st x w p l target ≡ read_row st y w p l target =
      same-refusal (read_rows st x w p l target) (read_rows st y w p l target)
      (refl, refl, λ _. (reads.short, refl, λ _. (refl, refl, λ _. (refl, refl, λ _. tt)))) in
      record {
        number = e;
        stores = refl;
        target =
            case_on (eqb (read_row st x w p l target) 0)
            (λ t.
            let q : read_row st x w p l target ≡ 0 = eqb-true (read_row st x w p l target) 0 t in
            (call-sound (read w p l target) tt v b h).right q ∙ sym ((call-sound (read w p l target) tt u b k).right (sym e ∙ q)))
            (λ t. let s : eqb (read_row st y w p l target) 0 ≡ false = ap (λ (n : ℕ). eqb n 0) (sym e) ∙ t in rw (t, s));
        state = refl;
      }

  recall-same : (p l : ℕ) (target : List ℕ) → Same (exec (recall p l target) v) (exec (recall p l target) u)
  unfolding exec recall_bytes
  recall-same p l target =
      let sizes : sizes_from (word x) ≡ sizes_from (word y) = ap (λ (w : View). w.sizes) D.shows ∙ D.sizes-same ∙ sym (ap (λ (w : View). w.sizes) E.shows ∙ E.sizes-same) in
      let e : recall_row x p l target ≡ recall_row y p l target =
      row_is x b D p l target
      ∙ ap (λ (s : Sizes). cond (leb s.pages p || ltb 63 l || ltb (length target) 64) 11 0) sizes
      ∙ sym (row_is y b E p l target) in
      record {
        number = e;
        stores = refl;
        target =
            case_on (eqb (recall_row x p l target) 0)
            (λ t.
            let q : recall_row x p l target ≡ 0 = eqb-true (recall_row x p l target) 0 t in
            (call-sound (recall p l target) tt v b h).right.1 q ∙ sym ((call-sound (recall p l target) tt u b k).right.1 (sym e ∙ q)))
            (λ t. let s : eqb (recall_row y p l target) 0 ≡ false = ap (λ (n : ℕ). eqb n 0) (sym e) ∙ t in rw (t, s));
        state = refl;
      }

  -- ---- step, run

  row_same : step_row st x ≡ step_row st y
  row_same = ap (λ (s : Bool). refusal (row_state st ∷ (s, 4) ∷ row_not_pending st ∷ [])) reads.short

  some-pending : step_row st x ≡ 0 → is_idle st.pending.op ≡ false
  some-pending e = (none-apply (step_rows st x) (omega arith) e).1.1.0

  step_same : step_of st x ≡ step_of st y
  unfolding step_of stepped
  step_same = ap (λ (r : ℕ). answered r st 1 (stepped v).st) row_same

  step-alike : Alike (step_bytes st x) (step_bytes st y)
  unfolding step_bytes
  step-alike =
      when-taken Alike (step_row st x) (step_row st y) (stepped v).image x (stepped u).image y row_same
      (λ e. any-store past past' st x y b same h k (some-pending e)) same

  run-same : (n : ℕ) → run_of st x n ≡ run_of st y n
  unfolding run_of
  run-same n =
      let m : ℕ = min n (left st) in
      ap₂ (λ (r : ℕ) (s : State). answered r st m s) row_same (run-state m v u refl)

  runs-alike : (n : ℕ) → Alike (run_bytes st x n) (run_bytes st y n)
  unfolding run_bytes
  runs-alike n =
      let m : ℕ = min n (left st) in
      when-taken Alike (step_row st x) (step_row st y) (stepped_by m v).image x (stepped_by m u).image y row_same
      (λ e. run-alike past past' st x y b h k (some-pending e) same m (omega arith)) same

  -- ---- every call

  pub call_same : (c : Call) → Same (exec c v) (exec c u)
  unfolding exec begin_of begin_wide_of abort_of commit_of prepare_of confirm_of consolidate_of free_of checkpoint_of
  call_same mount = mount-same
  call_same checkpoint = by-outcome (rest-same st x y reads [] Checkpoint)
  call_same free = by-outcome (rest-same st x y reads ((some_prepared st.writers.prepared, 23) ∷ (leb z.slots (freed_slot st), 22) ∷ (journal_full st 1, 19) ∷ []) (Consolidate (freed_page st)))
  call_same step = by-outcome step_same
  call_same (begin w) = by-outcome refl
  call_same (begin_wide w) = by-outcome refl
  call_same (abort w) = by-outcome refl
  call_same (commit w) = by-outcome (rest-same st x y reads (commit_rows st w) (commit_op st w))
  call_same (prepare w) = by-outcome (rest-same st x y reads (prepare_rows st w) (Prepare w))
  call_same (confirm w) = by-outcome (rest-same st x y reads (confirm_rows st w) (Confirm w))
  call_same (withdraw w) = by-outcome (withdraw-same st x y reads w)
  call_same (consolidate p) = by-outcome (rest-same st x y reads (consolidate_rows st p) (Consolidate p))
  call_same (run n) = by-outcome (run-same n)
  call_same (write w p l o n bytes) = by-outcome (write_same st x y reads w p l o n bytes)
  call_same (read w p l target) = read_same w p l target
  call_same (recall p l target) = recall-same p l target
  call_same (event ms i m a) = by-outcome (event-same st x y reads ms i m a)
  call_same (load text) =
      let e = load_same st x y reads text in
      record { number = ap (λ (o : Loading). o.number) e; stores = refl; target = ap (λ (o : Loading). o.moduli) e; state = refl }

  pub call-alike : (c : Call) → Alike (exec c v).world.image (exec c u).world.image
  unfolding exec
  call-alike mount = same
  call-alike checkpoint = same
  call-alike free = same
  call-alike step = step-alike
  call-alike (begin w) = same
  call-alike (begin_wide w) = same
  call-alike (abort w) = same
  call-alike (commit w) = same
  call-alike (prepare w) = same
  call-alike (confirm w) = same
  call-alike (withdraw w) = same
  call-alike (consolidate p) = same
  call-alike (run n) = runs-alike n
  call-alike (write w p l o n bytes) = same
  call-alike (read w p l target) = same
  call-alike (recall p l target) = same
  call-alike (event ms i m a) = same
  call-alike (load text) = same
