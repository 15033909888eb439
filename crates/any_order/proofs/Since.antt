-- The images since the last fence: at any point of a list they may be mixed. A fence leaves one, a store that decides one, and any other store one more.
use Prim.Native.Nat.{ℕ, zero, suc, ◌≤◌, min}
use mathlib.Core.Bool.{false}
use mathlib.Core.List.{List, [], ◌∷◌}
use mathlib.Core.Logic.{inl}
use mathlib.Core.Path.{◌≡◌, refl, sym, ap, ◌∙◌, subst}
use native.Mathlib.Omega.{arith}
use lib.Dec.{eqb}
use lib.ListN.{length, drop, get_or}
use borrow.Author.Tests.{eqb-true}
use Rattle.bounded.proofs.Rows.{none-apply}
use Rattle.bounded.proofs.Tests.{case_on}
use Rattle.layout.specs.declared.Sizes.{Sizes}
use Rattle.layout.specs.Layout.{image_length}
use Rattle.words.specs.Words.{Bytes, word}
use Rattle.mount.proofs.View.{View, view_of}
use Rattle.mount.proofs.Verdict.{Taken}
use Rattle.state.specs.State.{State}
use Rattle.operations.specs.Operations.{is_idle}
use Rattle.refinement.specs.Stores.{World, stepped, stepped_by, left}
use Rattle.refinement.specs.Calls.{step_rows, step_row, step_of, step_bytes, run_of, run_bytes}
use Rattle.refinement.specs.Run.{Call, mount, checkpoint, free, step, begin, begin_wide, abort, commit, prepare, confirm, withdraw, consolidate, run, write, read, recall, event, load, exec}
use Rattle.refinement.specs.Reference.{Reference, turn}
use Rattle.refinement.proofs.Cases.{standing-of}
use Rattle.refinement.proofs.Pending.{pends}
use Rattle.refinement.proofs.Reached.{Reached, past_same, reached-next}
use Rattle.refinement.proofs.Remount.{Shown}
use Rattle.refinement.proofs.Steps.{stepped-image, run_none, run_step, run-kept}
use Rattle.refinement.proofs.Viewed.{Viewed}
use Rattle.any_order.specs.AnyOrder.{decides, since_next, since_stores, stores_by, StoodAt}
use Rattle.any_order.proofs.Mixable.{All, Mixable, mixable-one, harmless-shows, mixable-more}
use Rattle.any_order.proofs.NextWide.{others-harmless}

-- what holds of the images since the last fence
pub record Since (z : Sizes) (past : List ℕ) (img : List ℕ) (since : List (List ℕ)) : Type 0 where
  pub mixable : Mixable (view_of (word img)) img since
  pub pasts : All (λ x. drop (image_length z) x ≡ past) since
  pub newest : (i : ℕ) → StoodAt since i (get_or img i 0)

-- ---- what a mount finds

module _ {z : Sizes} {past : List ℕ} (v : World) (b : Reference) (h : Reached z past v b) where
  abbrev img : List ℕ
  img = v.image

  abbrev pub view : View
  view = view_of (word img)

  seen : Viewed past v.st img b
  seen = (standing-of v b h.related).viewed

  pub bytes : Bytes img
  bytes = seen.bytes

  pub taken : Taken (length img) view
  taken = subst (Taken (length img)) (sym seen.shows) seen.mounts

  pub shown : Shown img view b
  shown = subst (λ (u : View). Shown img u b) (sym seen.shows) seen.shown

  pub sizes : view.sizes ≡ z
  sizes = ap (λ (u : View). u.sizes) seen.shows ∙ seen.sizes-same ∙ h.sizes

  -- right after a fence
  pub since-fence : Since z past img (img ∷ [])
  since-fence = record { mixable = mixable-one img view refl taken bytes; pasts = (past_same v b h, tt); newest = λ i. inl refl }

-- ---- one store, and a run

module _ {z : Sizes} {past : List ℕ} (u : World) (b c : Reference) (h : Reached z past u b) (k : Reached z past (stepped u) c) (some : is_idle u.st.pending.op ≡ false)
    (since : List (List ℕ)) (s : Since z past u.image since) where
  -- that does not decide
  other_step : decides u.st ≡ false → Since z past (stepped u).image ((stepped u).image ∷ since)
  other_step off =
      let x : List ℕ = u.image in
      let y : List ℕ = (stepped u).image in
      let v : View = view_of (word x) in
      let harmless = others-harmless past u.st x b h.related some off in
      let same : view_of (word y) ≡ v = harmless-shows x v refl (taken u b h) (bytes u b h) y harmless in
      record {
        mixable = subst (λ (w : View). Mixable w y (y ∷ since)) (sym same) (mixable-more x v refl (taken u b h) (bytes u b h) y harmless since s.mixable);
        pasts = (past_same (stepped u) c k, s.pasts);
        newest = λ i. inl refl;
      }

  since-step : Since z past (stepped u).image (since_next u since)
  unfolding since_next
  since-step =
      case_on (decides u.st)
      (λ t. rw t (subst (λ (y : List ℕ). Since z past (stepped u).image (y ∷ [])) (stepped-image u) (since-fence (stepped u) c k)))
      (λ t. rw t (other_step t))

module _ {z : Sizes} {past : List ℕ} (v : World) (b : Reference) (h : Reached z past v b) (row : step_row v.st v.image ≡ 0) (since : List (List ℕ)) (s : Since z past v.image since) where
  some : is_idle v.st.pending.op ≡ false
  some = (none-apply (step_rows v.st v.image) (omega arith) row).1.1.0

  ran : (n : ℕ) → n ≤ left v.st → (exec (run n) v).world ≡ stepped_by n v
  unfolding exec run_of run_bytes
  ran n l = let k : min n (left v.st) ≡ n = omega arith in rw (row, k)

  reference_by : ℕ → Reference
  reference_by n = let d = exec (run n) v in turn (run n) d.number d.stores b

  reached-by : (n : ℕ) → n ≤ left v.st → Reached z past (stepped_by n v) (reference_by n)
  unfolding reference_by
  reached-by n l = subst (λ (w : World). Reached z past w (reference_by n)) (ran n l) (reached-next (run n) tt v b h)

  since-run : (n : ℕ) → n ≤ left v.st → Since z past (stepped_by n v).image (since_stores n v since)
  unfolding since_stores
  since-run zero l = subst (λ (w : World). Since z past w.image since) (sym (run_none v)) s
  since-run (suc n) l =
      let u : World = stepped_by n v in
      let on : is_idle u.st.pending.op ≡ false = ap (λ (t : State). is_idle t.pending.op) (run-kept n v l) ∙ some in
      subst (λ (w : World). Since z past w.image (since_next u (since_stores n v since))) (sym (run_step n v))
      (since-step u (reference_by n) (reference_by (suc n)) (reached-by n (omega arith)) (subst (λ (w : World). Reached z past w (reference_by (suc n))) (run_step n v) (reached-by (suc n) l)) on
      (since_stores n v since) (since-run n (omega arith)))

  since-one : Since z past (stepped v).image (since_stores 1 v since)
  since-one =
      let p = pends v.st v.st.pending.op (standing-of v b h.related).valid refl some in
      subst (λ (w : World). Since z past w.image (since_stores 1 v since)) (run_step 0 v ∙ ap stepped (run_none v)) (since-run 1 (omega (arith, p.made-low)))

-- ---- every call

since-stepped : {z : Sizes} {past : List ℕ} (v : World) (b : Reference) → Reached z past v b → (since : List (List ℕ)) → Since z past v.image since
    → Since z past (step_bytes v.st v.image) (since_stores (step_of v.st v.image).stores v since)
unfolding step_of step_bytes since_stores
since-stepped v b h since s =
    let row : ℕ = step_row v.st v.image in
    case_on (eqb row 0) (λ t. rw t (since-one v b h (eqb-true row 0 t) since s)) (λ t. rw t s)

since-ran : {z : Sizes} {past : List ℕ} (n : ℕ) (v : World) (b : Reference) → Reached z past v b → (since : List (List ℕ)) → Since z past v.image since
    → Since z past (run_bytes v.st v.image n) (since_stores (run_of v.st v.image n).stores v since)
unfolding run_of run_bytes since_stores
since-ran n v b h since s =
    let row : ℕ = step_row v.st v.image in
    case_on (eqb row 0) (λ t. rw t (since-run v b h (eqb-true row 0 t) since s (min n (left v.st)) (omega arith))) (λ t. rw t s)

pub since-call : {z : Sizes} {past : List ℕ} (c : Call) (v : World) (b : Reference) → Reached z past v b → (since : List (List ℕ)) → Since z past v.image since
    → Since z past (exec c v).world.image (since_stores (stores_by c (exec c v)) v since)
unfolding exec since_stores
since-call mount v b h since s = s
since-call checkpoint v b h since s = s
since-call free v b h since s = s
since-call step v b h since s = since-stepped v b h since s
since-call (begin w) v b h since s = s
since-call (begin_wide w) v b h since s = s
since-call (abort w) v b h since s = s
since-call (commit w) v b h since s = s
since-call (prepare w) v b h since s = s
since-call (confirm w) v b h since s = s
since-call (withdraw w) v b h since s = s
since-call (consolidate p) v b h since s = s
since-call (run n) v b h since s = since-ran n v b h since s
since-call (write w p l o n text) v b h since s = s
since-call (read w p l target) v b h since s = s
since-call (recall p l target) v b h since s = s
since-call (event ms k m a) v b h since s = s
since-call (load text) v b h since s = s
