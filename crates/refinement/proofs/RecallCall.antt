-- A recall mounts and copies a committed line: it is refused for its arguments alone, and changes nothing.
use Prim.Native.Nat.{ℕ, ◌<◌}
use mathlib.Core.Bool.{Bool, false, ◌||◌, cond}
use mathlib.Core.List.{List, [], ◌∷◌, ◌++◌}
use mathlib.Core.Logic.{◌⊎◌, inl, inr}
use mathlib.Core.Path.{◌≡◌, refl, sym, ap, ◌∙◌, subst}
use native.Mathlib.Omega.{arith}
use lib.Dec.{ltb, leb, eqb}
use lib.ListN.{length}
use borrow.Author.Tests.{ltb-false, leb-false, eqb-true}
use Rattle.bounded.specs.Rows.{Row, refusal, Past}
use Rattle.replay.specs.Map.{page_frames}
use Rattle.bounded.proofs.Rows.{none-apply}
use Rattle.bounded.proofs.Tests.{case_on, or_left, or_right}
use Rattle.words.specs.Words.{word, over}
use Rattle.mount.specs.Mount.{Mounted, mount_of, mount_read, mount_rows, sizes_from}
use Rattle.mount.proofs.Verdict.{taken-mount}
use Rattle.mount.proofs.View.{View}
use Rattle.state.specs.State.{State}
use Rattle.refinement.specs.Wide.{shown_line}
use Rattle.refinement.specs.Recall.{recall_row, recall_bytes}
use Rattle.refinement.specs.Reference.{Reference, recall_line}
use Rattle.refinement.proofs.Viewed.{Viewed}

-- rows of which none applies, before others
refusal-past : (rs ss : List Row) → Past rs (length rs) → refusal (rs ++ ss) ≡ refusal ss
refusal-past [] ss p = refl
refusal-past (r ∷ rs) ss p = rw p.0 (refusal-past rs ss p.1)

-- no row of a taken mount applies
no_row : (img : List ℕ) → (mount_of img).row ≡ 0 → refusal (mount_rows (length img) (word img)) ≡ 0
unfolding mount_of mount_read
no_row img e =
    let row : ℕ = refusal (mount_rows (length img) (word img)) in
    case_on (eqb row 0) (λ t. eqb-true row 0 t) (λ t. rw t at e)

abbrev pub args_bad : List ℕ → ℕ → ℕ → List ℕ → Bool
args_bad img p l target = leb (sizes_from (word img)).pages p || ltb 63 l || ltb (length target) 64

module _ {past : List ℕ} {st : State} (img : List ℕ) (b : Reference) (seen : Viewed past st img b) (p l : ℕ) (target : List ℕ) where
  pub row_is : recall_row img p l target ≡ cond (args_bad img p l target) 11 0
  unfolding recall_row
  row_is =
      refusal-past (mount_rows (length img) (word img)) ((args_bad img p l target, 11) ∷ [])
      (none-apply (mount_rows (length img) (word img)) (omega arith) (no_row img (ap (λ (m : Mounted). m.row) (taken-mount img seen.view seen.shows seen.mounts))))

  pub recall-answer : (recall_row img p l target ≡ 0) ⊎ (recall_row img p l target ≡ 11)
  recall-answer =
      case_on (args_bad img p l target)
      (λ t. inr (row_is ∙ ap (λ (x : Bool). cond x 11 0) t))
      (λ t. inl (row_is ∙ ap (λ (x : Bool). cond x 11 0) t))

  args-good : recall_row img p l target ≡ 0 → args_bad img p l target ≡ false
  args-good e =
      case_on (args_bad img p l target)
      (λ t. let q : ◌≡◌ {A = ℕ} 11 0 = sym (row_is ∙ ap (λ (x : Bool). cond x 11 0) t) ∙ e in absurd (omega arith))
      (λ t. t)

  pub recall-right : recall_row img p l target ≡ 0 → recall_bytes img p l target ≡ over target 0 (recall_line b p l)
  unfolding recall_bytes
  recall-right e =
      let shown =
      subst (λ (v : View). (p l : ℕ) → p < v.sizes.pages → l < 64 → shown_line img (page_frames (word img)) v.sizes v.table v.count v.keys p l ≡ recall_line b p l) (sym seen.shows) seen.shown in
      let low : Bool = leb (sizes_from (word img)).pages p in
      let a = or_left (low || ltb 63 l) (ltb (length target) 64) (args-good e) in
      rw e
      (ap (over target 0) (shown p l (leb-false (sizes_from (word img)).pages p (or_left low (ltb 63 l) a)) (omega (arith, ltb-false 63 l (or_right low (ltb 63 l) a)))))
