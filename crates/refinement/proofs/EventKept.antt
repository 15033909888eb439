-- Two states that lie over one image show the same view and committed lines; so a store that is harmless beside the one is so beside the other.
use Prim.Native.Nat.{ℕ, ◌+◌, ◌*◌, ◌<◌, ◌≤◌}
use mathlib.Core.Bool.{true}
use mathlib.Core.List.{List}
use mathlib.Core.Logic.{⊎_elim}
use mathlib.Core.Path.{◌≡◌, sym, ap, ◌∙◌, subst}
use Rattle.layout.specs.declared.Sizes.{Sizes}
use Rattle.layout.specs.Layout.{image_length, line_word}
use Rattle.words.specs.Words.{word}
use Rattle.replay.specs.declared.Table.{Table}
use Rattle.replay.specs.Map.{page_frames}
use Rattle.mount.proofs.Dead.{Dead}
use Rattle.mount.proofs.View.{View}
use Rattle.state.specs.State.{State}
use Rattle.state.specs.declared.Op.{Op}
use Rattle.validity.specs.Validity.{state_ok}
use Rattle.refinement.specs.Stores.{store_at, store_value, store_made}
use Rattle.refinement.specs.Recall.{frame_of}
use Rattle.refinement.specs.Reference.{Reference}
use Rattle.refinement.proofs.Copies.{frame-kept, mount-apart}
use Rattle.refinement.proofs.Invariant.{Durable}
use Rattle.refinement.proofs.StoreKept.{durable-kept, store-none}
use Rattle.refinement.proofs.Stepping.{Mid, Aside}
use Rattle.refinement.proofs.Valid.{good, legal-sizes}

-- the frames of committed lines are those of the view
view-frames : {past : List ℕ} (st : State) (img : List ℕ) (b : Reference) → state_ok st ≡ true → (D : Durable past st img b)
    → (p l : ℕ) → p < st.sizes.pages → frame_of (page_frames (word img)) st.sizes st.table p l ≡ frame_of (page_frames (word img)) st.sizes D.view.table p l
view-frames st img b ok D = frame-kept (page_frames (word img)) st.sizes D.view.table st.table (legal-sizes st ok) (mount-apart st img ok D) (good st ok).pages D.behind

module _ {past : List ℕ} (st u : State) (img : List ℕ) (b c : Reference) (ok : state_ok st ≡ true) (uok : state_ok u ≡ true) (D : Durable past st img b) (E : Durable past u img c)
    (same : u.sizes ≡ st.sizes) (op : Op) (m : ℕ) (M : Mid past u img c E op m) where
  abbrev z : Sizes
  z = st.sizes

  abbrev a : ℕ
  a = store_at u op m

  one-view : E.view ≡ D.view
  one-view = sym E.shows ∙ D.shows

  one-frame : (p l : ℕ) → p < z.pages → frame_of (page_frames (word img)) z u.table p l ≡ frame_of (page_frames (word img)) z st.table p l
  one-frame p l lp =
      subst (λ (y : Sizes). (p l : ℕ) → p < y.pages → frame_of (page_frames (word img)) y u.table p l ≡ frame_of (page_frames (word img)) y E.view.table p l) same (view-frames u img c uok E) p l lp
      ∙ ap (λ (v : View). frame_of (page_frames (word img)) z v.table p l) one-view
      ∙ sym (view-frames st img b ok D p l lp)

  inside : 8 * a + 8 ≤ image_length z
  inside = subst (λ (y : Sizes). 8 * a + 8 ≤ image_length y) same M.inside

  pub durable-beside : Durable past st (store_made u img op m) b
  durable-beside =
      ⊎_elim
      (λ e. subst (λ (i : List ℕ). Durable past st i b) (sym (store-none past st img b D a (store_value u img op m) inside e)) D)
      (λ (s : Aside past u img c E op a).
      durable-kept past st img b D a (store_value u img op m) inside (subst (λ (v : View). Dead v a) one-view s.dead)
      (λ p l k lp ll lk e.
      subst (λ (y : Sizes). (p l k : ℕ) → p < y.pages → l < 64 → k < 8 → line_word y (frame_of (page_frames (word img)) y u.table p l) l + k ≡ a → ⊥) same s.uncommitted p l k lp ll lk
      (ap (λ (f : ℕ). line_word z f l + k) (one-frame p l lp) ∙ e)))
      M.harmless
