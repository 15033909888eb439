-- A store that changes nothing, or goes to a word that is left over: a word that a mount does not read, of no entry counted and of no committed copy. Such is
-- each store that demand 3's proof has go aside (`Mid`).
use Prim.Native.Nat.{ℕ, ◌+◌, ◌*◌, ◌<◌, ◌≤◌}
use mathlib.Core.Bool.{true}
use mathlib.Core.List.{List}
use mathlib.Core.Logic.{◌⊎◌, ⊎_elim, inl, inr}
use mathlib.Core.Path.{◌≡◌, refl, sym, ap, ◌∙◌, subst}
use native.Mathlib.Omega.{arith}
use lib.ListN.{length, get_or}
use Rattle.layout.specs.declared.Sizes.{Sizes}
use Rattle.replay.specs.Map.{page_frames}
use Rattle.layout.specs.Layout.{line_word, entry_word, image_words, image_length}
use Rattle.words.specs.Words.{word, store}
use Rattle.mount.proofs.View.{View, journal, slot, page}
use Rattle.mount.proofs.Verdict.{Taken, map_in, entry-shown}
use Rattle.mount.proofs.Dead.{Dead}
use Rattle.state.specs.State.{State, Wide}
use Rattle.state.specs.declared.Pending.{Pending}
use Rattle.state.specs.declared.Op.{Op}
use Rattle.validity.specs.Validity.{state_ok}
use Rattle.refinement.specs.Stores.{store_at, store_value, store_made}
use Rattle.refinement.specs.Calls.{world_of}
use Rattle.refinement.specs.Recall.{frame_of}
use Rattle.refinement.specs.Reference.{Reference}
use Rattle.refinement.proofs.Copies.{durable-legal, mount-apart, frame-kept}
use Rattle.refinement.proofs.Invariant.{Durable}
use Rattle.refinement.proofs.Valid.{good}
use Rattle.refinement.proofs.Stepping.{Aside, Mid}
use Rattle.refinement.proofs.StoreKept.{Uncommitted, store-none}
use Rattle.leftovers.specs.Leftovers.{Leftover, Needed, header, live-record, slot-table, page-table, counted-entry, committed-copy}
use Rattle.leftovers.proofs.AfterMount.{found_state, Found}
use Rattle.leftovers.proofs.EveryWord.{told}
use Rattle.refinement.proofs.OwnFrames.{frame_is}

-- the pages' own frames by the map that a mount finds
abbrev pub found : View → ℕ → ℕ
found view p = get_or (map_in view) p 0

-- word a is left over of whatever a mount that finds this view returns
abbrev pub LeftIn : View → List ℕ → ℕ → Type 0
LeftIn view img a = (d : Wide) (p : Pending) → Found view d p → Leftover (world_of (found_state view d p) img) a

-- one image comes of another by a store that changes nothing, or by one to a word that is left over
abbrev pub Harmless : View → List ℕ → List ℕ → Type 0
Harmless view img image = (image ≡ img) ⊎ ((a : ℕ) × (x : ℕ) × (image ≡ store img a x) × LeftIn view img a)

module _ (img : List ℕ) (view : View) (taken : Taken (length img) view) (a : ℕ) (inside : a < image_words view.sizes) (past : 8 ≤ a) (dead : Dead view a)
    (unlisted : (e k : ℕ) → e < view.count → k < 9 → a ≡ entry_word view.sizes e + k → ⊥)
    (uncopied : (p l k : ℕ) → p < view.sizes.pages → l < 64 → k < 8 → a ≡ line_word view.sizes (frame_of (found view) view.sizes view.table p l) l + k → ⊥) where
  unneeded : (d : Wide) (w : Pending) → Found view d w → Needed (world_of (found_state view d w) img) a → ⊥
  unneeded d w F (header h) = omega arith
  unneeded d w F (live-record i k h m e) = dead (journal i k h m e)
  unneeded d w F (slot-table s k h m q e) = dead (slot s k h q m e)
  unneeded d w F (page-table p h q e) = dead (page p h q e)
  unneeded d w F (counted-entry e k h m q) = unlisted e k (omega (arith, h, F.count)) m q
  unneeded d w F (committed-copy p l k lp ll lk bare e) = uncopied p l k lp ll lk e

  pub left_in : LeftIn view img a
  left_in d w F = ⊎_elim (λ x. x) (λ n. absurd (unneeded d w F n)) (told (world_of (found_state view d w) img) taken.legal a inside)

-- ---- a store that goes aside

module _ (past : List ℕ) (st : State) (img : List ℕ) (b : Reference) (ok : state_ok st ≡ true) (D : Durable past st img b) (none : D.view.count ≡ 0) where
  abbrev view : View
  view = D.view

  -- the committed copies by the slots that a mount finds are those by the state's
  copies : (a : ℕ) → Uncommitted past st img b D a → (z : Sizes) → z ≡ st.sizes → (p l k : ℕ) → p < z.pages → l < 64 → k < 8
      → a ≡ line_word z (frame_of (page_frames (word img)) z view.table p l) l + k → ⊥
  copies a free z same p l k lp ll lk e =
      let f : frame_of (page_frames (word img)) st.sizes st.table p l ≡ frame_of (page_frames (word img)) st.sizes view.table p l =
      frame-kept (page_frames (word img)) st.sizes view.table st.table (durable-legal past st img b D) (mount-apart st img ok D) (good st ok).pages D.behind p l (subst (λ (y : Sizes). p < y.pages) same lp) in
      free p l k (subst (λ (y : Sizes). p < y.pages) same lp) ll lk
      (ap (λ (g : ℕ). line_word st.sizes g l + k) f ∙ sym (subst (λ (y : Sizes). a ≡ line_word y (frame_of (page_frames (word img)) y view.table p l) l + k) same e))

  pub aside-left : (a : ℕ) → 8 ≤ a → 8 * a + 8 ≤ image_length st.sizes → Dead view a → Uncommitted past st img b D a → LeftIn view img a
  aside-left a low inside dead free =
      left_in img view D.mounts a (subst (λ (y : Sizes). a < image_words y) (sym D.sizes-same) (omega (arith, inside))) low dead
      (λ e k h m q. omega (arith, h, none)) (λ p l k lp ll lk e.
      copies a free view.sizes D.sizes-same p l k lp ll lk
      (e ∙ ap (λ (f : ℕ). line_word view.sizes f l + k) (frame_is (found view) (page_frames (word img)) view.sizes view.table (entry-shown img view D.shows) p l lp)))

  pub mid-harmless : (op : Op) (m : ℕ) → Mid past st img b D op m → 8 ≤ store_at st op m → Harmless view img (store_made st img op m)
  mid-harmless op m M low =
      let a : ℕ = store_at st op m in
      let x : ℕ = store_value st img op m in
      ⊎_elim
      (λ e. inl (store-none past st img b D a x M.inside e))
      (λ (s : Aside past st img b D op a). inr (a, x, refl, aside-left a low M.inside s.dead s.uncommitted))
      M.harmless
