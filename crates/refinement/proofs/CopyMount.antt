-- A mount while a wide commit copies its lines finds the state's entries, and shows their lines.
use Prim.Native.Nat.{ℕ, ◌<◌}
use mathlib.Core.List.{List}
use mathlib.Core.Path.{◌≡◌, sym, ap₂, ◌∙◌, subst}
use lib.ListN.{get_or}
use Rattle.layout.specs.declared.Sizes.{Sizes}
use Rattle.replay.specs.Map.{page_frames}
use Rattle.words.specs.Words.{word}
use Rattle.image.specs.Lines.{line_bytes}
use Rattle.refinement.specs.Frames.{frame_of}
use Rattle.entries.specs.Entries.{key_of, key_page, key_line, entry_of}
use Rattle.mount.proofs.View.{View}
use Rattle.state.specs.State.{State}
use Rattle.refinement.specs.Run.{mount}
use Rattle.refinement.specs.Reference.{Reference, recall_line}
use Rattle.refinement.specs.Wide.{entry_bytes, shown_line}
use Rattle.refinement.proofs.Invariant.{Durable}
use Rattle.refinement.proofs.MountCall.{mounted-committed}
use Rattle.refinement.proofs.Keys.{view-keys}
use Rattle.refinement.proofs.Copying.{shown_of, in_place, Copying}

module _ {past : List ℕ} (st : State) (img : List ℕ) (b : Reference) (C : Copying past st img b) where
  abbrev D : Durable past st img (in_place st img b)
  D = C.durable

  abbrev v : View
  v = D.view

  pub keys-same : v.keys ≡ st.wide.keys
  keys-same = view-keys img v D.shows st.sizes st.wide.count D.sizes-same D.count_same ∙ sym C.keys

  -- what the state's fields say, of the view's
  abbrev Entry : Sizes → ℕ → List ℕ → Type 0
  Entry z n keys = (e : ℕ) → e < n → entry_bytes img z e ≡ recall_line b (key_page (get_or keys e 0)) (key_line (get_or keys e 0))

  entry : Entry v.sizes v.count v.keys
  entry =
      subst (λ (z : Sizes). Entry z v.count v.keys) (sym D.sizes-same)
      (subst (λ (n : ℕ). Entry st.sizes n v.keys) (sym D.count_same) (subst (Entry st.sizes st.wide.count) (sym keys-same) C.entry))

  other : (p l : ℕ) → p < v.sizes.pages → l < 64 → entry_of v.keys v.count (key_of p l) ≡ v.count → line_bytes img v.sizes (frame_of (page_frames (word img)) v.sizes v.table p l) l ≡ recall_line b p l
  other p l lp ll bare =
      let low : p < st.sizes.pages = subst (λ (z : Sizes). p < z.pages) D.sizes-same lp in
      mounted-committed st img (in_place st img b) C.valid D p l lp ll
      ∙ sym (D.committed p l low ll)
      ∙ C.other p l low ll (ap₂ (λ (ks : List ℕ) (n : ℕ). entry_of ks n (key_of p l)) (sym keys-same) (sym D.count_same) ∙ bare ∙ D.count_same)

  -- the lines that a mount shows are the pages'
  pub view-shows : (p l : ℕ) → p < v.sizes.pages → l < 64 → shown_line img (page_frames (word img)) v.sizes v.table v.count v.keys p l ≡ recall_line b p l
  view-shows p l lp ll = shown_of img v.sizes v.table v.count v.keys b entry p l ll (other p l lp ll)
