-- Demand 2: a mount finds the durable part of the state, and with it the committed lines.
use Prim.Native.Nat.{ℕ, ◌<◌}
use mathlib.Core.List.{List}
use mathlib.Core.Logic.{◌⊎◌, inl, inr, ⊎_elim}
use mathlib.Core.Path.{◌≡◌, refl, sym, ap, ◌∙◌, subst}
use lib.Dec.{eqb}
use borrow.Author.Tests.{eqb-true}
use Rattle.bounded.proofs.Tests.{case_on, row_keeps}
use Rattle.layout.specs.declared.Sizes.{Sizes}
use Rattle.entries.specs.Entries.{no_keys}
use Rattle.replay.specs.Table.{slot_in, last_in}
use Rattle.replay.specs.Map.{page_frames}
use Rattle.mount.proofs.Verdict.{found_in, map_in, entry-shown}
use Rattle.mount.proofs.View.{View}
use Rattle.state.specs.State.{State, own_frame}
use Rattle.refinement.specs.Mount.{mounted_state, copying_state}
use Rattle.refinement.specs.Stores.{World}
use Rattle.refinement.specs.Wide.{shown_line}
use Rattle.refinement.specs.Run.{Result, mount, exec}
use Rattle.refinement.specs.Beside.{line_of, Finds, Uncommitted, ReadsBack, MountReadsBack}
use Rattle.refinement.specs.Reference.{Reference, recall_line}
use Rattle.refinement.proofs.Cases.{standing-of}
use Rattle.refinement.proofs.MountCall.{mount-viewed}
use Rattle.refinement.proofs.Mounted.{state_of}
use Rattle.refinement.proofs.Reached.{Reached, always}
use Rattle.refinement.proofs.Viewed.{Viewed, shown-copy, shown-own}
use Rattle.refinement.proofs.OwnFrames.{frame_is}
use Rattle.words.specs.Words.{word}
use Rattle.image.specs.Lines.{line_bytes}
use lib.ListN.{get_or}

module _ {past : List ℕ} (v : World) (b : Reference) (seen : Viewed past v.st v.image b) where
  abbrev st : State
  st = v.st

  abbrev view : View
  view = seen.view

  -- what it finds: a quiet state, or one with a copying pending
  abbrev mounted : State
  mounted = mounted_state (found_in view)

  -- it is taken
  pub mount-taken : (exec mount v).number ≡ 0
  mount-taken = ap (λ (d : Result). d.number) (mount-viewed v view seen.shows seen.mounts)

  -- and gives what the image shows
  mount-state : (exec mount v).world.st ≡ mounted
  mount-state = ap (λ (d : Result). d.world.st) (mount-viewed v view seen.shows seen.mounts)

  -- the lines that the mounted state says are those that the image shows
  mounted-line : (p l : ℕ) → p < view.sizes.pages → line_of v.image mounted p l ≡ shown_line v.image (page_frames (word v.image)) view.sizes view.table view.count view.keys p l
  mounted-line p l low =
      let img = v.image in
      let z = view.sizes in
      let t = view.table in
      let h : ℕ → ℕ = λ q. get_or (map_in view) q 0 in
      let own = frame_is h (page_frames (word img)) z t (entry-shown img view seen.shows) p l low in
      case_on (eqb view.count 0)
      (λ e.
      rw e
      (shown-copy img h z t 0 no_keys p l refl
      ∙ ap (λ (f : ℕ). line_bytes img z f l) own
      ∙ sym (shown-copy img (page_frames (word img)) z t view.count view.keys p l (eqb-true view.count 0 e))))
      (λ e. rw e (shown-own img h (page_frames (word img)) z t view.count view.keys p l own))

  finds-page : (p l : ℕ) → p < st.sizes.pages → l < 64 → line_of v.image (exec mount v).world.st p l ≡ recall_line b p l
  finds-page p l lp ll =
      let low : p < view.sizes.pages = subst (λ (z : Sizes). p < z.pages) (sym seen.sizes-same) lp in
      ap (λ (m : State). line_of v.image m p l) mount-state
      ∙ mounted-line p l low
      ∙ seen.shown p l low ll

  -- either state has the view's durable part
  either : (P : State → Type 0) → P (state_of view) → P (copying_state view.sizes view.head view.tail view.table (map_in view) view.count view.keys) → P mounted
  either P quiet copying = row_keeps P (eqb view.count 0) _ _ quiet copying

  slot-back : (s : ℕ) → s < st.sizes.slots → (slot_in view.table s ≡ slot_in st.table s) ⊎ Uncommitted v.image st (state_of view) s
  slot-back s l =
      ⊎_elim
      (λ e. inl (sym e))
      (λ t. inr (record { page-low = t.page-low; original = t.original; bitmap = t.bitmap; free = t.was_free }))
      (seen.behind.slot_same s l)

  pub reads-back : ReadsBack v.image st (exec mount v).world.st
  reads-back =
      subst (ReadsBack v.image st) (sym mount-state)
      (record {
        sizes = either (λ m. m.sizes ≡ st.sizes) seen.sizes-same seen.sizes-same;
        head = either (λ m. m.head ≡ st.head) seen.head-same seen.head-same;
        tail = either (λ m. m.tail ≡ st.tail) seen.tail-same seen.tail-same;
        last = λ s l. let e = sym (seen.behind.last-same s l) in either (λ m. last_in m.table s ≡ last_in st.table s) e e;
        slot = λ s l. either (λ m. (slot_in m.table s ≡ slot_in st.table s) ⊎ Uncommitted v.image st m s) (slot-back s l) (other-state s (slot-back s l));
        map = λ p l. let e = seen.map p l in either (λ m. own_frame m p ≡ own_frame st p) e e;
        line = λ p l lp ll. sym (ap (λ (m : State). line_of v.image m p l) mount-state) ∙ finds-page p l lp ll ∙ sym (seen.own p l lp ll);
      })
    where
      other-state : (s : ℕ) → (slot_in view.table s ≡ slot_in st.table s) ⊎ Uncommitted v.image st (state_of view) s
          → (slot_in view.table s ≡ slot_in st.table s) ⊎ Uncommitted v.image st (copying_state view.sizes view.head view.tail view.table (map_in view) view.count view.keys) s
      other-state s (inl e) = inl e
      other-state s (inr u) = inr (record { page-low = u.page-low; original = u.original; bitmap = u.bitmap; free = u.free })

-- at any time a mount finds the reference machine's pages
pub reached-finds : {past : List ℕ} (z : Sizes) (v : World) (b : Reference) → Reached z past v b → Finds z v (recall_line b)
reached-finds z v b h =
    let seen = (standing-of v b h.related).viewed in
    record { taken = mount-taken v b seen; found = λ p l lp. finds-page v b seen p l (subst (λ (y : Sizes). p < y.pages) (sym h.sizes) lp) }

both : {past : List ℕ} (z : Sizes) (v : World) (b : Reference) → Reached z past v b → Finds z v (recall_line b) × ReadsBack v.image v.st (exec mount v).world.st
both z v b h = (reached-finds z v b h, reads-back v b (standing-of v b h.related).viewed)

pub mount-reads-back : MountReadsBack
mount-reads-back = always _ (λ z buffer v b h. both z v b h)
