-- The last store of a consolidation, to head: the freeing record joins the live ones, and the page's lines are found through its page word,
-- in the frame that the other lines were copied to.
use Prim.Native.Nat.{ℕ, ◌+◌, ◌*◌, ◌<◌, ◌≤◌}
use mathlib.Core.Bool.{true}
use mathlib.Core.List.{List}
use mathlib.Core.Logic.{◌⊎◌, ⊎_elim, inl, inr}
use mathlib.Core.Path.{◌≡◌, refl, sym, ap, ap₂, ◌∙◌, subst}
use native.Mathlib.Omega.{arith}
use lib.Dec.{eqb}
use lib.ListN.{length, get_or, length-set}
use lib.Seq.{get_or-set_same, get_or-set_other}
use borrow.Author.Tests.{lt-ltb, eqb-true, eqb-false}
use Rattle.bounded.specs.Count.{Once}
use Rattle.bounded.proofs.Tests.{case_on}
use Rattle.layout.specs.declared.Sizes.{Sizes}
use Rattle.layout.specs.Layout.{frames, head_word, page_word, record_word, image_length}
use Rattle.image.specs.Lines.{line_bytes}
use Rattle.words.specs.Words.{word, store}
use Rattle.image.proofs.LineLaws.{line-ext}
use Rattle.words.proofs.WordLaws.{length-store, bytes-store, drop-store}
use Rattle.journal.specs.declared.Slot.{Slot}
use Rattle.journal.specs.declared.Record.{Record}
use Rattle.replay.specs.declared.Table.{Table}
use Rattle.journal.specs.Slots.{no_page, free_slot}
use Rattle.journal.specs.Records.{position, word_of_record}
use Rattle.replay.specs.Table.{slot_in, last_in, replay, slot_of, home_of, frame_names}
use Rattle.replay.specs.Map.{page_frames}
use Rattle.mount.proofs.Append.{Appendable, Landed, appended, append-view, append-taken}
use Rattle.journal.proofs.Ring.{pos-none}
use Rattle.journal.proofs.RightRecords.{right-all}
use Rattle.journal.proofs.SlotWords.{free-shaped}
use Rattle.replay.proofs.Tables.{Sixteen}
use Rattle.mount.proofs.Verdict.{Taken}
use Rattle.mount.proofs.View.{Shows}
use Rattle.state.specs.State.{State, own_frame}
use Rattle.state.specs.declared.Op.TheVariants.{Consolidate}
use Rattle.operations.specs.Operations.{slot_for, copy_count}
use Rattle.validity.specs.Validity.{state_ok}
use Rattle.refinement.specs.Frames.{page_slot, committed_frame}
use Rattle.refinement.specs.Consolidate.{is_few, copy_to, copy_from, copy_store_count, freeing_record, consolidate_at, consolidate_value, consolidate_table}
use Rattle.refinement.specs.Stores.{completed}
use Rattle.refinement.specs.Recall.{frame_of}
use Rattle.refinement.specs.Reference.{Reference, idle, with_work, recall_line}
use Rattle.refinement.proofs.Invariant.{TakenOnly, Durable}
use Rattle.refinement.proofs.Copies.{mount-apart, mount-once, durable-fits, names_same}
use Rattle.refinement.proofs.NamesOnce.{name-spare, name-home}
use Rattle.refinement.proofs.ConsolidateStores.{line_of, copied-line, line-goes, freeing-slot, freeing-now, freeing-first, at-line, at-page, at-freeing, value_line, value-page, value-freeing}
use Rattle.refinement.proofs.ConsolidateSlot.{Freed}
use Rattle.refinement.proofs.FreeNames.{Frees, freed-sixteen, freed-slot, kept_slot, slot_kept, home-gone, home-other, frame-gone, frame-other, freed-once, freed-shapes, freed-apart}
use Rattle.refinement.proofs.HeaderStore.{header-fits, header-page, header-copy, header-home}
use Rattle.refinement.proofs.PageSlots.{slot_is, slot-first}
use Rattle.refinement.proofs.Valid.{good}

-- ---- the freed slot, in the state's table and in the one that a mount finds

frees : (st : State) (p : ℕ) → Freed st p → (d : Table) → Sixteen d → ((k : ℕ) → k < st.sizes.slots → (slot_in d k).page ≡ p → k ≡ slot_for st p)
    → ((slot_in d (slot_for st p)).page ≡ p) ⊎ ((slot_in d (slot_for st p)).page ≡ no_page)
    → Frees st.sizes st.head (freeing_record st p) d (slot_for st p) p (copy_from (page_slot st p))
frees st p F d full only no_other =
    record {
      is-slot = freeing-slot st p;
      is_free = freeing-now st p;
      legal = F.ranges.legal;
      sixteen = full;
      slot-low = F.slot-low;
      page-low = F.page-low;
      only = only;
      no_other = no_other;
    }

pub frees-state : (st : State) (p : ℕ) → state_ok st ≡ true → Sixteen st.table → Freed st p → Frees st.sizes st.head (freeing_record st p) st.table (slot_for st p) p (copy_from (page_slot st p))
frees-state st p valid full F =
    frees st p F st.table full (λ k l e. sym (slot_is st.sizes st.table F.ranges.legal (good st valid).pages p k F.page-low l e)) (inl F.page-is)

module _ (past : List ℕ) (st : State) (img : List ℕ) (b : Reference) (valid : state_ok st ≡ true) (D : Durable past st img b) (p : ℕ) (F : Freed st p) where
  abbrev z : Sizes
  z = st.sizes

  abbrev t : Slot
  t = page_slot st p

  abbrev s : ℕ
  s = slot_for st p

  abbrev d : Table
  d = D.view.table

  pub frees-mounted : Sixteen d → Frees z st.head (freeing_record st p) d s p (copy_from t)
  frees-mounted full =
      frees st p F d full
      (λ k l e.
      ⊎_elim
      (λ (q : slot_in st.table s ≡ slot_in d s).
      sym (slot_is z d F.ranges.legal (mount-apart st img valid D) p k F.page-low l e)
      ∙ slot_is z d F.ranges.legal (mount-apart st img valid D) p s F.page-low F.slot-low (sym (ap (λ (v : Slot). v.page) q) ∙ F.page-is))
      (λ (q : TakenOnly (page_frames (word img)) z d st.table s).
      let u : slot_of z d p ≡ z.slots = ap (slot_of z d) (sym F.page-is) ∙ q.unslotted in
      absurd (omega (arith, slot-first z d p k l e)))
      (D.behind.slot_same s F.slot-low))
      (⊎_elim
      (λ (q : slot_in st.table s ≡ slot_in d s). inl (sym (ap (λ (v : Slot). v.page) q) ∙ F.page-is))
      (λ (q : TakenOnly (page_frames (word img)) z d st.table s). inr (ap (λ (v : Slot). v.page) q.was_free))
      (D.behind.slot_same s F.slot-low))

  -- ---- with the stores before it landed

  module _ (landed : (j : ℕ) → j < copy_store_count t + 5 → word img (consolidate_at st p j) ≡ consolidate_value st img p j) where
    pub page-landed : word img (page_word p) ≡ copy_to t
    page-landed = ap (word img) (sym (at-page st p)) ∙ landed (copy_store_count t) (omega arith) ∙ value-page st p img

    record-landed : (k : ℕ) → k < 4 → word img (record_word z st.head + k) ≡ word_of_record (freeing_record st p 0) k
    record-landed k l =
        ap (word img) (sym (at-freeing st p k l)) ∙ landed (copy_store_count t + 1 + k) (omega arith) ∙ value-freeing st p img k l

    -- the copy of a line in the frame that the lines go to is the committed one
    line-landed : (l : ℕ) → l < 64 → line_bytes img z (copy_to t) l ≡ line_bytes img z (committed_frame t l) l
    line-landed l low =
        ⊎_elim
        (λ (x : (j : ℕ) × (j < copy_count t.bitmap) × (line_of t j ≡ l)).
        let j : ℕ = x.0 in
        let h : j < copy_count t.bitmap = x.1 in
        let c = copied-line t j h in
        let e : line_bytes img z (copy_to t) (line_of t j) ≡ line_bytes img z (copy_from t) (line_of t j) =
        line-ext img img z (copy_to t) (line_of t j) (copy_from t) (line_of t j) D.bytes D.bytes F.to_low c.low F.from_low c.low
        (durable-fits past st img b D) (durable-fits past st img b D)
        (λ k m. ap (word img) (sym (at-line st p j k h m)) ∙ landed (8 * j + k) (omega arith) ∙ value_line st p img j k h m) in
        let e' : line_bytes img z (copy_to t) (line_of t j) ≡ line_bytes img z (committed_frame t (line_of t j)) (line_of t j) = e ∙ ap (λ (f : ℕ). line_bytes img z f (line_of t j)) (sym c.from) in
        subst (λ (m : ℕ). line_bytes img z (copy_to t) m ≡ line_bytes img z (committed_frame t m) m) x.2 e')
        (λ (e : committed_frame t l ≡ copy_to t). ap (λ (f : ℕ). line_bytes img z f l) (sym e))
        (line-goes t l low)

    -- ---- what a mount finds then

    abbrev new : ℕ → Record
    new = freeing_record st p

    module _ (full : Sixteen d) where
      S : Frees z st.head new st.table s p (copy_from t)
      S = frees-state st p valid D.behind.sixteen F

      M : Frees z st.head new d s p (copy_from t)
      M = frees-mounted full

      can-append : Appendable D.view 1 new
      can-append =
          record {
            legal = D.mounts.legal;
            positions = D.mounts.positions;
            room = rw (D.sizes-same, D.head-same, D.tail-same) F.room;
            right =
                right-all D.view.sizes D.view.head new 1 (λ i l.
                let e : i ≡ 0 = omega arith in
                rw e
                (record {
                  slot-low = rw (freeing-slot st p, D.sizes-same) F.slot-low;
                  first = inl (freeing-first st p ∙ sym (pos-none D.view.sizes D.view.head D.mounts.positions.head-low ∙ D.head-same));
                  shape = rw (freeing-now st p) (free-shaped D.view.sizes (free_slot (copy_from t)) (record { page-none = refl; original-none = refl; bitmap-none = refl; spare_low = rw D.sizes-same F.from_low }));
                }));
          }

      has-landed : Landed (word img) D.view.sizes D.view.head 1 new
      has-landed j k l m =
          let e : j ≡ 0 = omega arith in
          let q : position D.view.sizes D.view.head 0 ≡ st.head = pos-none D.view.sizes D.view.head D.mounts.positions.head-low ∙ D.head-same in
          rw (e, q, D.sizes-same) (record-landed k m)

      -- the two names stay or change places
      roles : ((copy_from t ≡ (slot_in d s).spare) × (word img (page_word p) ≡ home_of (page_frames (word img)) z d p)) ⊎ ((copy_from t ≡ home_of (page_frames (word img)) z d p) × (word img (page_word p) ≡ (slot_in d s).spare))
      roles =
          let a : t.spare ≡ (slot_in d s).spare = sym (name-spare (page_frames (word img)) z st.table s F.slot-low) ∙ ap (λ (l : List ℕ). get_or l s 0) (names_same st img valid D) ∙ name-spare (page_frames (word img)) z d s F.slot-low in
          let h : home_of (page_frames (word img)) z st.table p ≡ t.original = rw (lt-ltb s z.slots F.slot-low) in
          let c : t.original ≡ home_of (page_frames (word img)) z d p = sym h ∙ sym (name-home (page_frames (word img)) z st.table p F.page-low) ∙ ap (λ (l : List ℕ). get_or l (z.slots + p) 0) (names_same st img valid D) ∙ name-home (page_frames (word img)) z d p F.page-low in
          case_on (is_few t)
          (λ f.
          let x : copy_to t ≡ t.original = rw f in
          let y : copy_from t ≡ t.spare = rw f in
          inl (y ∙ a, page-landed ∙ x ∙ c))
          (λ f.
          let x : copy_to t ≡ t.spare = rw f in
          let y : copy_from t ≡ t.original = rw f in
          inr (y ∙ c, page-landed ∙ x ∙ a))

      names-after : Once (frames z) (frame_names (page_frames (word img)) z (replay z st.head 1 new d))
      names-after = freed-once M (page_frames (word img)) (mount-once st img valid D) roles

      still-taken : Taken (length img) (appended (word img) D.view 1 new)
      unfolding frame_names
      still-taken =
          append-taken img D.view D.shows 1 new can-append D.mounts
          (rw (D.sizes-same, D.head-same) (freed-shapes M F.from_low (rw D.sizes-same at D.mounts.shapes)))
          (rw (D.sizes-same, D.head-same) (freed-apart M (mount-apart st img valid D)))
          (rw (D.sizes-same, D.head-same) names-after)

      -- ---- and the state with it

      abbrev after : List ℕ
      after = store img head_word (position z st.head 1)

      pub freed-shows : Shows after (appended (word img) D.view 1 new)
      freed-shows =
          let x : after ≡ store img head_word (position D.view.sizes D.view.head 1) = rw (D.sizes-same, D.head-same) in
          subst (λ (i : List ℕ). Shows i (appended (word img) D.view 1 new)) (sym x) (append-view img D.view D.shows 1 new can-append (omega (arith, D.mounts.fits)) has-landed)

      abbrev table : Table
      table = consolidate_table st p

      whole : image_length z ≤ length img
      whole = durable-fits past st img b D

      slot-behind : (k : ℕ) → k < z.slots → (slot_in table k ≡ slot_in (replay z st.head 1 new d) k) ⊎ TakenOnly (page_frames (word after)) z (replay z st.head 1 new d) table k
      slot-behind k l =
          let d' : Table = replay z st.head 1 new d in
          case_on (eqb k s)
          (λ e.
          let w : k ≡ s = eqb-true k s e in
          inl (rw w ((freed-slot S).slot ∙ sym (freed-slot M).slot)))
          (λ e.
          let n : k ≡ s → ⊥ = eqb-false k s e in
          let x : slot_in table k ≡ slot_in st.table k = (kept_slot S k n).slot in
          let y : slot_in d' k ≡ slot_in d k = (kept_slot M k n).slot in
          ⊎_elim
          (λ (q : slot_in st.table k ≡ slot_in d k). inl (x ∙ q ∙ sym y))
          (λ (q : TakenOnly (page_frames (word img)) z d st.table k).
          let pg : (slot_in table k).page ≡ (slot_in st.table k).page = ap (λ (u : Slot). u.page) x in
          let ne : (slot_in st.table k).page ≡ p → ⊥ = λ h. n (S.only k l h) in
          inr (record {
            page-low = rw pg q.page-low;
            original = ap (λ (u : Slot). u.original) x ∙ q.original ∙ sym (header-page img z head_word (position z st.head 1) (omega arith) whole (slot_in st.table k).page) ∙ ap (λ (u : Slot). word after (page_word u.page)) (sym x);
            bitmap = ap (λ (u : Slot). u.bitmap) x ∙ q.bitmap;
            was_free = y ∙ q.was_free ∙ ap (λ (u : Slot). free_slot u.spare) (sym x);
            unslotted = ap (slot_of z d') pg ∙ slot_kept M (slot_in st.table k).page q.page-low ne ∙ q.unslotted;
          }))
          (D.behind.slot_same k l))

      last-behind : (k : ℕ) → k < z.slots → last_in table k ≡ last_in (replay z st.head 1 new d) k
      last-behind k l =
          case_on (eqb k s)
          (λ e.
          let w : k ≡ s = eqb-true k s e in
          rw w ((freed-slot S).last ∙ sym (freed-slot M).last))
          (λ e.
          let n : k ≡ s → ⊥ = eqb-false k s e in
          (kept_slot S k n).last
          ∙ D.behind.last-same k l
          ∙ sym (kept_slot M k n).last)

      -- the committed copy of every line is where it was, or was copied
      copy-after : (q l : ℕ) → q < z.pages → l < 64 → line_bytes after z (frame_of (page_frames (word after)) z table q l) l ≡ recall_line b q l
      copy-after q l low line =
          header-copy img z head_word (position z st.head 1) (omega arith) whole table q l
          ∙ case_on (eqb q p)
          (λ e.
          let w : q ≡ p = eqb-true q p e in
          let f : frame_of (page_frames (word img)) z table p l ≡ copy_to t = frame-gone S (page_frames (word img)) l ∙ page-landed in
          let g : frame_of (page_frames (word img)) z st.table p l ≡ committed_frame t l = rw (lt-ltb s z.slots F.slot-low) in
          rw w
          (ap (λ (x : ℕ). line_bytes img z x l) f
          ∙ line-landed l line
          ∙ ap (λ (x : ℕ). line_bytes img z x l) (sym g)
          ∙ D.committed p l F.page-low line))
          (λ e.
          ap (λ (x : ℕ). line_bytes img z x l) (frame-other S (page_frames (word img)) q l low (eqb-false q p e))
          ∙ D.committed q l low line)

      -- the page's entry is the frame that the lines went to, which is its page word then; any other's stays
      own-after : (q : ℕ) → q < z.pages → own_frame (completed st (Consolidate p)) q ≡ home_of (page_frames (word after)) z table q
      own-after q low =
          case_on (eqb q p)
          (λ e.
          ap (own_frame (completed st (Consolidate p))) (eqb-true q p e)
          ∙ get_or-set_same st.map p (copy_to t) 0 (omega (arith, D.map-long, F.page-low, F.ranges.legal.pages-high))
          ∙ sym (ap (home_of (page_frames (word after)) z table) (eqb-true q p e)
          ∙ header-home img z head_word (position z st.head 1) (omega arith) whole table p
          ∙ home-gone S (page_frames (word img))
          ∙ page-landed))
          (λ e.
          get_or-set_other st.map p q (copy_to t) 0 (eqb-false q p e)
          ∙ D.own q low
          ∙ sym (header-home img z head_word (position z st.head 1) (omega arith) whole table q ∙ home-other S (page_frames (word img)) q low (eqb-false q p e)))

      pub consolidated-durable : Durable past (completed st (Consolidate p)) after (with_work idle b)
      consolidated-durable =
          let fits : 8 * head_word + 8 ≤ length img = header-fits img z head_word (position z st.head 1) (omega arith) whole in
          record {
            bytes = bytes-store img head_word (position z st.head 1) D.bytes;
            past-kept = drop-store img head_word (position z st.head 1) (image_length z) fits (omega arith) ∙ D.past-kept;
            view = appended (word img) D.view 1 new;
            shows = freed-shows;
            mounts = subst (λ (n : ℕ). Taken n (appended (word img) D.view 1 new)) (sym (length-store img head_word (position z st.head 1) fits)) still-taken;
            sizes-same = D.sizes-same;
            head-same = ap₂ (λ (y : Sizes) (h : ℕ). position y h 1) D.sizes-same D.head-same;
            tail-same = D.tail-same;
            count_same = D.count_same;
            behind = rw (D.sizes-same, D.head-same) (record { sixteen = freed-sixteen S; last-same = last-behind; slot_same = slot-behind });
            map-long = length-set st.map p (copy_to t) ∙ D.map-long;
            own = own-after;
            committed = copy-after;
          }
