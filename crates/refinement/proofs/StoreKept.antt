-- What a store of a word keeps: lines that do not have the word; and where it is a dead word that no copy of a line has, all that the image shows.
use Prim.Native.Nat.{ℕ, ◌+◌, ◌-◌, ◌*◌, ◌<◌, ◌≤◌}
use mathlib.Core.Bool.{true}
use mathlib.Core.List.{List}
use mathlib.Core.Logic.{◌⊎◌, ⊎_elim, inl, inr}
use mathlib.Core.Path.{◌≡◌, refl, sym, ap, ◌∙◌, subst}
use native.Mathlib.Omega.{arith}
use lib.Dec.{ltb}
use lib.ListN.{length}
use borrow.Author.Tests.{ltb-true, ltb-false}
use Rattle.bounded.proofs.Tests.{case_on}
use Rattle.layout.specs.declared.Sizes.{Sizes}
use Rattle.layout.specs.Layout.{Legal, image_length, page_word, line_word}
use Rattle.image.specs.Lines.{line_bytes}
use Rattle.words.specs.Words.{part, bytes_of, put_word, word, store}
use Rattle.words.proofs.Bytes.{length-bytes}
use Rattle.words.proofs.Parts.{part-over-other}
use Rattle.words.proofs.WordLaws.{word-store-other, length-store, bytes-store, drop-store}
use Rattle.replay.specs.declared.Table.{Table}
use Rattle.journal.specs.Slots.{no_page}
use Rattle.replay.specs.Table.{slot_in, slot_of, home_of}
use Rattle.replay.specs.Map.{page_frames}
use Rattle.mount.proofs.View.{Read, page, slot-none}
use Rattle.mount.proofs.Verdict.{Taken}
use Rattle.mount.proofs.Dead.{Dead, dead-view, store-old}
use Rattle.state.specs.State.{State}
use Rattle.operations.specs.Operations.{slot_for}
use Rattle.refinement.specs.Frames.{other_frame}
use Rattle.refinement.specs.Recall.{frame_of}
use Rattle.refinement.specs.Reference.{Reference, recall_line}
use Rattle.refinement.proofs.Copies.{durable-legal, durable-fits}
use Rattle.refinement.proofs.Invariant.{TakenOnly, Behind, Durable, holds, Writing}
use Rattle.refinement.proofs.PageSlots.{slotted-of, unslotted-of}
use Rattle.refinement.proofs.Records.{OffJournal, stored-kept}

-- ---- one store of a word

-- the 64 bytes from word c on, where the stored word is none of the eight
pub eight-kept : (img : List ℕ) (a w c : ℕ) → 8 * a + 8 ≤ length img → ((k : ℕ) → k < 8 → c + k ≡ a → ⊥) → part (store img a w) (8 * c) 64 ≡ part img (8 * c) 64
unfolding put_word
eight-kept img a w c fits apart =
    let e : length (bytes_of 8 w) ≡ 8 = length-bytes 8 w in
    let h : 8 * a + length (bytes_of 8 w) ≤ length img = omega arith in
    let sides : (8 * a + length (bytes_of 8 w) ≤ 8 * c) ⊎ (8 * c + 64 ≤ 8 * a) =
    case_on (ltb a c)
    (λ t. let m : a < c = ltb-true a c t in inl (omega arith))
    (λ t.
    let m : c ≤ a = ltb-false a c t in
    case_on (ltb a (c + 8))
    (λ u. let n : a < c + 8 = ltb-true a (c + 8) u in absurd (apart (a - c) (omega arith) (omega arith)))
    (λ u. let n : c + 8 ≤ a = ltb-false a (c + 8) u in inr (omega arith))) in
    part-over-other img (8 * a) (bytes_of 8 w) h (8 * c) 64 sides

-- a line that does not have the stored word
pub line_kept : (img : List ℕ) (a w : ℕ) (z : Sizes) (f l : ℕ) → 8 * a + 8 ≤ length img → ((k : ℕ) → k < 8 → line_word z f l + k ≡ a → ⊥)
    → line_bytes (store img a w) z f l ≡ line_bytes img z f l
line_kept img a w z f l fits apart = eight-kept img a w (line_word z f l) fits apart

-- ---- the words that the state's slots lean on

-- a page without a slot in the state has none in the image
pub unslotted-durable : (r : ℕ → ℕ) (z : Sizes) (d t : Table) → Legal z → Behind r z d t → (p : ℕ) → p < z.pages → slot_of z t p ≡ z.slots → slot_of z d p ≡ z.slots
unslotted-durable r z d t g h p low none =
    unslotted-of z d p (λ s l e.
    ⊎_elim
    (λ q. let m : slot_of z t p < z.slots = slotted-of z t p s l (ap (λ u. u.page) q ∙ e) in omega arith)
    (λ (q : TakenOnly r z d t s). let m : (slot_in d s).page ≡ no_page = ap (λ u. u.page) q.was_free in omega (arith, g.pages-high))
    (h.slot_same s l))

-- the homes, the frames of committed lines and the slots that were only taken, by the own frames of pages without a slot alone
module _ (r r' : ℕ → ℕ) (z : Sizes) (d t : Table) (g : Legal z) (h : Behind r z d t)
    (same : (p : ℕ) → p < z.pages → slot_of z d p ≡ z.slots → r' p ≡ r p) where
  pub behind-ext : Behind r' z d t
  behind-ext =
      record {
        sixteen = h.sixteen;
        last-same = h.last-same;
        slot_same =
            λ s l.
            ⊎_elim inl
            (λ (q : TakenOnly r z d t s).
            inr (record { page-low = q.page-low; original = q.original ∙ sym (same (slot_in t s).page q.page-low q.unslotted); bitmap = q.bitmap; was_free = q.was_free; unslotted = q.unslotted }))
            (h.slot_same s l);
      }

  pub home-ext : (p : ℕ) → p < z.pages → home_of r' z t p ≡ home_of r z t p
  home-ext p low =
      case_on (ltb (slot_of z t p) z.slots)
      (λ e. rw e)
      (λ e. rw e (same p low (unslotted-durable r z d t g h p low (slot-none z t p e))))

  pub frame-ext : (p l : ℕ) → p < z.pages → frame_of r' z t p l ≡ frame_of r z t p l
  frame-ext p l low =
      case_on (ltb (slot_of z t p) z.slots)
      (λ e. rw e)
      (λ e. rw e (same p low (unslotted-durable r z d t g h p low (slot-none z t p e))))

-- ---- the image after a store to a dead word

module _ (past : List ℕ) (st : State) (img : List ℕ) (b : Reference) (D : Durable past st img b) where
  -- mount reads the page word of a page without a slot
  pub page-read : (p : ℕ) → p < st.sizes.pages → slot_of st.sizes D.view.table p ≡ st.sizes.slots → Read D.view (page_word p)
  page-read p low none = page p (rw D.sizes-same low) (rw D.sizes-same none) refl

  -- word a is no word of a committed line
  abbrev pub Uncommitted : ℕ → Type 0
  Uncommitted a = (p l k : ℕ) → p < st.sizes.pages → l < 64 → k < 8 → line_word st.sizes (frame_of (page_frames (word img)) st.sizes st.table p l) l + k ≡ a → ⊥

  module _ (a w : ℕ) (inside : 8 * a + 8 ≤ image_length st.sizes) where
    pub store-fits : 8 * a + 8 ≤ length img
    store-fits = omega (arith, durable-fits past st img b D)

    -- page words of pages without a slot, committed frames and committed lines, where mount does not read a
    pub page-kept : Dead D.view a → (p : ℕ) → p < st.sizes.pages → slot_of st.sizes D.view.table p ≡ st.sizes.slots
        → word (store img a w) (page_word p) ≡ word img (page_word p)
    page-kept dead p low none =
        word-store-other img a w (page_word p) store-fits (λ e. dead (subst (Read D.view) (sym e) (page-read p low none)))

    -- the image after a store to a dead word, against a reference machine whose pages are what its committed copies hold
    pub durable-stored : (c : Reference) → Dead D.view a
        → ((p l : ℕ) → p < st.sizes.pages → l < 64 → line_bytes (store img a w) st.sizes (frame_of (page_frames (word img)) st.sizes st.table p l) l ≡ recall_line c p l)
        → Durable past st (store img a w) c
    durable-stored c dead lines =
        let z : Sizes = st.sizes in
        let same = page-kept dead in
        record {
          bytes = bytes-store img a w D.bytes;
          past-kept = drop-store img a w (image_length z) store-fits inside ∙ D.past-kept;
          view = D.view;
          shows = dead-view img D.view D.shows a w store-fits dead;
          mounts = subst (λ (n : ℕ). Taken n D.view) (sym (length-store img a w store-fits)) D.mounts;
          sizes-same = D.sizes-same;
          head-same = D.head-same;
          tail-same = D.tail-same;
          count_same = D.count_same;
          behind = behind-ext (page_frames (word img)) (page_frames (word (store img a w))) z D.view.table st.table (durable-legal past st img b D) D.behind same;
          map-long = D.map-long;
          own =
              λ p low.
              D.own p low
              ∙ sym (home-ext (page_frames (word img)) (page_frames (word (store img a w))) z D.view.table st.table (durable-legal past st img b D) D.behind same p low);
          committed =
              λ p l low line.
              ap (λ (f : ℕ). line_bytes (store img a w) z f l)
              (frame-ext (page_frames (word img)) (page_frames (word (store img a w))) z D.view.table st.table (durable-legal past st img b D) D.behind same p l low)
              ∙ lines p l low line;
        }

    pub durable-kept : Dead D.view a → Uncommitted a → Durable past st (store img a w) b
    durable-kept dead free =
        durable-stored b dead
        (λ p l low line.
        line_kept img a w st.sizes (frame_of (page_frames (word img)) st.sizes st.table p l) l store-fits (λ k m. free p l k low line m) ∙ D.committed p l low line)

    -- of the value that is there
    pub store-none : w ≡ word img a → store img a w ≡ img
    store-none e = store-old img a w D.bytes store-fits e

-- ---- the writers' copies

module _ (st : State) (img : List ℕ) (b : Reference) (Being : ℕ → ℕ → ℕ → Type 0) where
  -- word a is no word of a writer's own copy
  abbrev pub Unowned : ℕ → Type 0
  Unowned a =
      (v p l k : ℕ) → v < 4 → p < st.sizes.pages → l < 64 → k < 8 → (Being v p l → ⊥) → holds st v p l ≡ true
      → line_word st.sizes (other_frame (slot_in st.table (slot_for st p)) l) l + k ≡ a → ⊥

  -- nor one of the journal where a writer is prepared
  abbrev pub Off : ℕ → Type 0
  Off a = st.writers.prepared < 4 → OffJournal st.sizes a

  pub writing-kept : Legal st.sizes → (a w : ℕ) → 8 * a + 8 ≤ length img → Unowned a → Off a → Writing st img b Being → Writing st (store img a w) b Being
  writing-kept g a w fits free off W =
      record {
        four = W.four;
        sixty-four = W.sixty-four;
        held_low = W.held_low;
        own-copy =
            λ v p l lv lp ll out h.
            line_kept img a w st.sizes (other_frame (slot_in st.table (slot_for st p)) l) l fits (λ k m. free v p l k lv lp ll m out h)
            ∙ W.own-copy v p l lv lp ll out h;
        no_writes = W.no_writes;
        ready = λ p. stored-kept st.sizes st.head st.table st.writers.held img st.writers.prepared a w g fits (off p) (W.ready p);
      }
