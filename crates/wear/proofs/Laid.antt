-- Where a store goes and its number among its operation's tell the same: by operation.
use Rattle.std.proofs.Common.{◌≡◌, ℕ, ◌+◌, ◌-◌, ◌*◌, ◌/◌, ◌%◌, ◌<◌, ◌≤◌, Bool, true, false, cond, ◌&&◌, eqb, ltb, leb, ◌⊎◌, List, get_or, sym, refl, ap, ◌∙◌, ap₂, inl, inr, ⊎_elim, arith, ltb-false, ltb-true, le-ltb, lt-ltb, eqb-true, le-leb, leb-true}
use borrow.Author.Tests.{lt-leb, eqb-false}
use Rattle.bounded.proofs.Tests.{case_on}
use Rattle.layout.specs.declared.Sizes.{Sizes}
use Rattle.layout.specs.Layout.{Legal, slot_word, padding_word, frame_word, line_word, image_words}
use Rattle.placing.specs.Placing.{InJournal, InSlots}
use Rattle.wear.specs.declared.shares.Ends.{Ends}
use Rattle.wear.specs.Wear.{part_of, ends_copy, wear_of}
use Rattle.wear.specs.Shares.{part_at, copy_at, wear_at, Rising, format_ends, ends_at, frame_of}
use Rattle.wear.proofs.Counting.{at-header, at-tables, at-journal, at-padding, at-frames, at_words, at_records, at_last}

-- ---- the part of a word

module _ (z : Sizes) where
  word-header : (a : ℕ) → a < 8 → part_of z a ≡ 1
  unfolding part_of
  word-header a h = rw (lt-ltb a 8 h)

  word-tables : (a : ℕ) → 8 ≤ a → a < slot_word z z.slots → part_of z a ≡ 2
  unfolding part_of
  word-tables a l h = rw (le-ltb a 8 l, lt-ltb a (slot_word z z.slots) h)

  word-journal : (a : ℕ) → slot_word z z.slots ≤ a → a < padding_word z → part_of z a ≡ 3
  unfolding part_of
  word-journal a l h = rw (le-ltb a 8 (omega arith), le-ltb a (slot_word z z.slots) l, lt-ltb a (padding_word z) h)

  word-padding : (a : ℕ) → padding_word z ≤ a → a < frame_word z → part_of z a ≡ 4
  unfolding part_of
  word-padding a l h = rw (le-ltb a 8 (omega arith), le-ltb a (slot_word z z.slots) (omega arith), le-ltb a (padding_word z) l, lt-ltb a (frame_word z) h)

  word-frames : (a : ℕ) → frame_word z ≤ a → part_of z a ≡ 0
  unfolding part_of
  word-frames a l =
      rw (le-ltb a 8 (omega arith), le-ltb a (slot_word z z.slots) (omega arith), le-ltb a (padding_word z) (omega arith), le-ltb a (frame_word z) l)

-- ---- a store to word a that is number i

pub record Laid (z : Sizes) (e : Ends) (a i : ℕ) : Type 0 where
  pub part : part_of z a ≡ part_at e i
  pub copy : (f : ℕ) → ends_copy z f a ≡ copy_at e f i

pub laid-wear : (z : Sizes) (e : Ends) (a i : ℕ) → Laid z e a i → (w : Bool) (k : ℕ) → wear_of z w a k ≡ wear_at e w i k
unfolding wear_of wear_at
laid-wear z e a i h w k = rw (h.copy k, h.part)

module _ (z : Sizes) (e : Ends) (a i : ℕ) where
  no_copy : (e.padding ≤ i → i < e.frames → ⊥) → (f : ℕ) → copy_at e f i ≡ false
  unfolding copy_at
  no_copy out f =
      case_on (leb e.padding i)
      (λ t.
      case_on (ltb i e.frames)
      (λ u. absurd (out (leb-true e.padding i t) (ltb-true i e.frames u)))
      (λ u. rw (t, u)))
      (λ t. rw t)

  -- outside the frames
  laid-outside : a < frame_word z → (e.padding ≤ i → i < e.frames → ⊥) → part_of z a ≡ part_at e i → Laid z e a i
  unfolding ends_copy
  laid-outside low out h =
      record { part = h; copy = λ f. rw (lt-leb (frame_word z) a low) (sym (no_copy out f)) }

  -- and inside
  laid-inside : Rising e → frame_word z ≤ a → e.padding ≤ i → i < e.frames → (a - frame_word z) / 512 ≡ e.frame + (i - e.padding) / 512
      → (a - frame_word z) % 8 ≡ (i - e.padding) % 8 → Laid z e a i
  unfolding ends_copy copy_at
  laid-inside up low from to frame word =
      record {
        part = word-frames z a low ∙ sym (at-frames e up i from to);
        copy = λ f. rw (le-leb (frame_word z) a low, le-leb e.padding i from, lt-ltb i e.frames to, frame, word);
      }

-- ---- by operation

pub rising-at : (frame frames words records : ℕ) → frames ≤ words → words ≤ records → Rising (ends_at frame frames words records)
rising-at frame frames words records h l =
    record {
      tables = omega arith;
      journal = omega arith;
      padding = omega arith;
      frames = omega arith;
      words = h;
      records = l;
      low = omega arith;
    }

module _ (z : Sizes) (legal : Legal z) where
  -- the words of a line, from its first on
  in_frame : (f l j : ℕ) → j < 8 → (line_word z f l + j - frame_word z) / 512 ≡ frame_of z (line_word z f l)
  in_frame f l j h =
      let e : line_word z f l + j - frame_word z ≡ 512 * f + 8 * l + j = omega arith in
      let d : line_word z f l - frame_word z ≡ 512 * f + 8 * l = omega arith in
      rw (e, d) (omega arith)

  in-line : (f l j : ℕ) → j < 8 → (line_word z f l + j - frame_word z) % 8 ≡ j
  in-line f l j h =
      let e : line_word z f l + j - frame_word z ≡ 512 * f + 8 * l + j = omega arith in
      rw e (omega arith)

  pub write-laid : (f l i first : ℕ) → i < 8 → first ≡ line_word z f l → Laid z (ends_at (frame_of z first) 8 8 8) (line_word z f l + i) i
  write-laid f l i first h q =
      let e = ends_at (frame_of z first) 8 8 8 in
      let none : frame_of z first + (i - 0) / 512 ≡ frame_of z first = omega arith in
      laid-inside z e (line_word z f l + i) i (rising-at (frame_of z first) 8 8 8 (omega arith) (omega arith)) (omega arith) (omega arith) h
      (in_frame f l i h ∙ rw (none, q)) (in-line f l i h ∙ omega arith)

  -- a word of a record, of a slot, of the header
  abbrev Outside : Ends → ℕ → Type 0
  Outside e i = e.padding ≤ i → i < e.frames → ⊥

  journal-laid : (e : Ends) (a i : ℕ) → InJournal z a → Outside e i → part_at e i ≡ 3 → Laid z e a i
  journal-laid e a i h out q = laid-outside z e a i (omega (arith, h.below)) out (word-journal z a h.from h.below ∙ sym q)

  header-laid : (e : Ends) (a i : ℕ) → a < 8 → Outside e i → part_at e i ≡ 1 → Laid z e a i
  header-laid e a i h out q = laid-outside z e a i (omega arith) out (word-header z a h ∙ sym q)

  tables-laid : (e : Ends) (a i : ℕ) → 8 ≤ a → a < slot_word z z.slots → Outside e i → part_at e i ≡ 2 → Laid z e a i
  tables-laid e a i l h out q = laid-outside z e a i (omega arith) out (word-tables z a l h ∙ sym q)

  -- records, then a word of the header
  pub commit-laid : (frame m a i : ℕ) → i ≤ 4 * m → (i < 4 * m → InJournal z a) → (4 * m ≤ i → a < 8) → Laid z (ends_at frame 0 0 (4 * m + 1 - 1)) a i
  commit-laid frame m a i h records head =
      let e = ends_at frame 0 0 (4 * m + 1 - 1) in
      let up = rising-at frame 0 0 (4 * m + 1 - 1) (omega arith) (omega arith) in
      case_on (ltb i (4 * m))
      (λ t.
      let l = ltb-true i (4 * m) t in
      journal-laid e a i (records l) (λ p q. omega arith) (at_records e up i (omega arith) (omega arith)))
      (λ t.
      let l = ltb-false i (4 * m) t in
      header-laid e a i (head l) (λ p q. omega arith) (at_last e up i (omega arith)))

  -- slot words, then a word of the header
  pub checkpoint-laid : (frame m a i : ℕ) → i ≤ 3 * m → (i < 3 * m → InSlots z a) → (3 * m ≤ i → a < 8)
      → Laid z (ends_at frame 0 (3 * m + 1 - 1) (3 * m + 1 - 1)) a i
  checkpoint-laid frame m a i h slots tail =
      let e = ends_at frame 0 (3 * m + 1 - 1) (3 * m + 1 - 1) in
      let up = rising-at frame 0 (3 * m + 1 - 1) (3 * m + 1 - 1) (omega arith) (omega arith) in
      case_on (ltb i (3 * m))
      (λ t.
      let l = ltb-true i (3 * m) t in
      let s = slots l in
      tables-laid e a i (omega (arith, s.from)) s.below (λ p q. omega arith) (at_words e up i (omega arith) (omega arith)))
      (λ t.
      let l = ltb-false i (3 * m) t in
      header-laid e a i (tail l) (λ p q. omega arith) (at_last e up i (omega arith)))

  -- lines of one frame, the page's word, a record, a word of the header
  pub consolidate-laid : (c to first a i : ℕ) (line : ℕ → ℕ) → c ≤ 32 → i ≤ 8 * c + 5 → ((j : ℕ) → j < c → line j < 64)
      → (0 < c → first ≡ line_word z to (line 0))
      → (i < 8 * c → a ≡ line_word z to (line (i / 8)) + i % 8) → (i ≡ 8 * c → (8 ≤ a) × (a < slot_word z z.slots))
      → (8 * c < i → i < 8 * c + 5 → InJournal z a) → (8 * c + 5 ≤ i → a < 8)
      → Laid z (ends_at (frame_of z first) (8 * c + 6 - 6) (8 * c + 6 - 5) (8 * c + 6 - 1)) a i
  consolidate-laid c to first a i line few h low begins copies page freeing head =
      let e = ends_at (frame_of z first) (8 * c + 6 - 6) (8 * c + 6 - 5) (8 * c + 6 - 1) in
      let up = rising-at (frame_of z first) (8 * c + 6 - 6) (8 * c + 6 - 5) (8 * c + 6 - 1) (omega arith) (omega arith) in
      case_on (ltb i (8 * c))
      (λ t.
      let l = ltb-true i (8 * c) t in
      let q = copies l in
      let o = begins (omega arith) in
      let n = low (i / 8) (omega arith) in
      let n₀ = low 0 (omega arith) in
      let f : frame_of z first ≡ to =
      let d : line_word z to (line 0) - frame_word z ≡ 512 * to + 8 * line 0 = omega arith in
      rw (o, d) (omega (arith, n₀)) in
      let d : a - frame_word z ≡ 512 * to + 8 * line (i / 8) + i % 8 = omega (arith, q) in
      laid-inside z e a i up (omega (arith, q)) (omega arith) (omega arith) (rw (d, f) (omega (arith, n))) (rw d (omega arith)))
      (λ t.
      let l = ltb-false i (8 * c) t in
      case_on (eqb i (8 * c))
      (λ u.
      let q = eqb-true i (8 * c) u in
      let s = page q in
      tables-laid e a i s.0 s.1 (λ x y. omega arith) (at_words e up i (omega arith) (omega arith)))
      (λ u.
      let q = eqb-false i (8 * c) u in
      case_on (ltb i (8 * c + 5))
      (λ v.
      let k = ltb-true i (8 * c + 5) v in
      journal-laid e a i (freeing (omega arith) k) (λ x y. omega arith) (at_records e up i (omega arith) (omega arith)))
      (λ v.
      let k = ltb-false i (8 * c + 5) v in
      header-laid e a i (head k) (λ x y. omega arith) (at_last e up i (omega arith)))))

  -- a format's: from store 8 on a store's number is its word's
  pub rising-format : Rising (format_ends z)
  rising-format =
      record {
        tables = omega arith;
        journal = omega arith;
        padding = omega arith;
        frames = omega arith;
        words = omega arith;
        records = omega arith;
        low = omega (arith, legal);
      }

  pub format-laid : (a i : ℕ) → i ≤ image_words z → (i < 8 → a < 8) → (8 ≤ i → i < image_words z → a ≡ i) → (i ≡ image_words z → a < 8) → Laid z (format_ends z) a i
  format-laid a i h first rising last =
      let e = format_ends z in
      let up = rising-format in
      case_on (ltb i 8)
      (λ t. let l = ltb-true i 8 t in header-laid e a i (first l) (λ x y. omega arith) (at-header e up i l))
      (λ t.
      let l = ltb-false i 8 t in
      case_on (eqb i (image_words z))
      (λ u. let q = eqb-true i (image_words z) u in header-laid e a i (last q) (λ x y. omega arith) (at_last e up i (omega arith)))
      (λ u.
      let q = eqb-false i (image_words z) u in
      let w : a ≡ i = rising l (omega arith) in
      rw w
      (case_on (ltb i (slot_word z z.slots))
      (λ v. let k = ltb-true i (slot_word z z.slots) v in tables-laid e i i l k (λ x y. omega arith) (at-tables e up i l k))
      (λ v.
      let k = ltb-false i (slot_word z z.slots) v in
      case_on (ltb i (padding_word z))
      (λ v'.
      let k' = ltb-true i (padding_word z) v' in
      journal-laid e i i (record { from = k; below = k' }) (λ x y. omega arith) (at-journal e up i k k'))
      (λ v'.
      let k' = ltb-false i (padding_word z) v' in
      case_on (ltb i (frame_word z))
      (λ v''.
      let k'' = ltb-true i (frame_word z) v'' in
      laid-outside z e i i k'' (λ x y. omega arith) (word-padding z i k' k'' ∙ sym (at-padding e up i k' k'')))
      (λ v''.
      let k'' = ltb-false i (frame_word z) v'' in
      laid-inside z e i i up k'' k'' (omega arith) (omega arith) refl))))))
