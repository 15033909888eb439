-- The words of a fresh image: those that format writes, one after the other.
use Prim.Native.Nat.{ℕ, zero, suc, ◌+◌, ◌-◌, ◌*◌, ◌/◌, ◌%◌, ◌^◌, ◌≤◌, ◌<◌}
use mathlib.Core.Path.{◌≡◌, refl, sym, ap, ap₂, ◌∙◌}
use mathlib.Core.List.{List, [], ◌∷◌, ◌++◌}
use native.Mathlib.Omega.{arith}
use native.Mathlib.Nat.{zero-add}
use lib.Dec.{ltb, eqb}
use lib.ListN.{length, drop, get_or, replicate, length-append, length-replicate, get_or-append, get_or-eq_default}
use lib.Seq.{get_or-append-add}
use borrow.Author.Tests.{ltb-true, ltb-false}
use Rattle.bounded.specs.Tab.{tab}
use Rattle.bounded.proofs.Tests.{case_on}
use Rattle.bounded.proofs.Tab.{length-tab, get_or-tab}
use Rattle.layout.specs.declared.Sizes.{Sizes}
use Rattle.layout.specs.Layout.{Legal, page_word, slot_word, image_words, image_length}
use Rattle.words.specs.Words.{over, word_at, word, Bytes, bytes_of, flat}
use Rattle.words.proofs.Parts.{length_over, part-over, drop-over-past, bytes-over}
use Rattle.words.proofs.Bytes.{bytes-append, bytes-bytes_of}
use Rattle.words.proofs.WordLaws.{word-part}
use Rattle.words.proofs.Runs.{length-flat, words-flat, words-tab}
use Rattle.journal.specs.Slots.{free_slot, word_of_slot}
use Rattle.fresh.specs.Fresh.{fresh_header, fresh_pages, fresh_slot, fresh_words, formatted}
use Rattle.journal.proofs.SlotWords.{slot-word-lt}
use Rattle.replay.proofs.Tables.{one_value}

-- ---- words laid over the start of a list of bytes

-- every entry of l is a word
abbrev Low : List ℕ → Type 0
Low l = (i : ℕ) → get_or l i 0 < 2 ^ 64

low-append : (l m : List ℕ) → Low l → Low m → Low (l ++ m)
low-append [] m h k i = k i
low-append (x ∷ l) m h k zero = h 0
low-append (x ∷ l) m h k (suc i) = low-append l m (λ j. h (suc j)) k i

low-tab : (n : ℕ) (f : ℕ → ℕ) → ((i : ℕ) → i < n → f i < 2 ^ 64) → Low (tab n f)
low-tab n f h i =
    case_on (ltb i n)
    (λ t. rw (get_or-tab n f i 0 (ltb-true i n t)) (h i (ltb-true i n t)))
    (λ t. rw (get_or-eq_default (tab n f) 0 {n = i} (omega (arith, length-tab n f, ltb-false i n t))) (omega arith))

flat_word : (vs : List ℕ) (i : ℕ) → Low vs → i < length vs → word (flat vs) i ≡ get_or vs i 0
flat_word vs i h l =
    ap (word_at (flat vs)) (sym (zero-add (8 * i)))
    ∙ sym (get_or-tab (length vs) (λ k. word_at (flat vs) (0 + 8 * k)) i 0 l)
    ∙ ap (λ (t : List ℕ). get_or t i 0) (sym (words-tab (flat vs) 0 (length vs)) ∙ words-flat vs h)

over_word : (b vs : List ℕ) (i : ℕ) → Low vs → 8 * length vs ≤ length b → i < length vs → word (over b 0 (flat vs)) i ≡ get_or vs i 0
over_word b vs i h f l =
    let n : length (flat vs) ≡ 8 * length vs = length-flat vs in
    let g : 0 + length (flat vs) ≤ length b = omega arith in
    let k : length (over b 0 (flat vs)) ≡ length b = length_over b 0 (flat vs) g in
    ap (word_at (over b 0 (flat vs))) (sym (zero-add (8 * i)))
    ∙ sym (word-part (over b 0 (flat vs)) 0 (length (flat vs)) (8 * i) (omega arith) (omega arith))
    ∙ ap (λ (t : List ℕ). word_at t (8 * i)) (part-over b 0 (flat vs) g)
    ∙ flat_word vs i h l

bytes-flat : (vs : List ℕ) → Bytes (flat vs)
unfolding flat
bytes-flat [] i = omega arith
bytes-flat (v ∷ vs) i = bytes-append (bytes_of 8 v) (flat vs) (bytes-bytes_of 8 v) (bytes-flat vs) i

-- ---- the fresh words

-- past the header, past the page table, and past the slot table
abbrev zeros : Sizes → List ℕ
zeros z = replicate (image_words z - slot_word z z.slots) 0

abbrev from_slots : Sizes → List ℕ
from_slots z = tab (3 * z.slots) (fresh_slot z) ++ zeros z

abbrev from_pages : Sizes → List ℕ
from_pages z = fresh_pages z ++ from_slots z

module _ (z : Sizes) (legal : Legal z) where
  low-header : Low (fresh_header z)
  low-header zero = omega arith
  low-header (suc zero) = omega arith
  low-header (suc (suc zero)) = omega arith
  low-header (suc (suc (suc zero))) = case_on (eqb z.entries 0) (λ t. rw t (omega arith)) (λ t. rw t (omega arith))
  low-header (suc (suc (suc (suc zero)))) = omega arith
  low-header (suc (suc (suc (suc (suc zero))))) = omega arith
  low-header (suc (suc (suc (suc (suc (suc zero)))))) = omega arith
  low-header (suc (suc (suc (suc (suc (suc (suc zero))))))) = omega arith
  low-header (suc (suc (suc (suc (suc (suc (suc (suc i)))))))) = omega arith

  free-word-lt : (i : ℕ) → i < 3 * z.slots → fresh_slot z i < 2 ^ 64
  free-word-lt i l =
      slot-word-lt (free_slot (z.pages + i / 3)) (i % 3) (record { page = omega arith; original = omega arith; spare = omega arith }) (omega arith)

  zeros-low : Low (zeros z)
  zeros-low i = rw (one_value (image_words z - slot_word z z.slots) i 0) (omega arith)

  pub low-fresh : Low (fresh_words z)
  unfolding fresh_words
  low-fresh =
      low-append (fresh_header z) (from_pages z) low-header
      (low-append (fresh_pages z) (from_slots z) (low-tab z.pages (λ p. p) (λ p l. omega arith))
      (low-append (tab (3 * z.slots) (fresh_slot z)) (zeros z) (low-tab (3 * z.slots) (fresh_slot z) free-word-lt)
      zeros-low))

  pub length-fresh : length (fresh_words z) ≡ image_words z
  unfolding fresh_words
  length-fresh =
      simp (length-append, length-replicate) (omega (arith, length-tab z.pages (λ p. p), length-tab (3 * z.slots) (fresh_slot z)))

  -- its header, page table and slot table
  pub fresh-header : (i : ℕ) → i < 8 → get_or (fresh_words z) i 0 ≡ get_or (fresh_header z) i 0
  unfolding fresh_words
  fresh-header i l = get_or-append (fresh_header z) (from_pages z) 0 i l

  pub fresh-page : (p : ℕ) → p < z.pages → get_or (fresh_words z) (page_word p) 0 ≡ p
  unfolding fresh_words
  fresh-page p l =
      get_or-append-add (fresh_header z) (from_pages z) p 0
      ∙ get_or-append (fresh_pages z) (from_slots z) 0 p (omega (arith, length-tab z.pages (λ p. p)))
      ∙ get_or-tab z.pages (λ p. p) p 0 l

  past-pages : (j : ℕ) → get_or (fresh_words z) (8 + (z.pages + j)) 0 ≡ get_or (from_slots z) j 0
  unfolding fresh_words
  past-pages j =
      get_or-append-add (fresh_header z) (from_pages z) (z.pages + j) 0
      ∙ ap (λ (k : ℕ). get_or (from_pages z) (k + j) 0) (sym (length-tab z.pages (λ p. p)))
      ∙ get_or-append-add (fresh_pages z) (from_slots z) j 0

  pub fresh-slot : (i : ℕ) → i < 3 * z.slots → get_or (fresh_words z) (8 + (z.pages + i)) 0 ≡ fresh_slot z i
  fresh-slot i l =
      past-pages i
      ∙ get_or-append (tab (3 * z.slots) (fresh_slot z)) (zeros z) 0 i (omega (arith, length-tab (3 * z.slots) (fresh_slot z)))
      ∙ get_or-tab (3 * z.slots) (fresh_slot z) i 0 l

  pub fresh-zero : (i : ℕ) → get_or (fresh_words z) (8 + (z.pages + (3 * z.slots + i))) 0 ≡ 0
  fresh-zero i =
      past-pages (3 * z.slots + i)
      ∙ ap (λ (k : ℕ). get_or (from_slots z) (k + i) 0) (sym (length-tab (3 * z.slots) (fresh_slot z)))
      ∙ get_or-append-add (tab (3 * z.slots) (fresh_slot z)) (zeros z) i 0
      ∙ one_value (image_words z - slot_word z z.slots) i 0

  -- ---- the bytes lent, formatted

  module _ (b : List ℕ) (fits : image_length z ≤ length b) where
    flat-fits : 0 + length (flat (fresh_words z)) ≤ length b
    flat-fits = omega (arith, length-flat (fresh_words z), length-fresh)

    pub length-formatted : length (formatted z b) ≡ length b
    unfolding formatted
    length-formatted = length_over b 0 (flat (fresh_words z)) flat-fits

    pub bytes-formatted : Bytes b → Bytes (formatted z b)
    unfolding formatted
    bytes-formatted h = bytes-over b 0 (flat (fresh_words z)) h (bytes-flat (fresh_words z))

    -- bytes past the image are kept
    pub drop-formatted : (n : ℕ) → image_length z ≤ n → drop n (formatted z b) ≡ drop n b
    unfolding formatted
    drop-formatted n h = drop-over-past b 0 (flat (fresh_words z)) flat-fits n (omega (arith, length-flat (fresh_words z), length-fresh))

    formatted-word : (i : ℕ) → i < image_words z → word (formatted z b) i ≡ get_or (fresh_words z) i 0
    unfolding formatted
    formatted-word i l = over_word b (fresh_words z) i low-fresh (omega (arith, length-fresh)) (omega (arith, length-fresh))

    pub formatted-header : (i : ℕ) → i < 8 → word (formatted z b) i ≡ get_or (fresh_header z) i 0
    formatted-header i l = formatted-word i (omega arith) ∙ fresh-header i l

    pub formatted-page : (p : ℕ) → p < z.pages → word (formatted z b) (page_word p) ≡ p
    formatted-page p l = formatted-word (page_word p) (omega arith) ∙ fresh-page p l

    pub formatted-slot : (s k : ℕ) → s < z.slots → k < 3 → word (formatted z b) (slot_word z s + k) ≡ word_of_slot (free_slot (z.pages + s)) k
    formatted-slot s k l m =
        let a : slot_word z s + k ≡ 8 + (z.pages + (3 * s + k)) = omega arith in
        let d : (3 * s + k) / 3 ≡ s = omega arith in
        let e : (3 * s + k) % 3 ≡ k = omega arith in
        formatted-word (slot_word z s + k) (omega arith)
        ∙ ap (λ (i : ℕ). get_or (fresh_words z) i 0) a
        ∙ fresh-slot (3 * s + k) (omega arith)
        ∙ ap₂ (λ (i j : ℕ). word_of_slot (free_slot (z.pages + i)) j) d e

    -- all else is zero
    pub formatted-zero : (i : ℕ) → slot_word z z.slots ≤ i → i < image_words z → word (formatted z b) i ≡ 0
    formatted-zero i l m =
        let a : i ≡ 8 + (z.pages + (3 * z.slots + (i - slot_word z z.slots))) = omega arith in
        formatted-word i m ∙ ap (λ (j : ℕ). get_or (fresh_words z) j 0) a ∙ fresh-zero (i - slot_word z z.slots)

-- a header's word that is none of those with a number is 0
pub header-zero : (z : Sizes) (a : ℕ) → (a ≡ 0 → ⊥) → (a ≡ 1 → ⊥) → (a ≡ 2 → ⊥) → (a ≡ 3 → ⊥) → (a ≡ 7 → ⊥) → get_or (fresh_header z) a 0 ≡ 0
header-zero z zero h₀ h₁ h₂ h₃ h₇ = absurd (h₀ refl)
header-zero z (suc zero) h₀ h₁ h₂ h₃ h₇ = absurd (h₁ refl)
header-zero z (suc (suc zero)) h₀ h₁ h₂ h₃ h₇ = absurd (h₂ refl)
header-zero z (suc (suc (suc zero))) h₀ h₁ h₂ h₃ h₇ = absurd (h₃ refl)
header-zero z (suc (suc (suc (suc zero)))) h₀ h₁ h₂ h₃ h₇ = refl
header-zero z (suc (suc (suc (suc (suc zero))))) h₀ h₁ h₂ h₃ h₇ = refl
header-zero z (suc (suc (suc (suc (suc (suc zero)))))) h₀ h₁ h₂ h₃ h₇ = refl
header-zero z (suc (suc (suc (suc (suc (suc (suc zero))))))) h₀ h₁ h₂ h₃ h₇ = absurd (h₇ refl)
header-zero z (suc (suc (suc (suc (suc (suc (suc (suc a)))))))) h₀ h₁ h₂ h₃ h₇ = refl
