-- Format store by store: where a store goes, what the stores so far leave of a word, and what all of them come to.
use Prim.Native.Nat.{ℕ, zero, suc, ◌+◌, ◌-◌, ◌*◌, ◌≤◌, ◌<◌}
use mathlib.Core.Path.{◌≡◌, refl, sym, ap, ◌∙◌}
use mathlib.Core.List.{List}
use native.Mathlib.Omega.{arith}
use lib.Dec.{eqb, leb}
use lib.ListN.{length, drop}
use borrow.Author.Tests.{eq-eqb, ne_eqb, eqb-true, eqb-false, le-leb, lt-leb, leb-true, leb-false}
use Rattle.bounded.specs.Below.{up_to}
use Rattle.bounded.specs.Tab.{tab}
use Rattle.bounded.proofs.Below.{up_turn}
use Rattle.bounded.proofs.Tab.{tab-get_or}
use Rattle.bounded.proofs.Tests.{case_on}
use Rattle.layout.specs.declared.Sizes.{Sizes}
use Rattle.layout.specs.Layout.{Legal, layout_of, layout_word, image_words, image_length}
use Rattle.words.specs.Words.{Bytes, word, store, put_word, put_words}
use Rattle.words.proofs.WordLaws.{word-store, word-store-other, length-store, bytes-store, store-store, store-comm, drop-store}
use Rattle.fresh.specs.Fresh.{fresh_words, fresh_word, format_at, format_value, format_stores, formatted}
use Rattle.fresh.proofs.FreshWords.{length-fresh, fresh-header}
use Rattle.fresh.proofs.Puts.{puts_none, puts-turn, words-over}

-- ---- where a store goes, and its value

module _ (z : Sizes) where
  pub first-at : format_at z 0 ≡ layout_word
  unfolding format_at
  first-at = refl

  pub first-value : format_value z 0 ≡ 0
  unfolding format_value
  first-value = refl

  pub last-at : format_at z (image_words z) ≡ layout_word
  unfolding format_at
  last-at = case_on (eqb (image_words z) 0) (λ t. rw t) (λ t. rw (t, eq-eqb (image_words z) (image_words z) refl))

  pub low-at : (i : ℕ) → 0 < i → i ≤ 3 → 3 < image_words z → format_at z i ≡ i - 1
  unfolding format_at
  low-at i a b c = rw (ne_eqb i 0 (λ e. omega arith), ne_eqb i (image_words z) (λ e. omega arith), le-leb i 3 b)

  pub high-at : (i : ℕ) → 3 < i → i < image_words z → format_at z i ≡ i
  unfolding format_at
  high-at i a b = rw (ne_eqb i 0 (λ e. omega arith), ne_eqb i (image_words z) (λ e. omega arith), lt-leb i 3 a)

  pub later-value : (i : ℕ) → 0 < i → format_value z i ≡ fresh_word z (format_at z i)
  unfolding format_value
  later-value i a = rw (ne_eqb i 0 (λ e. omega arith))

module _ (z : Sizes) (g : Legal z) where
  -- inside the image; and between the first and the last to no layout word
  pub format-in : (i : ℕ) → i ≤ image_words z → format_at z i < image_words z
  format-in i h =
      case_on (eqb i 0)
      (λ t. rw (eqb-true i 0 t, first-at z) (omega arith))
      (λ t.
      case_on (eqb i (image_words z))
      (λ u. rw (eqb-true i (image_words z) u, last-at z) (omega arith))
      (λ u.
      let some : 0 < i = omega (arith, eqb-false i 0 t) in
      let low : i < image_words z = omega (arith, h, eqb-false i (image_words z) u) in
      case_on (leb i 3)
      (λ q. rw (low-at z i some (leb-true i 3 q) (omega arith)) (omega (arith, low)))
      (λ q. rw (high-at z i (leb-false i 3 q) low) low)))

  pub format-past : (i : ℕ) → 0 < i → i < image_words z → format_at z i ≡ layout_word → ⊥
  format-past i some low e =
      case_on (leb i 3)
      (λ q. omega (arith, e, leb-true i 3 q, low-at z i some (leb-true i 3 q) (omega arith)))
      (λ q. omega (arith, e, leb-false i 3 q, high-at z i (leb-false i 3 q) low))

  pub fresh-layout : fresh_word z 3 ≡ layout_of z
  fresh-layout = fresh-header z g 3 (omega arith)

  -- ---- the stores on a buffer that is long enough

  module _ (b : List ℕ) (fits : image_length z ≤ length b) where
    pub stores-none : format_stores z 0 b ≡ b
    unfolding format_stores up_to
    stores-none = refl

    pub stores-more : (n : ℕ) → format_stores z (n + 1) b ≡ store (format_stores z n b) (format_at z n) (format_value z n)
    unfolding format_stores
    stores-more n = sym (up_turn (λ i m. store m (format_at z i) (format_value z i)) b (format_stores z n b) n refl)

    pub stores-length : (n : ℕ) → n ≤ image_words z + 1 → length (format_stores z n b) ≡ length b
    unfolding format_stores up_to
    stores-length zero h = refl
    stores-length (suc n) h =
        let k : length (format_stores z n b) ≡ length b = stores-length n (omega arith) in
        length-store (format_stores z n b) (format_at z n) (format_value z n) (omega (arith, k, format-in n (omega arith))) ∙ k

    inside : (n i : ℕ) → n ≤ image_words z + 1 → i < image_words z → 8 * i + 8 ≤ length (format_stores z n b)
    inside n i h l = omega (arith, stores-length n h)

    pub stores-bytes : (n : ℕ) → Bytes b → Bytes (format_stores z n b)
    unfolding format_stores up_to
    stores-bytes zero h = h
    stores-bytes (suc n) h = bytes-store (format_stores z n b) (format_at z n) (format_value z n) (stores-bytes n h)

    pub stores-past : (n : ℕ) → n ≤ image_words z + 1 → drop (image_length z) (format_stores z n b) ≡ drop (image_length z) b
    unfolding format_stores up_to
    stores-past zero h = refl
    stores-past (suc n) h =
        let l : format_at z n < image_words z = format-in n (omega arith) in
        drop-store (format_stores z n b) (format_at z n) (format_value z n) (image_length z) (inside n (format_at z n) (omega arith) l) (omega arith)
        ∙ stores-past n (omega arith)

    -- from the first store to the last but one the layout word is 0
    half-from : (n : ℕ) → n < image_words z → word (format_stores z (n + 1) b) layout_word ≡ 0
    half-from zero h =
        let k : format_stores z 1 b ≡ store b layout_word 0 = stores-more 0 ∙ rw (stores-none, first-at z, first-value z) in
        rw k (word-store b layout_word 0 (omega arith) (omega arith))
    half-from (suc n) h =
        let m : ℕ = n + 1 in
        let e : suc n + 1 ≡ n + 1 + 1 = omega arith in
        let s : format_stores z (suc n + 1) b ≡ store (format_stores z (n + 1) b) (format_at z (n + 1)) (format_value z (n + 1)) =
        ap (λ (k : ℕ). format_stores z k b) e ∙ stores-more (n + 1) in
        rw s
        (word-store-other (format_stores z (n + 1) b) (format_at z (n + 1)) (format_value z (n + 1)) layout_word
        (inside (n + 1) (format_at z (n + 1)) (omega arith) (format-in (n + 1) (omega arith)))
        (format-past (n + 1) (omega arith) (omega arith))
        ∙ half-from n (omega arith))

    pub half-layout : (n : ℕ) → 0 < n → n ≤ image_words z → word (format_stores z n b) layout_word ≡ 0
    half-layout n l h =
        let e : n ≡ n - 1 + 1 = omega arith in
        ap (λ (k : ℕ). word (format_stores z k b) layout_word) e ∙ half-from (n - 1) (omega arith)

    -- ---- all of them: the words of a fresh image, one after the other

    abbrev rising : ℕ → List ℕ
    rising n = put_words b 0 (tab n (fresh_word z))

    rising-more : (n : ℕ) → store (rising n) n (fresh_word z n) ≡ rising (n + 1)
    rising-more n =
        let e : 8 * n ≡ 0 + 8 * n = omega arith in
        ap (λ (a : ℕ). put_word (rising n) a (fresh_word z n)) e ∙ puts-turn b (rising n) 0 (fresh_word z) n (fresh_word z n) refl refl

    -- the first four leave words 0 to 2 fresh and word 3 to be stored again
    four : store (format_stores z 4 b) layout_word (fresh_word z 3) ≡ rising 4
    four =
        let f : ℕ → ℕ = fresh_word z in
        let d : List ℕ = store b 3 0 in
        let n : length b ≡ length b = refl in
        let d₁ : List ℕ = store b 0 (f 0) in
        let l₁ : length d₁ ≡ length b = length-store b 0 (f 0) (omega arith) in
        let d₂ : List ℕ = store d₁ 1 (f 1) in
        let l₂ : length d₂ ≡ length b = length-store d₁ 1 (f 1) (omega arith) ∙ l₁ in
        let d₃ : List ℕ = store d₂ 2 (f 2) in
        let l₃ : length d₃ ≡ length b = length-store d₂ 2 (f 2) (omega arith) ∙ l₂ in
        let e₁ : format_stores z 1 b ≡ store b 3 0 = stores-more 0 ∙ rw (stores-none, first-at z, first-value z) in
        let e₂ : format_stores z 2 b ≡ store d₁ 3 0 =
        stores-more 1 ∙ rw (e₁, later-value z 1 (omega arith), low-at z 1 (omega arith) (omega arith) (omega arith)) (store-comm b 3 0 0 (f 0) (omega arith) (omega arith) (λ e. omega arith)) in
        let e₃ : format_stores z 3 b ≡ store d₂ 3 0 =
        stores-more 2 ∙ rw (e₂, later-value z 2 (omega arith), low-at z 2 (omega arith) (omega arith) (omega arith)) (store-comm d₁ 3 0 1 (f 1) (omega arith) (omega arith) (λ e. omega arith)) in
        let e₄ : format_stores z 4 b ≡ store d₃ 3 0 =
        stores-more 3 ∙ rw (e₃, later-value z 3 (omega arith), low-at z 3 (omega arith) (omega arith) (omega arith)) (store-comm d₂ 3 0 2 (f 2) (omega arith) (omega arith) (λ e. omega arith)) in
        let r₁ : d₁ ≡ rising 1 = ap (λ (l : List ℕ). store l 0 (f 0)) (puts_none b 0 f) ∙ rising-more 0 in
        let r₂ : d₂ ≡ rising 2 = ap (λ (l : List ℕ). store l 1 (f 1)) r₁ ∙ rising-more 1 in
        let r₃ : d₃ ≡ rising 3 = ap (λ (l : List ℕ). store l 2 (f 2)) r₂ ∙ rising-more 2 in
        rw e₄ (store-store d₃ 3 0 (f 3) (omega arith)) ∙ ap (λ (l : List ℕ). store l 3 (f 3)) r₃ ∙ rising-more 3

    up-to : (k : ℕ) → 4 + k ≤ image_words z → store (format_stores z (4 + k) b) layout_word (fresh_word z 3) ≡ rising (4 + k)
    up-to zero h = four
    up-to (suc k) h =
        let n : ℕ = 4 + k in
        let f : ℕ → ℕ = fresh_word z in
        let m : List ℕ = format_stores z (4 + k) b in
        let e : 4 + suc k ≡ 4 + k + 1 = omega arith in
        let a : format_at z (4 + k) ≡ 4 + k = high-at z (4 + k) (omega arith) (omega arith) in
        let s : format_stores z (4 + suc k) b ≡ store m (4 + k) (f (4 + k)) =
        ap (λ (i : ℕ). format_stores z i b) e ∙ stores-more (4 + k) ∙ rw (later-value z (4 + k) (omega arith), a) in
        rw s
        (store-comm m (4 + k) (f (4 + k)) 3 (f 3) (inside (4 + k) (4 + k) (omega arith) (omega arith)) (inside (4 + k) 3 (omega arith) (omega arith)) (λ q. omega arith))
        ∙ ap (λ (l : List ℕ). store l (4 + k) (f (4 + k))) (up-to k (omega arith))
        ∙ rising-more (4 + k)
        ∙ ap rising (sym e)

    rising-all : rising (image_words z) ≡ formatted z b
    unfolding formatted
    rising-all =
        let l : length (fresh_words z) ≡ image_words z = length-fresh z g in
        let t : tab (image_words z) (fresh_word z) ≡ fresh_words z = ap (λ (n : ℕ). tab n (fresh_word z)) (sym l) ∙ tab-get_or (fresh_words z) 0 in
        ap (put_words b 0) t ∙ words-over (fresh_words z) b 0 (omega (arith, l))

    -- W + 1 stores on any bytes leave the fresh image
    pub stores-all : format_stores z (image_words z + 1) b ≡ formatted z b
    stores-all =
        let k : ℕ = image_words z - 4 in
        let e : 4 + (image_words z - 4) ≡ image_words z = omega arith in
        stores-more (image_words z)
        ∙ rw (later-value z (image_words z) (omega arith), last-at z)
        (ap (λ (n : ℕ). store (format_stores z n b) 3 (fresh_word z 3)) (sym e) ∙ up-to (image_words z - 4) (omega arith) ∙ ap rising e)
        ∙ rising-all
