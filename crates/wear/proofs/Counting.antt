-- How many of the first n stores go to a part, and how many line copies of a frame are whole with them.
use Rattle.std.proofs.Common.{◌≡◌, ℕ, zero, suc, ◌+◌, ◌-◌, ◌*◌, ◌/◌, ◌%◌, ◌^◌, ◌<◌, ◌≤◌, min, Bool, true, false, cond, not, ◌&&◌, eqb, ltb, leb, List, get_or, set, sym, refl, ap, ◌∙◌, ap₂, arith, ltb-false, ltb-true, le-ltb, lt-ltb, eq-eqb, ne_eqb, eqb-true, le-leb, leb-false, leb-true}
use borrow.Author.Tests.{eqb-false}
use Rattle.bounded.specs.Below.{one, count_below}
use Rattle.bounded.specs.Tab.{filled}
use Rattle.bounded.proofs.Below.{count-ext}
use Rattle.bounded.proofs.Tab.{filled-turn, get_or-filled-past}
use Rattle.bounded.proofs.Tests.{case_on}
use Rattle.wear.specs.declared.shares.Ends.{Ends}
use Rattle.wear.specs.Shares.{part_at, copy_at, wear_at, Rising}

-- ---- a test that is the same from a on and below b

count_same : (f : ℕ → Bool) (c : Bool) (a m : ℕ) → ((i : ℕ) → a ≤ i → i < a + m → f i ≡ c) → count_below (a + m) f ≡ count_below a f + one c * m
unfolding count_below
count_same f c a zero h = let e : a + 0 ≡ a = omega arith in ap (λ (k : ℕ). count_below k f) e ∙ omega arith
count_same f c a (suc m) h =
    let e : a + suc m ≡ suc (a + m) = omega arith in
    let ih = count_same f c a m (λ i p q. h i p (omega arith)) in
    let last : f (a + m) ≡ c = h (a + m) (omega arith) (omega arith) in
    ap (λ (k : ℕ). count_below k f) e ∙ rw last (omega (arith, ih))

-- up to the smaller of n and each of two places
count-part : (f : ℕ → Bool) (c : Bool) (n a b : ℕ) → a ≤ b → ((i : ℕ) → a ≤ i → i < b → f i ≡ c)
    → count_below (min n b) f ≡ count_below (min n a) f + one c * (min n b - min n a)
count-part f c n a b h g =
    let e : min n a + (min n b - min n a) ≡ min n b = omega arith in
    ap (λ (k : ℕ). count_below k f) (sym e) ∙ count_same f c (min n a) (min n b - min n a) (λ i p q. g i (omega arith) (omega arith))

-- ---- sums over the eight runs of stores, of part 1, 2, 3, 4, 0, 2, 3 and 1

abbrev weighed : ℕ → ℕ → ℕ → ℕ → ℕ → ℕ → ℕ → ℕ → ℕ → ℕ
weighed j x₁ x₂ x₃ x₄ x₅ x₆ x₇ x₈ =
    one (eqb 1 j) * x₁ + one (eqb 2 j) * x₂ + one (eqb 3 j) * x₃ + one (eqb 4 j) * x₄ + one (eqb 0 j) * x₅ + one (eqb 2 j) * x₆ + one (eqb 3 j) * x₇ + one (eqb 1 j) * x₈

module _ (x₁ x₂ x₃ x₄ x₅ x₆ x₇ x₈ : ℕ) where
  weighed-0 : weighed 0 x₁ x₂ x₃ x₄ x₅ x₆ x₇ x₈ ≡ x₅
  unfolding one
  weighed-0 = omega arith

  weighed-1 : weighed 1 x₁ x₂ x₃ x₄ x₅ x₆ x₇ x₈ ≡ x₁ + x₈
  unfolding one
  weighed-1 = omega arith

  weighed-2 : weighed 2 x₁ x₂ x₃ x₄ x₅ x₆ x₇ x₈ ≡ x₂ + x₆
  unfolding one
  weighed-2 = omega arith

  weighed-3 : weighed 3 x₁ x₂ x₃ x₄ x₅ x₆ x₇ x₈ ≡ x₃ + x₇
  unfolding one
  weighed-3 = omega arith

  weighed-4 : weighed 4 x₁ x₂ x₃ x₄ x₅ x₆ x₇ x₈ ≡ x₄
  unfolding one
  weighed-4 = omega arith

weighed-none : (j : ℕ) → (j ≡ 0 → ⊥) → (j ≡ 1 → ⊥) → (j ≡ 2 → ⊥) → (j ≡ 3 → ⊥) → (j ≡ 4 → ⊥)
    → (x₁ x₂ x₃ x₄ x₅ x₆ x₇ x₈ : ℕ) → weighed j x₁ x₂ x₃ x₄ x₅ x₆ x₇ x₈ ≡ 0
unfolding one
weighed-none j h₀ h₁ h₂ h₃ h₄ x₁ x₂ x₃ x₄ x₅ x₆ x₇ x₈ =
    rw (ne_eqb 0 j (λ q. h₀ (sym q)), ne_eqb 1 j (λ q. h₁ (sym q)), ne_eqb 2 j (λ q. h₂ (sym q)), ne_eqb 3 j (λ q. h₃ (sym q)), ne_eqb 4 j (λ q. h₄ (sym q)))
    (omega arith)

-- ---- the parts in their order

module _ (e : Ends) (up : Rising e) where
  pub at-header : (i : ℕ) → i < e.header → part_at e i ≡ 1
  unfolding part_at
  at-header i h = rw (lt-ltb i e.header h)

  pub at-tables : (i : ℕ) → e.header ≤ i → i < e.tables → part_at e i ≡ 2
  unfolding part_at
  at-tables i l h = rw (le-ltb i e.header l, lt-ltb i e.tables h)

  pub at-journal : (i : ℕ) → e.tables ≤ i → i < e.journal → part_at e i ≡ 3
  unfolding part_at
  at-journal i l h = rw (le-ltb i e.header (omega (arith, up.tables)), le-ltb i e.tables l, lt-ltb i e.journal h)

  pub at-padding : (i : ℕ) → e.journal ≤ i → i < e.padding → part_at e i ≡ 4
  unfolding part_at
  at-padding i l h =
      rw (le-ltb i e.header (omega (arith, up)), le-ltb i e.tables (omega (arith, up)), le-ltb i e.journal l, lt-ltb i e.padding h)

  pub at-frames : (i : ℕ) → e.padding ≤ i → i < e.frames → part_at e i ≡ 0
  unfolding part_at
  at-frames i l h =
      rw (
        le-ltb i e.header (omega (arith, up)),
        le-ltb i e.tables (omega (arith, up)),
        le-ltb i e.journal (omega (arith, up)),
        le-ltb i e.padding l,
        lt-ltb i e.frames h,
      )

  pub at_words : (i : ℕ) → e.frames ≤ i → i < e.words → part_at e i ≡ 2
  unfolding part_at
  at_words i l h =
      rw (
        le-ltb i e.header (omega (arith, up)),
        le-ltb i e.tables (omega (arith, up)),
        le-ltb i e.journal (omega (arith, up)),
        le-ltb i e.padding (omega (arith, up)),
        le-ltb i e.frames l,
        lt-ltb i e.words h,
      )

  pub at_records : (i : ℕ) → e.words ≤ i → i < e.records → part_at e i ≡ 3
  unfolding part_at
  at_records i l h =
      rw (
        le-ltb i e.header (omega (arith, up)),
        le-ltb i e.tables (omega (arith, up)),
        le-ltb i e.journal (omega (arith, up)),
        le-ltb i e.padding (omega (arith, up)),
        le-ltb i e.frames (omega (arith, up)),
        le-ltb i e.words l,
        lt-ltb i e.records h,
      )

  pub at_last : (i : ℕ) → e.records ≤ i → part_at e i ≡ 1
  unfolding part_at
  at_last i l =
      rw (
        le-ltb i e.header (omega (arith, up)),
        le-ltb i e.tables (omega (arith, up)),
        le-ltb i e.journal (omega (arith, up)),
        le-ltb i e.padding (omega (arith, up)),
        le-ltb i e.frames (omega (arith, up)),
        le-ltb i e.words (omega (arith, up)),
        le-ltb i e.records l,
      )

  module _ (j n : ℕ) where
    -- whether a store goes to part j
    abbrev to : ℕ → Bool
    to i = eqb (part_at e i) j

    abbrev share : ℕ → ℕ → ℕ → ℕ
    share part a b = one (eqb part j) * (min n b - a)

    none : count_below (min n 0) to ≡ 0
    unfolding count_below
    none = let z : min n 0 ≡ 0 = omega arith in ap (λ (k : ℕ). count_below k to) z

    segment : (part a b : ℕ) → a ≤ b → ((i : ℕ) → a ≤ i → i < b → part_at e i ≡ part)
        → count_below (min n b) to ≡ count_below (min n a) to + share part a b
    segment part a b h g =
        let z : min n b - min n a ≡ min n b - a = omega arith in
        count-part to (eqb part j) n a b h (λ i p q. ap (λ (x : ℕ). eqb x j) (g i p q)) ∙ rw z

    -- past the last end all are the header's
    rest : count_below n to ≡ count_below (min n e.records) to + share 1 e.records n
    rest =
        case_on (leb n e.records)
        (λ t.
        let l = leb-true n e.records t in
        let z : min n e.records ≡ n = omega arith in
        let y : min n n - e.records ≡ 0 = omega arith in
        rw y (ap (λ (k : ℕ). count_below k to) (sym z) ∙ omega arith))
        (λ t.
        let l = leb-false n e.records t in
        let z : n ≡ min n n = omega arith in
        ap (λ (k : ℕ). count_below k to) z ∙ segment 1 e.records n (omega arith) (λ i p q. at_last i p))

    part_count : count_below n to
        ≡ weighed j (min n e.header - 0) (min n e.tables - e.header) (min n e.journal - e.tables) (min n e.padding - e.journal)
        (min n e.frames - e.padding) (min n e.words - e.frames) (min n e.records - e.words) (min n n - e.records)
    part_count =
        let h₁ = segment 1 0 e.header (omega arith) (λ i p q. at-header i q) in
        let h₂ = segment 2 e.header e.tables up.tables at-tables in
        let h₃ = segment 3 e.tables e.journal up.journal at-journal in
        let h₄ = segment 4 e.journal e.padding up.padding at-padding in
        let h₅ = segment 0 e.padding e.frames up.frames at-frames in
        let h₆ = segment 2 e.frames e.words up.words at_words in
        let h₇ = segment 3 e.words e.records up.records at_records in
        omega (arith, none, h₁, h₂, h₃, h₄, h₅, h₆, h₇, rest)

  -- the same part by part, as the code has them
  module _ (j n : ℕ) where
    pub to-frames : (r : ℕ) → j ≡ 0 → r ≡ min n e.frames - e.padding → r ≡ count_below n (λ i. eqb (part_at e i) j)
    to-frames r q h = rw q (h ∙ sym (part_count 0 n ∙ weighed-0 _ _ _ _ _ _ _ _))

    pub to-header : (r s : ℕ) → j ≡ 1 → r ≡ min n e.header - 0 → s ≡ min n n - e.records → r + s ≡ count_below n (λ i. eqb (part_at e i) j)
    to-header r s q h k = rw q (ap₂ ◌+◌ h k ∙ sym (part_count 1 n ∙ weighed-1 _ _ _ _ _ _ _ _))

    pub to-tables : (r s : ℕ) → j ≡ 2 → r ≡ min n e.tables - e.header → s ≡ min n e.words - e.frames
        → r + s ≡ count_below n (λ i. eqb (part_at e i) j)
    to-tables r s q h k = rw q (ap₂ ◌+◌ h k ∙ sym (part_count 2 n ∙ weighed-2 _ _ _ _ _ _ _ _))

    pub to-journal : (r s : ℕ) → j ≡ 3 → r ≡ min n e.journal - e.tables → s ≡ min n e.records - e.words
        → r + s ≡ count_below n (λ i. eqb (part_at e i) j)
    to-journal r s q h k = rw q (ap₂ ◌+◌ h k ∙ sym (part_count 3 n ∙ weighed-3 _ _ _ _ _ _ _ _))

    pub to-padding : (r : ℕ) → j ≡ 4 → r ≡ min n e.padding - e.journal → r ≡ count_below n (λ i. eqb (part_at e i) j)
    to-padding r q h = rw q (h ∙ sym (part_count 4 n ∙ weighed-4 _ _ _ _ _ _ _ _))

    -- no other number is a part's
    pub to_none : (j ≡ 0 → ⊥) → (j ≡ 1 → ⊥) → (j ≡ 2 → ⊥) → (j ≡ 3 → ⊥) → (j ≡ 4 → ⊥) → 0 ≡ count_below n (λ i. eqb (part_at e i) j)
    to_none h₀ h₁ h₂ h₃ h₄ = sym (part_count j n ∙ weighed-none j h₀ h₁ h₂ h₃ h₄ _ _ _ _ _ _ _ _)

-- ---- line copies

-- a frame below the first that is stored to has none
pub copies-none : (e : Ends) (f n : ℕ) → f < e.frame → count_below n (λ i. copy_at e f i) ≡ 0
unfolding one count_below copy_at
copies-none e f zero h = refl
copies-none e f (suc n) h =
    let ih = copies-none e f n h in
    let no : eqb (e.frame + (n - e.padding) / 512) f ≡ false = ne_eqb (e.frame + (n - e.padding) / 512) f (λ q. omega (arith, q)) in
    case_on (leb e.padding n && ltb n e.frames)
    (λ t. rw (t, no) (omega (arith, ih)))
    (λ t. rw t (omega (arith, ih)))

-- one more of x, and the eighths of them
one_more : (x y : ℕ) → y ≡ x / 8 → x % 8 ≡ 7 → y + 1 ≡ suc x / 8
one_more x y e h = omega arith

none_more : (x y : ℕ) → y ≡ x / 8 → (x % 8 ≡ 7 → ⊥) → y + 0 ≡ suc x / 8
none_more x y e h = omega arith

-- every eighth from a on and below b
eighths : (n a b : ℕ) → count_below n (λ i. (leb a i && ltb i b) && eqb ((i - a) % 8) 7) ≡ (min n b - a) / 8
unfolding one count_below
eighths zero a b = omega arith
eighths (suc n) a b =
    let ih = eighths n a b in
    case_on (leb a n)
    (λ t.
    case_on (ltb n b)
    (λ u.
    let p = leb-true a n t in
    let q = ltb-true n b u in
    let m : min (suc n) b - a ≡ suc (n - a) = omega arith in
    let k : min n b - a ≡ n - a = omega arith in
    let had = ih ∙ ap (λ (x : ℕ). x / 8) k in
    case_on (eqb ((n - a) % 8) 7)
    (λ w. rw (t, u, w, m) (one_more (n - a) _ had (eqb-true ((n - a) % 8) 7 w)))
    (λ w. rw (t, u, w, m) (none_more (n - a) _ had (eqb-false ((n - a) % 8) 7 w))))
    (λ u. let m : min (suc n) b ≡ min n b = omega (arith, ltb-false n b u) in rw (t, u, m) (omega (arith, ih))))
    (λ t.
    let p = leb-false a n t in
    let m : min (suc n) b - a ≡ 0 = omega arith in
    let k : min n b - a ≡ 0 = omega arith in
    rw (t, m) (omega (arith, ih, k)))

-- the frame that is d past the first: its stores from a on and below b
module _ (e : Ends) (f d a b : ℕ) (past : f ≡ e.frame + d) (first : a ≡ e.padding + 512 * d) (end : b ≡ min e.frames (a + 512)) where
  other-frame : (i : ℕ) → ((e.padding ≤ i) → (i < e.frames) → (e.frame + (i - e.padding) / 512 ≡ f) → ⊥) → copy_at e f i ≡ false
  unfolding copy_at
  other-frame i not_in =
      case_on (leb e.padding i)
      (λ t.
      case_on (ltb i e.frames)
      (λ u.
      rw (t, u, ne_eqb (e.frame + (i - e.padding) / 512) f (not_in (leb-true e.padding i t) (ltb-true i e.frames u))))
      (λ u. rw (t, u)))
      (λ t. rw t)

  copy-range : (i : ℕ) → copy_at e f i ≡ ((leb a i && ltb i b) && eqb ((i - a) % 8) 7)
  unfolding copy_at
  copy-range i =
      case_on (leb a i)
      (λ t.
      let p = leb-true a i t in
      case_on (ltb i b)
      (λ u.
      let q = ltb-true i b u in
      let low : leb e.padding i ≡ true = le-leb e.padding i (omega arith) in
      let high : ltb i e.frames ≡ true = lt-ltb i e.frames (omega arith) in
      let same : eqb (e.frame + (i - e.padding) / 512) f ≡ true = eq-eqb (e.frame + (i - e.padding) / 512) f (omega arith) in
      let eighth : (i - e.padding) % 8 ≡ (i - a) % 8 = omega arith in
      rw (t, u, low, high, same, eighth))
      (λ u. let q = ltb-false i b u in rw (t, u) (other-frame i (λ x y z. omega arith))))
      (λ t. let p = leb-false a i t in rw t (other-frame i (λ x y z. omega arith)))

  pub copies-count : (n : ℕ) → count_below n (λ i. copy_at e f i) ≡ (min n b - a) / 8
  copies-count n = count-ext (λ i. copy_at e f i) (λ i. (leb a i && ltb i b) && eqb ((i - a) % 8) 7) n (λ i l. copy-range i) ∙ eighths n a b

-- as the code has them
module _ (e : Ends) (f n to end : ℕ) (h : e.frame ≤ f) (t : to ≡ min e.frames (e.padding + 512 * (f - e.frame) + 512)) (u : end ≡ min n to) where
  pub copies-some : (end - (e.padding + 512 * (f - e.frame))) / 8 ≡ count_below n (λ i. copy_at e f i)
  copies-some =
      let d : f ≡ e.frame + (f - e.frame) = omega arith in
      let from = e.padding + 512 * (f - e.frame) in
      ap (λ (x : ℕ). (x - from) / 8) u ∙ sym (copies-count e f (f - e.frame) from to d refl t n)

  pub copies-past : end ≤ e.padding + 512 * (f - e.frame) → 0 ≡ count_below n (λ i. copy_at e f i)
  copies-past l =
      let none : end - (e.padding + 512 * (f - e.frame)) ≡ 0 = omega arith in
      sym (ap (λ (x : ℕ). x / 8) none) ∙ copies-some

-- ---- number k of the 22

-- a test that is the same at each number
count-const : (c : Bool) (n : ℕ) → cond c n 0 ≡ count_below n (λ i. c)
unfolding one count_below
count-const true zero = refl
count-const true (suc n) = let ih = count-const true n in omega (arith, ih)
count-const false zero = refl
count-const false (suc n) = let ih = count-const false n in omega (arith, ih)

module _ (e : Ends) (w : Bool) (n k : ℕ) where
  pub wear-copies : (r : ℕ) → k < 15 → r ≡ count_below n (λ i. copy_at e k i) → r ≡ count_below n (λ i. wear_at e w i k)
  unfolding wear_at
  wear-copies r h q = rw (lt-ltb k 15 h) q

  pub wear-parts : (r : ℕ) → 15 ≤ k → k < 20 → r ≡ count_below n (λ i. eqb (part_at e i) (k - 15)) → r ≡ count_below n (λ i. wear_at e w i k)
  unfolding wear_at
  wear-parts r l h q = rw (le-ltb k 15 l, lt-ltb k 20 h) q

  pub wear-others : (r : ℕ) → k ≡ 20 → r ≡ cond (not w) n 0 → r ≡ count_below n (λ i. wear_at e w i k)
  unfolding wear_at
  wear-others r l q = rw l (q ∙ count-const (not w) n)

  pub wear-writes : (r : ℕ) → 20 ≤ k → (k ≡ 20 → ⊥) → r ≡ cond w n 0 → r ≡ count_below n (λ i. wear_at e w i k)
  unfolding wear_at
  wear-writes r l h q = rw (le-ltb k 15 (omega arith), le-ltb k 20 l, ne_eqb k 20 h) (q ∙ count-const w n)

-- ---- the loop over the 22

module _ (more : ℕ → ℕ) (l : List ℕ) where
  abbrev grown : ℕ → ℕ
  grown k = (get_or l k 0 + more k) % 2 ^ 64

  pub counted-turn : (m : List ℕ) (k r v : ℕ) → m ≡ filled k grown l → r ≡ more k → v ≡ (get_or m k 0 + r) % 2 ^ 64 → set m k v ≡ filled (k + 1) grown l
  counted-turn m k r v e h q =
      let same : get_or m k 0 ≡ get_or l k 0 = ap (λ (x : List ℕ). get_or x k 0) e ∙ get_or-filled-past k grown l k 0 (omega arith) in
      filled-turn grown l m k v e (q ∙ ap₂ (λ (x y : ℕ). (x + y) % 2 ^ 64) same h)
