-- Stores that go to the words of a line one after the other: eight to a copy, but for one that is cut short.
use Prim.Native.Nat.{ℕ, zero, suc, ◌+◌, ◌-◌, ◌*◌, ◌/◌, ◌%◌, ◌<◌, ◌≤◌}
use mathlib.Core.Bool.{Bool, true, false, ◌&&◌}
use mathlib.Core.Path.{◌≡◌, refl, sym, ap, ◌∙◌}
use native.Mathlib.Omega.{arith}
use lib.Dec.{leb, eqb}
use borrow.Author.Tests.{leb-true, le-leb, eqb-true, eqb-false}
use Rattle.bounded.specs.Below.{one, count_below}
use Rattle.bounded.proofs.Tests.{case_on, contradicts, and_left, and_right}
use Rattle.layout.specs.declared.Sizes.{Sizes}
use Rattle.layout.specs.Layout.{frame_word, line_word}
use Rattle.wear.specs.Wear.{ends_copy}
use Rattle.wear_laws.specs.Copies.{Whole, in_frames, last_in_line, cut_short}

module _ (z : Sizes) (word : ℕ → ℕ) where
  abbrev b : ℕ
  b = frame_word z

  -- a word's place in its line, and its frame
  abbrev place : ℕ → ℕ
  place a = (a - b) % 8

  abbrev frame : ℕ → ℕ
  frame a = (a - b) / 512

  pub record Runs (n : ℕ) : Type 0 where
    -- before a store to a line, past its first word, one to the word before
    pub back : (i : ℕ) → i < n → b ≤ word i → 0 < place (word i) → (0 < i) × (word (i - 1) + 1 ≡ word i)
    -- after one to a line, but to its last word, one to the next word
    pub on : (i : ℕ) → i + 1 < n → b ≤ word i → place (word i) < 7 → word (i + 1) ≡ word i + 1

  fewer : (n : ℕ) → Runs (suc n) → Runs n
  fewer n r = record { back = λ i l. r.back i (omega arith); on = λ i l. r.on i (omega arith) }

  -- the word before, in the same line
  before-frame : (x : ℕ) → 0 < x % 8 → (x - 1) / 512 ≡ x / 512
  before-frame x h = omega arith

  -- ---- a copy counted

  back_by : (n : ℕ) → Runs n → (j i : ℕ) → i < n → b ≤ word i → j ≤ place (word i) → (j ≤ i) × (word (i - j) + j ≡ word i)
  back_by n r zero i l h p = let e : i - 0 ≡ i = omega arith in (omega arith, ap (λ (x : ℕ). word x + 0) e ∙ omega arith)
  back_by n r (suc j) i l h p =
      let q = back_by n r j i l h (omega arith) in
      let a = word (i - j) in
      let w : a + j ≡ word i = q.1 in
      let inside : b ≤ a = omega arith in
      let t = r.back (i - j) (omega arith) inside (omega arith) in
      let e : i - j - 1 ≡ i - suc j = omega arith in
      let u : word (i - suc j) + 1 ≡ a = ap (λ (x : ℕ). word x + 1) (sym e) ∙ t.1 in
      (omega (arith, t.0), omega arith)

  pub whole : (n : ℕ) → Runs n → (f i : ℕ) → i < n → ends_copy z f (word i) ≡ true → Whole z f word i
  unfolding ends_copy
  whole n r f i l e =
      let a = word i in
      let h : b ≤ a = leb-true b a (and_left (leb b a) (eqb (frame a) f && eqb (place a) 7) e) in
      let rest = and_right (leb b a) (eqb (frame a) f && eqb (place a) 7) e in
      let fr : frame a ≡ f = eqb-true (frame a) f (and_left (eqb (frame a) f) (eqb (place a) 7) rest) in
      let pl : place a ≡ 7 = eqb-true (place a) 7 (and_right (eqb (frame a) f) (eqb (place a) 7) rest) in
      let seven = back_by n r 7 i l h (omega arith) in
      let k = (a - b) % 512 / 8 in
      let at : a ≡ line_word z f k + 7 = omega arith in
      record {
        line = k;
        low = omega arith;
        enough = seven.0;
        rising = λ j m.
            let q = back_by n r (7 - j) i l h (omega arith) in
            let x : i - 7 + j ≡ i - (7 - j) = omega (arith, seven.0) in
            ap word x ∙ omega (arith, q.1, at);
      }

  -- ---- the stores of a copy that has begun

  module _ (passes : ℕ → Bool) where
    abbrev cut : ℕ → ℕ
    cut = cut_short z passes word

    abbrev to : ℕ → Bool
    to = in_frames z passes

    passed : (a : ℕ) → to a ≡ true → (b ≤ a) × (passes (frame a) ≡ true)
    unfolding in_frames
    passed a e = (leb-true b a (and_left (leb b a) (passes (frame a)) e), and_right (leb b a) (passes (frame a)) e)

    passing : (a : ℕ) → b ≤ a → passes (frame a) ≡ true → to a ≡ true
    unfolding in_frames
    passing a h p = rw (le-leb b a h) p

    -- the next store goes on with it
    goes_on : (n : ℕ) → Runs (suc n) → b ≤ word n → 0 < place (word n) → passes (frame (word n)) ≡ true → cut n ≡ place (word n)
    unfolding cut_short
    goes_on zero r h p q = absurd (let x = (r.back 0 (omega arith) h p).0 in omega arith)
    goes_on (suc m) r h p q =
        let a = word (suc m) in
        let c = word m in
        let y : suc m - 1 ≡ m = omega arith in
        let w : c + 1 ≡ a = ap (λ (x : ℕ). word x + 1) (sym y) ∙ (r.back (suc m) (omega arith) h p).1 in
        let s : frame c ≡ frame a = (let v : c - b ≡ a - b - 1 = omega arith in rw v (before-frame (a - b) p)) in
        let k : c - b + 1 ≡ a - b = omega arith in
        rw (passing c (omega arith) (ap passes s ∙ q), k)

    -- or none has begun
    none-begun : (n : ℕ) → Runs (suc n) → (b ≤ word n → 0 < place (word n) → passes (frame (word n)) ≡ true → ⊥) → cut n ≡ 0
    unfolding cut_short
    none-begun zero r none = refl
    none-begun (suc m) r none =
        let a = word (suc m) in
        let c = word m in
        case_on (to c)
        (λ t.
        let u = passed c t in
        let h = u.0 in
        case_on (eqb (place c) 7)
        (λ e. let pl = eqb-true (place c) 7 e in rw t (omega arith))
        (λ e.
        let pl = eqb-false (place c) 7 e in
        let y : m + 1 ≡ suc m = omega arith in
        let w : a ≡ c + 1 = ap word (sym y) ∙ r.on m (omega arith) h (omega arith) in
        let s : frame c ≡ frame a = (let v : c - b ≡ a - b - 1 = omega arith in rw v (before-frame (a - b) (omega arith))) in
        absurd (none (omega arith) (omega arith) (ap passes (sym s) ∙ u.1))))
        (λ t. rw t)

    cut-begun : (n : ℕ) → to (word n) ≡ true → cut (suc n) ≡ (word n - b + 1) % 8
    unfolding cut_short
    cut-begun n t = rw t

    cut-none : (n : ℕ) → to (word n) ≡ false → cut (suc n) ≡ 0
    unfolding cut_short
    cut-none n t = rw t

    cut-start : 0 ≡ 8 * 0 + cut 0
    unfolding cut_short
    cut-start = refl

    pub eights : (n : ℕ) → Runs n → count_below n (λ i. to (word i)) ≡ 8 * count_below n (λ i. last_in_line z passes (word i)) + cut n
    unfolding count_below one
    eights zero r = cut-start
    eights (suc n) r =
        let a = word n in
        let ih = eights n (fewer n r) in
        case_on (to a)
        (λ t.
        let u = passed a t in
        let h = u.0 in
        case_on (eqb (place a) 0)
        (λ e.
        let pl = eqb-true (place a) 0 e in
        let c = none-begun n r (λ x y s. omega arith) in
        let last : eqb (place a) 7 ≡ false = rw pl in
        let next = cut-begun n t in
        rw (t, last) (omega (arith, ih, c, next)))
        (λ e.
        let pl = eqb-false (place a) 0 e in
        let c = goes_on n r h (omega arith) u.1 in
        let next = cut-begun n t in
        case_on (eqb (place a) 7)
        (λ s. let seven = eqb-true (place a) 7 s in rw (t, s) (omega (arith, ih, c, next)))
        (λ s. let other = eqb-false (place a) 7 s in rw (t, s) (omega (arith, ih, c, next)))))
        (λ t.
        let c = none-begun n r (λ x y s. contradicts (passing a x s) t) in
        let next = cut-none n t in
        rw t (omega (arith, ih, c, next)))
