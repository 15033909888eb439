-- Where the stores of a wide commit go: to the count, then each line to its committed copy, in a frame of its page, then to the count. No two lines
-- have a word in common.
use Prim.Native.Nat.{ℕ, ◌+◌, ◌-◌, ◌*◌, ◌/◌, ◌%◌, ◌<◌}
use mathlib.Core.Bool.{true}
use mathlib.Core.List.{List}
use mathlib.Core.Path.{◌≡◌, refl, sym, ap₂, ◌∙◌}
use native.Mathlib.Omega.{arith}
use lib.Dec.{ltb}
use lib.ListN.{get_or}
use borrow.Author.Tests.{ltb-true, ltb-false, lt-ltb, le-ltb, ne_eqb}
use Rattle.bounded.proofs.Tests.{case_on}
use Rattle.replay.specs.Map.{page_frames}
use Rattle.layout.specs.declared.Sizes.{Sizes}
use Rattle.layout.specs.Layout.{frames, count_word, line_word, entry_word}
use Rattle.layout.proofs.LayoutLaws.{line-apart}
use Rattle.words.specs.Words.{word}
use Rattle.entries.specs.Entries.{key_of, key_page, key_line}
use Rattle.entries.proofs.EntryLaws.{Right, key_back}
use Rattle.state.specs.State.{State}
use Rattle.validity.specs.Validity.{state_ok}
use Rattle.refinement.specs.Frames.{frame_of}
use Rattle.refinement.specs.Wide.{copy_at, copy_at_of, copy_value, copy_value_of}
use Rattle.refinement.specs.Reference.{Reference}
use Rattle.refinement.proofs.StateValid.{valid}
use Rattle.refinement.proofs.Invariant.{Durable}
use Rattle.refinement.proofs.Copies.{committed-low, committed-apart, own-frame}

-- what is stored: the count, words of the entries' lines, 0
module _ (st : State) (img : List ℕ) where
  pub value-first : copy_value st img 0 ≡ st.wide.count
  unfolding copy_value_of
  value-first = refl

  pub value_line : (e k : ℕ) → e < st.wide.count → k < 8 → copy_value st img (1 + (8 * e + k)) ≡ word img (entry_word st.sizes e + 1 + k)
  unfolding copy_value_of
  value_line e k l m =
      let i : ℕ = 1 + (8 * e + k) in
      let q : (i - 1) / 8 ≡ e = omega arith in
      let r : (i - 1) % 8 ≡ k = omega arith in
      rw (ne_eqb i 0 (λ x. omega arith), le-ltb (8 * st.wide.count) i (omega arith), q, r)

  pub value-last : copy_value st img (8 * st.wide.count + 1) ≡ 0
  unfolding copy_value_of
  value-last =
      let i : ℕ = 8 * st.wide.count + 1 in
      rw (ne_eqb i 0 (λ x. omega arith), lt-ltb (8 * st.wide.count) i (omega arith))

  pub at_first : copy_at st 0 ≡ count_word
  unfolding copy_at_of
  at_first = refl

  pub at_last : copy_at st (8 * st.wide.count + 1) ≡ count_word
  unfolding copy_at_of
  at_last =
      let i : ℕ = 8 * st.wide.count + 1 in
      rw (ne_eqb i 0 (λ x. omega arith), lt-ltb (8 * st.wide.count) i (omega arith))

module _ {past : List ℕ} (st : State) (img : List ℕ) {b : Reference} (ok : state_ok st ≡ true) (D : Durable past st img b) where
  abbrev z : Sizes
  z = st.sizes

  abbrev pub key : ℕ → ℕ
  key e = get_or st.wide.keys e 0

  -- the frame of the committed copy of entry e's line, and its word k
  abbrev pub home : ℕ → ℕ
  home e = frame_of (page_frames (word img)) z st.table (key_page (key e)) (key_line (key e))

  abbrev pub copied : ℕ → ℕ → ℕ
  copied e k = line_word z (home e) (key_line (key e)) + k

  right : Right z st.wide.keys st.wide.count
  right = (valid st ok).entries

  pub home-low : (e : ℕ) → e < st.wide.count → home e < frames z
  home-low e l = committed-low st img ok D (key_page (key e)) (key_line (key e)) (right.page-low e l)

  pub at-line : (e k : ℕ) → e < st.wide.count → k < 8 → copy_at st (1 + (8 * e + k)) ≡ copied e k
  unfolding copy_at_of
  at-line e k l m =
      let i : ℕ = 1 + (8 * e + k) in
      let q : (i - 1) / 8 ≡ e = omega arith in
      let r : (i - 1) % 8 ≡ k = omega arith in
      rw (ne_eqb i 0 (λ x. omega arith), le-ltb (8 * st.wide.count) i (omega arith), q, r, own-frame st img ok D (key_page (key e)) (key_line (key e)) (right.page-low e l))

  -- entries of one key are one
  same-entry : (e d : ℕ) → e < st.wide.count → d < st.wide.count → key e ≡ key d → e ≡ d
  same-entry e d l m q =
      case_on (ltb d e)
      (λ t. absurd (right.apart e d l (ltb-true d e t) (sym q)))
      (λ t.
      case_on (ltb e d)
      (λ u. absurd (right.apart d e m (ltb-true e d u) q))
      (λ u. omega (arith, ltb-false d e t, ltb-false e d u)))

  -- a word of the committed copy of line m of page q and of entry e's line: the line is the entry's
  pub same_line : (e k q m j : ℕ) → e < st.wide.count → k < 8 → q < z.pages → m < 64 → j < 8
      → copied e k ≡ line_word z (frame_of (page_frames (word img)) z st.table q m) m + j → (key e ≡ key_of q m) × (k ≡ j)
  same_line e k q m j l lk lq lm lj x =
      let a = line-apart z (home e) (key_line (key e)) k (frame_of (page_frames (word img)) z st.table q m) m j (omega arith) lm lk lj x in
      let p : key_page (key e) ≡ q = committed-apart st img ok D (key_page (key e)) (key_line (key e)) q m (right.page-low e l) lq a.0 in
      (sym (key_back (key e)) ∙ ap₂ key_of p a.1, a.2)

  pub lines-apart : (e k d j : ℕ) → e < st.wide.count → d < st.wide.count → k < 8 → j < 8 → copied e k ≡ copied d j → (e ≡ d) × (k ≡ j)
  lines-apart e k d j l m lk lj x =
      let a = same_line e k (key_page (key d)) (key_line (key d)) j l lk (right.page-low d m) (omega arith) lj x in
      (same-entry e d l m (a.0 ∙ key_back (key d)), a.1)
