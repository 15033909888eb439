-- Every word of the image is left over or needed, by where it lies; and any word may be stored over a leftover.
use Prim.Native.Nat.{ℕ, ◌+◌, ◌-◌, ◌*◌, ◌/◌, ◌%◌, ◌<◌, ◌≤◌}
use mathlib.Core.Bool.{Bool, true, false}
use mathlib.Core.Logic.{◌⊎◌, ⊎_elim, inl, inr}
use mathlib.Core.Path.{◌≡◌, refl, sym, ap, ap₂, ◌∙◌, subst}
use native.Mathlib.Nat.{mod-eq_of_lt}
use native.Mathlib.Omega.{arith}
use lib.Dec.{ltb, eqb}
use lib.ListN.{length, get_or}
use borrow.Author.Tests.{ltb-true, ltb-false, eqb-true, eqb-false}
use Rattle.bounded.specs.Below.{first_below}
use Rattle.bounded.proofs.Below.{first_holds, first-before}
use Rattle.bounded.proofs.Tests.{case_on}
use Rattle.layout.specs.declared.Sizes.{Sizes}
use Rattle.layout.specs.Layout.{Legal, place_of, record_word, padding_word, frame_word, line_word, entry_word, image_words, image_length}
use Rattle.entries.specs.Entries.{key_page, key_line}
use Rattle.entries.proofs.EntryLaws.{page-of-key, line-of-key}
use Rattle.layout.proofs.LayoutLaws.{place-lt}
use Rattle.words.specs.Words.{Bytes}
use Rattle.words.proofs.WordLaws.{word-store-other, length-store, bytes-store}
use Rattle.journal.specs.Records.{position, live_count}
use Rattle.replay.specs.Table.{no_position, last_in, slot_of}
use Rattle.state.specs.State.{own_frame}
use Rattle.mount.proofs.View.{slot-none}
use Rattle.refinement.specs.Stores.{World}
use Rattle.refinement.specs.Calls.{world_of}
use Rattle.refinement.specs.Recall.{frame_of}
use Rattle.refinement.specs.Beside.{counted}
use Rattle.refinement.proofs.Cases.{standing-of}
use Rattle.refinement.proofs.Copying.{shown_by}
use Rattle.refinement.proofs.Reached.{always}
use Rattle.leftovers.proofs.AfterMount.{found_state, after-mount}
use Rattle.leftovers.proofs.Replaced.{copied-inside}
use Rattle.leftovers.specs.Leftovers.{Leftover, journal-place, under-record, slotted-page, padding, other-copy, past-entries, under-entry, copied_word, Needed, header, live-record, slot-table, page-table, counted-entry, committed-copy, EveryWord, Scribbled, AnyWord}

-- a number below n passes a test, or none does
some_or_none : (f : ℕ → Bool) (n : ℕ) → ((i : ℕ) × (i < n) × (f i ≡ true)) ⊎ ((i : ℕ) → i < n → f i ≡ false)
some_or_none f n =
    let i : ℕ = first_below n f in
    case_on (ltb i n)
    (λ t. let l = ltb-true i n t in inl (i, l, first_holds f n l))
    (λ t. inr (λ k l. first-before f n k (omega (arith, ltb-false i n t))))

module _ (v : World) (g : Legal v.st.sizes) where
  abbrev z : Sizes
  z = v.st.sizes

  abbrev pub Told : ℕ → Type 0
  Told a = Leftover v a ⊎ Needed v a

  page-told : (a : ℕ) → 8 ≤ a → a < 8 + z.pages → Told a
  page-told a l h =
      let p : ℕ = a - 8 in
      case_on (ltb (slot_of z v.st.table p) z.slots)
      (λ t. inl (slotted-page p (omega arith) (omega (arith, ltb-true (slot_of z v.st.table p) z.slots t)) (omega arith)))
      (λ t. inr (page-table p (omega arith) (slot-none z v.st.table p t) (omega arith)))

  slot-told : (a : ℕ) → 8 + z.pages ≤ a → a < 8 + z.pages + 3 * z.slots → Told a
  slot-told a l h =
      let i : ℕ = a - (8 + z.pages) in
      let s : ℕ = i / 3 in
      case_on (eqb (last_in v.st.table s) no_position)
      (λ t. inr (slot-table s (i % 3) (omega arith) (omega arith) (eqb-true (last_in v.st.table s) no_position t) (omega arith)))
      (λ t. inl (under-record s (i % 3) (omega arith) (omega arith) (λ e. absurd (eqb-false (last_in v.st.table s) no_position t e)) (omega arith)))

  place-told : (a : ℕ) → 8 + z.pages + 3 * z.slots ≤ a → a < padding_word z → Told a
  place-told a l h =
      let i : ℕ = a - (8 + z.pages + 3 * z.slots) in
      let q : ℕ = i / 4 in
      let k : ℕ = i % 4 in
      let own : place_of z q ≡ q = mod-eq_of_lt (omega arith) in
      let at : a ≡ record_word z q + k = omega (arith, own) in
      let there : ℕ → ℕ = λ j. place_of z (position z v.st.tail j) in
      ⊎_elim
      (λ (x : (j : ℕ) × (j < live_count z v.st.head v.st.tail) × (eqb (there j) (place_of z q) ≡ true)).
      inr (live-record x.0 k x.1 (omega arith) (omega (arith, at, eqb-true (there x.0) (place_of z q) x.2))))
      (λ f. inl (journal-place q k (omega arith) (λ j m e. eqb-false (there j) (place_of z q) (f j (omega (arith, m))) e) at))
      (some_or_none (λ j. eqb (there j) (place_of z q)) (live_count z v.st.head v.st.tail))

  -- the committed copy of a line with an entry, or without one
  copy_told : (a p m k : ℕ) → p < z.pages → m < 64 → k < 8 → a ≡ line_word z (frame_of (own_frame v.st) z v.st.table p m) m + k → Told a
  copy_told a p m k lp lm lk at =
      let keys = v.st.wide.keys in
      let n : ℕ = counted v.st in
      let copy : ℕ → ℕ → ℕ = λ x y. line_word z (frame_of (own_frame v.st) z v.st.table x y) y in
      shown_by keys n p m
      (λ e le q found.
      let same : copy p m ≡ copied_word v (get_or keys e 0) = sym (ap₂ copy (ap key_page found ∙ page-of-key p m lm) (ap key_line found ∙ line-of-key p m lm)) in
      inl (under-entry e k le lk (omega (arith, at, same))))
      (λ bare. inr (committed-copy p m k lp lm lk bare at))

  line-told : (a : ℕ) → frame_word z ≤ a → a < entry_word z 0 → Told a
  line-told a l h =
      let i : ℕ = a - frame_word z in
      let f : ℕ = i / 512 in
      let m : ℕ = i % 512 / 8 in
      let copy : ℕ → ℕ = λ p. frame_of (own_frame v.st) z v.st.table p m in
      ⊎_elim
      (λ (x : (p : ℕ) × (p < z.pages) × (eqb (copy p) f ≡ true)).
      copy_told a x.0 m (i % 8) x.1 (omega arith) (omega arith) (omega (arith, eqb-true (copy x.0) f x.2)))
      (λ n. inl (other-copy f m (i % 8) (omega arith) (omega arith) (omega arith) (λ p lp e. eqb-false (copy p) f (n p (omega (arith, lp))) e) (omega arith)))
      (some_or_none (λ p. eqb (copy p) f) z.pages)

  entry-told : (a : ℕ) → entry_word z 0 ≤ a → a < image_words z → Told a
  entry-told a l h =
      let i : ℕ = a - entry_word z 0 in
      let e : ℕ = i / 9 in
      case_on (ltb e (counted v.st))
      (λ t. inr (counted-entry e (i % 9) (ltb-true e (counted v.st) t) (omega arith) (omega arith)))
      (λ t. inl (past-entries e (i % 9) (ltb-false e (counted v.st) t) (omega arith) (omega arith) (omega arith)))

  -- below a bound, or from it on
  split : (a n : ℕ) → (a < n → Told a) → (n ≤ a → Told a) → Told a
  split a n f h = case_on (ltb a n) (λ t. f (ltb-true a n t)) (λ t. h (ltb-false a n t))

  pub told : (a : ℕ) → a < image_words z → Told a
  told a h =
      split a 8 (λ l. inr (header l)) (λ b₁.
      split a (8 + z.pages) (page-told a b₁) (λ b₂.
      split a (8 + z.pages + 3 * z.slots) (slot-told a b₂) (λ b₃.
      split a (padding_word z) (place-told a b₃) (λ b₄.
      split a (frame_word z) (λ l. inl (padding (omega (arith, b₄)) (omega (arith, l)))) (λ b₅.
      split a (entry_word z 0) (line-told a b₅) (λ b₆.
      entry-told a b₆ h))))))

  -- ---- a leftover stored over

  -- the lines under entries lie in frames of the image
  module _ (low : (e : ℕ) → e < counted v.st → copied_word v (get_or v.st.wide.keys e 0) + 8 ≤ image_words z) where
    left-inside : (a : ℕ) → Leftover v a → a < image_words z
    left-inside a (journal-place q k l f e) = omega (arith, place-lt z g q)
    left-inside a (under-record s k h l f e) = omega arith
    left-inside a (slotted-page p h f e) = omega arith
    left-inside a (padding l m) = omega arith
    left-inside a (other-copy f l k lf ll lk n e) = omega arith
    left-inside a (past-entries e k l m lk q) = omega arith
    left-inside a (under-entry e k l lk q) = omega (arith, q, lk, low e l)

    pub scribbled : Bytes v.image → image_length z ≤ length v.image → Scribbled v
    scribbled bytes whole =
        record {
          none = record { bytes = bytes; as_long = refl; kept = λ a l n. refl };
          more =
              λ image R a x left.
              let fits : 8 * a + 8 ≤ length image = omega (arith, left-inside a left, whole, R.as_long) in
              record {
                bytes = bytes-store image a x R.bytes;
                as_long = length-store image a x fits ∙ R.as_long;
                kept = λ c l n. word-store-other image a x c fits (λ e. n (subst (Leftover v) e left)) ∙ R.kept c l n;
              };
        }

-- ---- of the worlds right after a mount

pub every-word : EveryWord
every-word =
    always _ (λ z buffer w b h.
    let s = (standing-of w b h.related).viewed in
    after-mount (λ v. (a : ℕ) → a < image_words v.st.sizes → Leftover v a ⊎ Needed v a) w b s
    (λ d p F. told (world_of (found_state s.view d p) w.image) s.mounts.legal))

pub any_word : AnyWord
any_word =
    always _ (λ z buffer w b h.
    let s = (standing-of w b h.related).viewed in
    let v = s.view in
    after-mount Scribbled w b s
    (λ d p F.
    scribbled (world_of (found_state v d p) w.image) s.mounts.legal (copied-inside w.image v s.shows s.mounts d p F) s.bytes s.mounts.fits))
