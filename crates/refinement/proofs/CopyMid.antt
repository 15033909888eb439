-- A store of a wide commit between its first and its last: a word of an entry's line goes to the committed copy, in a frame of its page. No line without an
-- entry and no entry has that word, and mount does not read it.
use Prim.Native.Nat.{ℕ, ◌+◌, ◌-◌, ◌*◌, ◌<◌, ◌≤◌}
use mathlib.Core.List.{List}
use mathlib.Core.Logic.{◌⊎◌}
use mathlib.Core.Path.{◌≡◌, sym, ap, ap₂, ◌∙◌, subst}
use native.Mathlib.Omega.{arith}
use lib.Dec.{eqb}
use lib.ListN.{length}
use borrow.Author.Tests.{eqb-true, eqb-false}
use Rattle.bounded.proofs.Tests.{case_on}
use Rattle.replay.specs.Map.{page_frames}
use Rattle.layout.specs.declared.Sizes.{Sizes}
use Rattle.layout.specs.Layout.{frames, line_word, entry_word, image_length}
use Rattle.words.specs.Words.{word, store}
use Rattle.words.proofs.WordLaws.{word-store, word-store-other, word_lt, length-store}
use Rattle.image.specs.Lines.{line_bytes}
use Rattle.image.proofs.LineLaws.{length-line}
use Rattle.entries.specs.Entries.{key_of, key_page, key_line, entry_of}
use Rattle.entries.proofs.EntryLaws.{entry-before}
use Rattle.mount.proofs.Dead.{Dead, dead-line}
use Rattle.state.specs.State.{State}
use Rattle.state.specs.declared.Op.{Op}
use Rattle.state.specs.declared.Op.TheVariants.{Copy}
use Rattle.operations.specs.Operations.{is_idle, needs}
use Rattle.refinement.specs.Frames.{frame_of}
use Rattle.refinement.specs.Wide.{entry_bytes}
use Rattle.refinement.specs.Stores.{with_made}
use Rattle.refinement.specs.Reference.{Reference, Work, with_work, idle, under, nothing}
use Rattle.refinement.proofs.StateValid.{valid}
use Rattle.refinement.proofs.Invariant.{Durable}
use Rattle.refinement.proofs.Pending.{made-valid}
use Rattle.refinement.proofs.Copies.{committed-low, durable-legal, durable-fits}
use Rattle.refinement.proofs.Keys.{keys-ext}
use Rattle.refinement.proofs.CopyPlaces.{home-low, same_line, lines-apart}
use Rattle.refinement.proofs.StoreKept.{eight-kept, line_kept, store-fits, page-kept, frame-ext, durable-stored}
use Rattle.refinement.proofs.Stepping.{durable-made}
use Rattle.refinement.proofs.Copying.{paged, paged-line, copy_of, copy_word, key_at, in_place, placed, Copying}

module _ (past : List ℕ) (st : State) (img : List ℕ) (b : Reference) (C : Copying past st img b) (e k : ℕ) (le : e < st.wide.count) (lk : k < 8) where
  abbrev z : Sizes
  z = st.sizes

  abbrev D : Durable past st img (in_place st img b)
  D = C.durable

  -- the word stored and its value
  abbrev a : ℕ
  a = copy_word st img (key_page (key_at st e)) (key_line (key_at st e)) k

  abbrev x : ℕ
  x = word img (entry_word z e + 1 + k)

  abbrev image : List ℕ
  image = store img a x

  low : frame_of (page_frames (word img)) z st.table (key_page (key_at st e)) (key_line (key_at st e)) < frames z
  low = home-low st img C.valid D e le

  inside : 8 * a + 8 ≤ image_length z
  inside = omega (arith, low)

  fits : 8 * a + 8 ≤ length img
  fits = store-fits past st img (in_place st img b) D a x inside

  dead : Dead D.view a
  dead =
      subst (λ (y : Sizes). Dead D.view (line_word y (frame_of (page_frames (word img)) z st.table (key_page (key_at st e)) (key_line (key_at st e))) (key_line (key_at st e)) + k)) D.sizes-same
      (dead-line D.view D.mounts.legal (frame_of (page_frames (word img)) z st.table (key_page (key_at st e)) (key_line (key_at st e))) (key_line (key_at st e)) k (rw D.sizes-same low) (omega arith) lk)

  -- the frames of committed copies are as they were
  frame_same : (p l : ℕ) → p < z.pages → frame_of (page_frames (word image)) z st.table p l ≡ frame_of (page_frames (word img)) z st.table p l
  frame_same p l lp =
      frame-ext (page_frames (word img)) (page_frames (word image)) z D.view.table st.table (durable-legal past st img (in_place st img b) D) D.behind (page-kept past st img (in_place st img b) D a x inside dead) p l lp

  -- the lines now in those frames
  abbrev lines : ℕ → ℕ → List ℕ
  lines p l = line_bytes image z (frame_of (page_frames (word img)) z st.table p l) l

  durable : Durable past st image (in_place st image b)
  durable =
      placed st image (paged lines b) b C.valid
      (durable-stored past st img (in_place st img b) D a x inside (paged lines b) dead
      (λ p l lp ll.
      paged-line lines b p l
      (length-line image z (frame_of (page_frames (word img)) z st.table p l) l (committed-low st img C.valid D p l lp) ll (omega (arith, length-store img a x fits, durable-fits past st img (in_place st img b) D)))))

  -- no word of an entry is stored to
  entry-word : (d j : ℕ) → word image (entry_word z d + 1 + j) ≡ word img (entry_word z d + 1 + j)
  entry-word d j = word-store-other img a x (entry_word z d + 1 + j) fits (λ q. omega (arith, low))

  key-kept : (d : ℕ) → word image (entry_word z d) ≡ word img (entry_word z d)
  key-kept d = word-store-other img a x (entry_word z d) fits (λ q. omega (arith, low))

  entry_kept : (d : ℕ) → entry_bytes image z d ≡ entry_bytes img z d
  entry_kept d = eight-kept img a x (entry_word z d + 1) fits (λ j m q. omega (arith, low))

  -- nor one of a line without an entry
  other-kept : (p l : ℕ) → p < z.pages → l < 64 → entry_of st.wide.keys st.wide.count (key_of p l) ≡ st.wide.count → copy_of st image p l ≡ copy_of st img p l
  other-kept p l lp ll none =
      ap (λ (f : ℕ). line_bytes image z f l) (frame_same p l lp)
      ∙ line_kept img a x z (frame_of (page_frames (word img)) z st.table p l) l fits
      (λ j m q. entry-before st.wide.keys st.wide.count (key_of p l) e (omega arith) (same_line st img C.valid D e k p l j le lk lp ll m (sym q)).0)

  page-low : (d : ℕ) → d < st.wide.count → key_page (key_at st d) < z.pages
  page-low d ld = (valid st C.valid).entries.page-low d ld

  -- the words copied are one more
  landed : (d j : ℕ) → d < st.wide.count → j < 8 → 1 + (8 * d + j) < 1 + (8 * e + k) + 1 → 1 + (8 * e + k) ≡ st.pending.made
      → word image (copy_word st image (key_page (key_at st d)) (key_line (key_at st d)) j) ≡ word image (entry_word z d + 1 + j)
  landed d j ld lj lt made =
      let here : ℕ = copy_word st img (key_page (key_at st d)) (key_line (key_at st d)) j in
      ap (λ (f : ℕ). word image (line_word z f (key_line (key_at st d)) + j)) (frame_same (key_page (key_at st d)) (key_line (key_at st d)) (page-low d ld))
      ∙ case_on (eqb (8 * d + j) (8 * e + k))
      (λ t.
      let q : 8 * d + j ≡ 8 * e + k = eqb-true (8 * d + j) (8 * e + k) t in
      let u : d ≡ e = omega arith in
      let v : j ≡ k = omega arith in
      ap₂ (λ (g i : ℕ). word image (copy_word st img (key_page (key_at st g)) (key_line (key_at st g)) i)) u v
      ∙ word-store img a x fits (word_lt img (entry_word z e + 1 + k) D.bytes)
      ∙ sym (ap₂ (λ (g i : ℕ). word img (entry_word z g + 1 + i)) u v)
      ∙ sym (entry-word d j))
      (λ t.
      let n : 8 * d + j ≡ 8 * e + k → ⊥ = eqb-false (8 * d + j) (8 * e + k) t in
      word-store-other img a x here fits (λ q. let w = lines-apart st img C.valid D e k d j le ld lk lj q in omega (arith, n, w.0, w.1))
      ∙ C.landed d j ld lj (omega arith)
      ∙ sym (entry-word d j))

  -- with it made, whatever is left under way
  pub copied-one : 1 + (8 * e + k) ≡ st.pending.made → st.pending.made + 1 < needs st Copy → (w : Work) → (w ≡ idle) ⊎ (w ≡ under nothing (needs st Copy - (st.pending.made + 1)))
      → Copying past (with_made st (st.pending.made + 1)) image (with_work w b)
  unfolding needs
  copied-one made more w left =
      record {
        valid = made-valid st (st.pending.made + 1) C.valid (ap is_idle C.op) (subst (λ (o : Op). st.pending.made + 1 < needs st o) (sym C.op) more);
        op = C.op;
        begun = omega arith;
        four = C.four;
        sixty-four = C.sixty-four;
        unheld = C.unheld;
        durable = durable-made past st image (in_place st image b) (st.pending.made + 1) w durable;
        keys = C.keys ∙ keys-ext (word img) (word image) z st.wide.count (λ d _ _. sym (key-kept d));
        entry = λ d ld. entry_kept d ∙ C.entry d ld;
        other = λ p l lp ll none. other-kept p l lp ll none ∙ C.other p l lp ll none;
        landed = λ d j ld lj lt. landed d j ld lj (omega arith) made;
        no_writes = C.no_writes;
        work = left;
        book = C.book;
      }
