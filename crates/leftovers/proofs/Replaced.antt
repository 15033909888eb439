-- Right after a mount with the leftovers replaced: no word that a mount reads is left over, and no word of a line that it shows is, so the image shows
-- what it showed, and the same lines.
use Prim.Native.Nat.{ℕ, ◌+◌, ◌*◌, ◌<◌, ◌≤◌}
use mathlib.Core.List.{List}
use mathlib.Core.Path.{◌≡◌, refl, sym, ap, ap₂, ◌∙◌, subst}
use native.Mathlib.Omega.{arith}
use lib.ListN.{length, get_or}
use borrow.Author.Tests.{lt-ltb, le-ltb}
use Rattle.layout.specs.declared.Sizes.{Sizes}
use Rattle.layout.specs.Layout.{Legal, frames, line_word, entry_word, image_words}
use Rattle.layout.proofs.LayoutLaws.{place-lt, line-end, line-apart, entry-apart}
use Rattle.words.specs.Words.{Bytes, word}
use Rattle.image.specs.Lines.{line_bytes}
use Rattle.image.proofs.LineLaws.{eight-ext, line-ext}
use Rattle.entries.specs.Entries.{key_of, key_page, key_line, entry_of}
use Rattle.entries.proofs.EntryLaws.{Right, entries-right, key_back, entry-before}
use Rattle.journal.specs.Records.{position}
use Rattle.replay.specs.declared.Table.{Table}
use Rattle.replay.specs.Map.{page_frames}
use Rattle.mount.proofs.View.{View, Shows, Read, header, wide, journal, slot, page, entry, same_view}
use Rattle.mount.proofs.Verdict.{Taken, entry-shown}
use Rattle.mount.proofs.Dead.{Dead, dead-between, dead-line, dead-entry, dead-place, dead-slot, dead-page}
use Rattle.state.specs.State.{Wide, own_frame}
use Rattle.state.specs.declared.Pending.{Pending}
use Rattle.refinement.specs.Stores.{World}
use Rattle.refinement.specs.Calls.{world_of}
use Rattle.refinement.specs.Recall.{frame_of}
use Rattle.refinement.specs.Wide.{entry_bytes, shown_line}
use Rattle.refinement.specs.Beside.{counted}
use Rattle.refinement.specs.Reference.{Reference}
use Rattle.refinement.proofs.Copying.{shown_by}
use Rattle.refinement.proofs.OwnFrames.{frame_is}
use Rattle.refinement.proofs.Remount.{Shown, copy-low, one-page}
use Rattle.leftovers.specs.Leftovers.{Leftover, journal-place, under-record, slotted-page, padding, other-copy, past-entries, under-entry, copied_word, Replaced}
use Rattle.leftovers.proofs.AfterMount.{found_state, Found}
use Rattle.leftovers.proofs.Alike.{Alike}

-- the words that a mount reads lie inside the image
read-inside : (v : View) → Legal v.sizes → (a : ℕ) → Read v a → a < image_words v.sizes
read-inside v g a (header h) = omega arith
read-inside v g a (wide q h) = omega arith
read-inside v g a (journal i k h l e) = omega (arith, place-lt v.sizes g (position v.sizes v.tail i))
read-inside v g a (slot s k h q l e) = omega arith
read-inside v g a (page p h q e) = omega arith
read-inside v g a (entry e h l q) = omega arith

module _ (img : List ℕ) (view : View) (shows : Shows img view) (taken : Taken (length img) view) (d : Wide) (w : Pending) (F : Found view d w) where
  abbrev z : Sizes
  z = view.sizes

  abbrev t : Table
  t = view.table

  abbrev n : ℕ
  n = view.count

  abbrev pub v : World
  v = world_of (found_state view d w) img

  legal : Legal z
  legal = taken.legal

  abbrev own : ℕ → ℕ
  own = own_frame (found_state view d w)

  abbrev copy_of : ℕ → ℕ → ℕ
  copy_of p l = frame_of own z t p l

  -- by the map it lies where it lies by the page table
  own_same : (p l : ℕ) → p < z.pages → copy_of p l ≡ frame_of (page_frames (word img)) z t p l
  own_same = frame_is own (page_frames (word img)) z t (entry-shown img view shows)

  low : (p l : ℕ) → p < z.pages → copy_of p l < frames z
  low p l m = subst (λ (f : ℕ). f < frames z) (sym (own_same p l m)) (copy-low img view shows taken p l m)

  right : Right z view.keys n
  right = entries-right z view.keys n taken.entries

  -- the key of an entry that is counted
  abbrev key : ℕ → ℕ
  key e = get_or d.keys e 0

  pub key-page : (e : ℕ) → e < n → key_page (key e) < z.pages
  key-page e l = subst (λ (k : ℕ). key_page k < z.pages) (sym (F.keys e l)) (right.page-low e l)

  -- its line lies in a frame of the image
  pub copied-inside : (e : ℕ) → e < counted (found_state view d w) → copied_word v (key e) + 8 ≤ image_words z
  copied-inside e l =
      let p : ℕ = key_page (key e) in
      let m : ℕ = key_line (key e) in
      omega (arith, line-end z (copy_of p m) m (low p m (key-page e (omega (arith, l, F.count)))) (omega arith))

  -- a mount reads no leftover
  left-dead : (a : ℕ) → Leftover v a → Dead view a
  left-dead a (journal-place q k l f e) = subst (Dead view) (sym e) (dead-place view legal q k l (λ i m. f i (omega (arith, m))))
  left-dead a (under-record s k h l f e) = subst (Dead view) (sym e) (dead-slot view s k h l (λ n. f n))
  left-dead a (slotted-page p h f e) = subst (Dead view) (sym e) (dead-page view p h (omega (arith, f)))
  left-dead a (padding l m) = dead-between view legal a l (omega arith)
  left-dead a (other-copy f l k lf ll lk n e) = subst (Dead view) (sym e) (dead-line view legal f l k lf ll lk)
  left-dead a (past-entries e k l m lk at) = subst (Dead view) (sym at) (dead-entry view legal e k lk (λ q. omega (arith, l, F.count)))
  left-dead a (under-entry e k l lk at) =
      subst (Dead view) (sym at) (dead-line view legal (copy_of (key_page (key e)) (key_line (key e))) (key_line (key e)) k (low (key_page (key e)) (key_line (key e)) (key-page e (omega (arith, l, F.count)))) (omega arith) lk)

  -- nor is a word of the committed copy of a line without an entry one
  committed-left : (p l k : ℕ) → p < z.pages → l < 64 → k < 8 → entry_of view.keys n (key_of p l) ≡ n → (a : ℕ) → a ≡ line_word z (copy_of p l) l + k → Leftover v a → ⊥
  committed-left p l k lp ll lk bare a at (journal-place q j m f e) = omega (arith, place-lt z legal q)
  committed-left p l k lp ll lk bare a at (under-record s j h m f e) = omega arith
  committed-left p l k lp ll lk bare a at (slotted-page q h f e) = omega arith
  committed-left p l k lp ll lk bare a at (padding m n) = omega arith
  committed-left p l k lp ll lk bare a at (other-copy f m j lf lm lj n e) =
      let w = line-apart z (copy_of p l) l k f m j ll lm lk lj (sym at ∙ e) in
      n p (omega (arith, lp)) (ap (copy_of p) (sym w.1) ∙ w.0)
  committed-left p l k lp ll lk bare a at (past-entries e j m le lj q) = omega (arith, line-end z (copy_of p l) l (low p l lp) ll)
  committed-left p l k lp ll lk bare a at (under-entry e j m lj q) =
      let i : ℕ = key e in
      let le : e < n = omega (arith, m, F.count) in
      let w = line-apart z (copy_of p l) l k (copy_of (key_page i) (key_line i)) (key_line i) j ll (omega arith) lk lj (sym at ∙ q) in
      let one : p ≡ key_page i = one-page img view shows taken p l (key_page i) (key_line i) lp (key-page e le) (sym (own_same p l lp) ∙ w.0 ∙ own_same (key_page i) (key_line i) (key-page e le)) in
      entry-before view.keys n (key_of p l) e (omega (arith, le, bare)) (sym (F.keys e le) ∙ sym (key_back i) ∙ sym (ap₂ key_of one w.1))

  -- or of an entry that is counted
  entry-left : (e k : ℕ) → e < n → k < 9 → (a : ℕ) → a ≡ entry_word z e + k → Leftover v a → ⊥
  entry-left e k le lk a at (journal-place q j m f x) = omega (arith, place-lt z legal q)
  entry-left e k le lk a at (under-record s j h m f x) = omega arith
  entry-left e k le lk a at (slotted-page q h f x) = omega arith
  entry-left e k le lk a at (padding m n) = omega arith
  entry-left e k le lk a at (other-copy f m j lf lm lj n x) = omega (arith, line-end z f m lf lm)
  entry-left e k le lk a at (past-entries i j m li lj x) = omega (arith, (entry-apart z e k i j lk lj (sym at ∙ x)).0, m, F.count, le)
  entry-left e k le lk a at (under-entry i j m lj x) =
      omega (arith, line-end z (copy_of (key_page (key i)) (key_line (key i))) (key_line (key i)) (low (key_page (key i)) (key_line (key i)) (key-page i (omega (arith, m, F.count)))) (omega arith))

  module _ (image : List ℕ) (R : Replaced v image) where
    read_kept : (a : ℕ) → Read view a → word image a ≡ word img a
    read_kept a q = R.kept a (read-inside view legal a q) (λ l. left-dead a l q)

    pub still-shows : Shows image view
    still-shows = sym (same_view (word img) (word image) (λ a q. sym (read_kept a (subst (λ (u : View). Read u a) shows q)))) ∙ shows

    pub still-taken : Taken (length image) view
    still-taken = subst (λ (n : ℕ). Taken n view) (sym R.as_long) taken

    pub frame_same : (p l : ℕ) → p < z.pages → frame_of (page_frames (word image)) z t p l ≡ copy_of p l
    frame_same p l low = sym (frame_is own (page_frames (word image)) z t (entry-shown image view still-shows) p l low)

    -- the line of an entry that is counted, and that of a committed copy without one
    entry-same : Bytes img → (e : ℕ) → e < n → entry_bytes image z e ≡ entry_bytes img z e
    entry-same bytes e le =
        let few = right.few in
        eight-ext image img (entry_word z e + 1) (entry_word z e + 1) R.bytes bytes (omega (arith, few, le, still-taken.fits)) (omega (arith, few, le, taken.fits))
        (λ k lk. R.kept (entry_word z e + 1 + k) (omega (arith, few, le)) (entry-left e (1 + k) le (omega arith) (entry_word z e + 1 + k) (omega arith)))

    copy-same : Bytes img → (p l : ℕ) → p < z.pages → l < 64 → entry_of view.keys n (key_of p l) ≡ n
        → line_bytes image z (frame_of (page_frames (word image)) z t p l) l ≡ line_bytes img z (copy_of p l) l
    copy-same bytes p l lp ll bare =
        let f : ℕ = copy_of p l in
        let lf = low p l lp in
        ap (λ (g : ℕ). line_bytes image z g l) (frame_same p l lp)
        ∙ line-ext image img z f l f l R.bytes bytes lf ll lf ll still-taken.fits taken.fits
        (λ k lk. R.kept (line_word z f l + k) (omega (arith, line-end z f l lf ll)) (committed-left p l k lp ll lk bare (line_word z f l + k) refl))

    pub still-shown : (b : Reference) → Bytes img → Shown img view b → Shown image view b
    still-shown b bytes c p l lp ll =
        let same : shown_line image (page_frames (word image)) z t n view.keys p l ≡ shown_line img (page_frames (word img)) z t n view.keys p l =
        shown_by view.keys n p l
        (λ e m q k. rw (q, lt-ltb e n m) (entry-same bytes e m))
        (λ q. rw (q, le-ltb n n (omega arith)) (copy-same bytes p l lp ll q ∙ ap (λ (f : ℕ). line_bytes img z f l) (own_same p l lp))) in
        same ∙ c p l lp ll

    pub still_alike : Alike img image
    still_alike = record { table = ap (λ (u : View). u.table) (shows ∙ sym still-shows) }
