-- A format cut after any store: the layout word decides what stands in the memory.
use Prim.Native.Nat.{ℕ, ◌+◌, ◌-◌, ◌*◌, ◌<◌, ◌≤◌, min}
use mathlib.Core.Bool.{Bool, true, false, not, ◌&&◌, ◌||◌, cond}
use mathlib.Core.List.{List, [], ◌∷◌}
use mathlib.Core.Path.{◌≡◌, refl, sym, ap, ap₂, ◌∙◌, subst}
use native.Mathlib.Omega.{arith}
use lib.Dec.{eqb, ltb}
use lib.ListN.{length, drop, get_or, replicate}
use borrow.Author.Tests.{eq-eqb, ne_eqb, eqb-true, eqb-false, le-ltb}
use Rattle.bounded.specs.Rows.{refusal}
use Rattle.bounded.proofs.Rows.{row_at}
use Rattle.bounded.proofs.Tests.{case_on}
use Rattle.layout.specs.declared.Sizes.{Sizes}
use Rattle.layout.specs.Layout.{Legal, sizes_ok, layout_word, image_words, image_length}
use Rattle.layout.proofs.LayoutLaws.{legal}
use Rattle.words.specs.Words.{Bytes, word}
use Rattle.mount.specs.Mount.{Mounted, mount_rows, mount_read, mount_of}
use Rattle.fresh.specs.Fresh.{formatted, format_stores, format_row, format_rows}
use Rattle.fresh.proofs.FreshStores.{stores-none, stores-length, stores-bytes, stores-past, stores-all, half-layout}
use Rattle.fresh.proofs.FreshMounts.{fresh-mounts}
use Rattle.state.specs.State.{State}
use Rattle.state.specs.declared.Op.TheVariants.{Format}
use Rattle.operations.specs.Operations.{is_idle, needs}
use Rattle.validity.specs.Validity.{state_ok, slots_ok}
use Rattle.refinement.specs.Stores.{World, state_after, with_made, completed}
use Rattle.refinement.specs.Calls.{world_of}
use Rattle.refinement.specs.Outcome.{Outcome}
use Rattle.refinement.specs.Mount.{no_state, mount_call, mounted_state, fresh_state, format_of}
use Rattle.refinement.specs.Recall.{recall_row, recall_rows, recall_bytes}
use Rattle.refinement.specs.Run.{Call, mount, run, exec, formatted_world, after}
use Rattle.refinement.specs.CutFormat.{asked_format, format_cut, Cut, left_by, ByState, Half, Fresh, CutAt, FormatCuts}
use Rattle.refinement.proofs.Pending.{made-valid}
use Rattle.refinement.proofs.Nine.{nine}
use Rattle.refinement.proofs.Start.{format-world}
use Rattle.refinement.proofs.CallReached.{call-bytes}
use Rattle.refinement.proofs.PastUntouched.{past-untouched}
use Rattle.refinement.proofs.FormatAsked.{formatting, format-valid, format-left, cut-image, cut-state}

-- ---- an image whose layout word is 0

module _ (img : List ℕ) (long : 64 ≤ length img) (zero : word img layout_word ≡ 0) where
  unknown : not (eqb (word img layout_word) 1 || eqb (word img layout_word) 2) ≡ true
  unknown = rw zero

  pub half-image : Half img
  unfolding mount_call mount_of mount_read recall_row recall_bytes
  half-image =
      let e : 2 ≡ refusal (mount_rows (length img) (word img)) = row_at (mount_rows (length img) (word img)) 1 (omega arith) (le-ltb (length img) 64 long, tt) unknown in
      let f : (p l : ℕ) (target : List ℕ) → 2 ≡ refusal (recall_rows img p l target) = λ p l target. row_at (recall_rows img p l target) 1 (omega arith) (le-ltb (length img) 64 long, tt) unknown in
      record {
        mount-two = rw (← e);
        recall-two = λ p l target. sym (f p l target);
        recall-nothing = λ p l target. rw (← f p l target);
      }

-- ---- one format

module _ (z : Sizes) (ok : sizes_ok z ≡ true) (buffer : List ℕ) (bytes : Bytes buffer) (fits : image_length z ≤ length buffer) (k : ℕ) where
  abbrev n : ℕ
  n = min k (image_words z + 1)

  g : Legal z
  g = legal z ok

  abbrev v : World
  v = format_cut z buffer k

  image : v.image ≡ format_stores z n buffer
  image = cut-image z ok buffer fits k

  as_long : length v.image ≡ length buffer
  as_long = ap (length {A = ℕ}) image ∙ stores-length z g buffer fits n (omega arith)

  old : k ≡ 0 → v.image ≡ buffer
  old e =
      let m : n ≡ 0 = omega arith in
      image ∙ ap (λ (i : ℕ). format_stores z i buffer) m ∙ stores-none z g buffer fits

  half : 0 < k → k ≤ image_words z → Half v.image
  half a b =
      let m : n ≡ k = omega arith in
      let layout : word v.image layout_word ≡ 0 =
      ap (λ (l : List ℕ). word l layout_word) (image ∙ ap (λ (i : ℕ). format_stores z i buffer) m) ∙ half-layout z g buffer fits k a b in
      half-image v.image (omega (arith, as_long, g.pages-low)) layout

  whole : image_words z < k → v ≡ world_of (fresh_state z) (formatted z buffer)
  unfolding needs
  whole l =
      let m : n ≡ image_words z + 1 = omega arith in
      let img : v.image ≡ formatted z buffer = image ∙ ap (λ (i : ℕ). format_stores z i buffer) m ∙ stores-all z g buffer fits in
      let last : eqb (0 + n) (image_words z + 1) ≡ true = eq-eqb (0 + n) (image_words z + 1) (omega arith) in
      let st : v.st ≡ fresh_state z = cut-state z ok buffer fits k ∙ rw last in
      λ i. world_of (st i) (img i)

  state-mid : k ≤ image_words z → v.st ≡ with_made (formatting z) (0 + n)
  unfolding needs
  state-mid l =
      let more : eqb (0 + n) (image_words z + 1) ≡ false = ne_eqb (0 + n) (image_words z + 1) (λ e. omega arith) in
      cut-state z ok buffer fits k ∙ rw more

  mounts : image_words z < k → Fresh z v.image × (v.st ≡ fresh_state z)
  unfolding mount_call
  mounts l =
      let e : mount_of v.image ≡ record { row = 0; sizes = z; head = 0; tail = 0; table = _; map = _; count = 0; keys = _ } = ap (λ (u : World). mount_of u.image) (whole l) ∙ fresh-mounts z buffer ok fits in
      (record { taken = ap (λ (m : Mounted). m.row) e; state = rw e }, ap (λ (u : World). u.st) (whole l))

  nines : k ≤ image_words z → (c : Call) → ByState c → (exec c v).number ≡ 9
  unfolding needs
  nines l c a =
      let e : v ≡ world_of (with_made (formatting z) (0 + n)) v.image = ap (λ (s : State). world_of s v.image) (state-mid l) in
      let valid : state_ok (with_made (formatting z) (0 + n)) ≡ true = made-valid (formatting z) (0 + n) (format-valid z ok) refl (omega arith) in
      ap (λ (u : World). (exec c u).number) e ∙ nine (world_of (with_made (formatting z) (0 + n)) v.image) valid (omega (arith, as_long)) refl c a

  pub cut_at : CutAt z buffer k (format_cut z buffer k)
  cut_at =
      record {
        old = old;
        half = half;
        whole = λ l. whole l ∙ sym (format-world z ok buffer bytes fits);
        mounts = mounts;
        nine = nines;
        past = ap (drop (image_length z)) image ∙ stores-past z g buffer fits n (omega arith);
        bytes = subst Bytes (sym image) (stores-bytes z g buffer fits n bytes);
        as_long = as_long;
      }

-- ---- any number of them

-- what a format leaves, refused or cut, are bytes, as many as before
left-bytes : (cuts : List Cut) (buffer : List ℕ) → Bytes buffer → Bytes (left_by cuts buffer)
unfolding left_by
left-bytes [] buffer b = b
left-bytes (c ∷ cs) buffer b = left-bytes cs (format_cut c.sizes buffer c.stores).image (call-bytes (run c.stores) (asked_format c.sizes buffer) b)

left-length : (cuts : List Cut) (buffer : List ℕ) → length (left_by cuts buffer) ≡ length buffer
unfolding left_by
left-length [] buffer = refl
left-length (c ∷ cs) buffer =
    left-length cs (format_cut c.sizes buffer c.stores).image ∙ (past-untouched.call (run c.stores) (asked_format c.sizes buffer)).as_long

pub format-cuts : FormatCuts
format-cuts z ok buffer bytes fits cuts k = cut_at z ok (left_by cuts buffer) (left-bytes cuts buffer bytes) (omega (arith, left-length cuts buffer)) k
