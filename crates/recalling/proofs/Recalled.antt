-- What recall gives: mount's number, or row 11's, or the committed line, which is that of its entry where one is counted. A taken mount's names name each
-- frame once, so the frame of that line is one of the F; its entries are at most L.
use Prim.Native.Nat.{ℕ, ◌<◌, ◌≤◌}
use mathlib.Core.Bool.{Bool, true, false, ◌||◌, cond}
use mathlib.Core.List.{List, [], ◌∷◌}
use mathlib.Core.Path.{◌≡◌, refl, sym, ap, ◌∙◌, subst}
use native.Mathlib.Omega.{arith}
use lib.Dec.{ltb, leb, eqb}
use lib.ListN.{length}
use borrow.Author.Tests.{ltb-true, ltb-false, leb-false, eqb-true, eq-eqb, ne_eqb, lt-ltb, le-ltb}
use Rattle.bounded.specs.Count.{Once}
use Rattle.bounded.specs.Rows.{Row, refusal}
use Rattle.bounded.proofs.Rows.{none-apply, rows-first, rows_then}
use Rattle.bounded.proofs.Tests.{case_on, or_left, or_right}
use Rattle.layout.specs.declared.Sizes.{Sizes}
use Rattle.layout.specs.Layout.{Legal, frames, image_length}
use Rattle.image.specs.Lines.{line_bytes}
use Rattle.words.specs.Words.{word, over}
use Rattle.mount.specs.declared.Judged.{Judged}
use Rattle.replay.specs.declared.Table.{Table}
use Rattle.entries.specs.Entries.{key_of, entry_of}
use Rattle.entries.proofs.EntryLaws.{entries-right}
use Rattle.mount.specs.Mount.{mount_of, judged, mount_read, mount_rows, sizes_from, count_from, keys_after, found}
use Rattle.replay.specs.Table.{slot_in, slot_of, frame_names}
use Rattle.replay.specs.Map.{page_frames}
use Rattle.mount.proofs.Verdict.{mount-taken, taken-mount}
use Rattle.mount.proofs.View.{view_of}
use Rattle.masks.specs.Lines.{in_mask}
use Rattle.refinement.proofs.NamesOnce.{spare_low, home-low}
use Rattle.refinement.specs.Wide.{entry_bytes}
use Rattle.refinement.specs.Recall.{frame_of, recall_row, recall_bytes}

-- mount's number is that of its rows
mount-row : (img : List ℕ) → (mount_of img).row ≡ refusal (mount_rows (length img) (word img))
unfolding mount_of mount_read
mount-row img =
    let row : ℕ = refusal (mount_rows (length img) (word img)) in
    case_on (eqb row 0) (λ t. rw t (sym (eqb-true row 0 t))) (λ t. rw t)

-- the frame of a committed copy is one that the names name
frame-low : (r : ℕ → ℕ) (z : Sizes) (t : Table) → Once (frames z) (frame_names r z t) → (p l : ℕ) → p < z.pages → frame_of r z t p l < frames z
frame-low r z t once p l h =
    case_on (ltb (slot_of z t p) z.slots)
    (λ b.
    case_on (in_mask (slot_in t (slot_of z t p)).bitmap l)
    (λ c. rw (b, c) (spare_low r z t once (slot_of z t p) (ltb-true (slot_of z t p) z.slots b)))
    (λ c. rw (b, c) (rw b at (home-low r z t once p h))))
    (λ b. rw b (rw b at (home-low r z t once p h)))

module _ (img : List ℕ) (p l : ℕ) (target : List ℕ) where
  -- row 11, for P pages
  abbrev args_bad : ℕ → Bool
  args_bad pages = leb pages p || ltb 63 l || ltb (length target) 64

  -- a refused recall leaves the target alone
  pub recall-kept : (n : ℕ) → n ≡ recall_row img p l target → (n ≡ 0 → ⊥) → target ≡ recall_bytes img p l target
  unfolding recall_bytes
  recall-kept n e h = rw (ne_eqb (recall_row img p l target) 0 (λ z. h (e ∙ z)))

  abbrev rest : List Row
  rest = (args_bad (sizes_from (word img)).pages, 11) ∷ []

  -- mount turns it back
  pub recall-unmounted : (n : ℕ) → n ≡ (mount_of img).row → (n ≡ 0 → ⊥) → n ≡ recall_row img p l target
  unfolding recall_row
  recall-unmounted n e h = rows-first (mount_rows (length img) (word img)) rest n (e ∙ mount-row img) h

  -- past mount's rows, row 11 decides
  number : (b : Bool) → args_bad (sizes_from (word img)).pages ≡ b → (mount_of img).row ≡ 0 → cond b 11 0 ≡ recall_row img p l target
  unfolding recall_row
  number b e z =
      let rows = mount_rows (length img) (word img) in
      rows_then rows rest (cond b 11 0) (none-apply rows (omega arith) (sym (mount-row img) ∙ z)) (rw e)

  -- what mount found, where it takes the image
  takes : (m : Judged) → (mount_of img).row ≡ 0 → m ≡ judged (mount_of img) → m ≡ judged (found (word img))
  takes m z e = let v = view_of (word img) in e ∙ ap judged (taken-mount img v refl (mount-taken img v refl z))

  pub recall-bad : (m : Judged) → (mount_of img).row ≡ 0 → m ≡ judged (mount_of img) → args_bad m.sizes.pages ≡ true → 11 ≡ recall_row img p l target
  recall-bad m z e b = number true (subst (λ (x : Judged). args_bad x.sizes.pages ≡ true) (takes m z e) b) z

  -- and where it takes the arguments too
  pub record Recalled (m : Judged) : Type 0 where
    pub legal : Legal m.sizes
    pub fits : image_length m.sizes ≤ length img
    pub page-low : p < m.sizes.pages
    pub line_low : l < 64
    pub target-long : 64 ≤ length target
    pub few : m.count ≤ m.sizes.entries
    pub low : (f : ℕ) → f ≡ frame_of (page_frames (word img)) m.sizes m.table p l → f < frames m.sizes
    pub answer : 0 ≡ recall_row img p l target
    pub entry : (e : ℕ) → e ≡ entry_of m.keys m.count (key_of p l) → e < m.count → over target 0 (entry_bytes img m.sizes e) ≡ recall_bytes img p l target
    pub line : (e f : ℕ) → e ≡ entry_of m.keys m.count (key_of p l) → m.count ≤ e → f ≡ frame_of (page_frames (word img)) m.sizes m.table p l
        → over target 0 (line_bytes img m.sizes f l) ≡ recall_bytes img p l target

  found-recalled : (mount_of img).row ≡ 0 → args_bad (sizes_from (word img)).pages ≡ false → Recalled (judged (found (word img)))
  unfolding frame_names recall_bytes
  found-recalled z b =
      let r = word img in
      let pages : ℕ = (sizes_from r).pages in
      let h = mount-taken img (view_of r) refl z in
      let a = or_left (leb pages p || ltb 63 l) (ltb (length target) 64) b in
      let q : p < pages = leb-false pages p (or_left (leb pages p) (ltb 63 l) a) in
      let taken : eqb (recall_row img p l target) 0 ≡ true = eq-eqb (recall_row img p l target) 0 (sym (number false b z)) in
      record {
        legal = h.legal;
        fits = h.fits;
        page-low = q;
        line_low = omega (arith, ltb-false 63 l (or_right (leb pages p) (ltb 63 l) a));
        target-long = ltb-false (length target) 64 (or_right (leb pages p || ltb 63 l) (ltb (length target) 64) b);
        low = λ f e. rw e (frame-low (page_frames r) (sizes_from r) (view_of r).table h.names p l q);
        answer = number false b z;
        few = (entries-right (sizes_from r) (view_of r).keys (view_of r).count h.entries).few;
        entry = λ e q c.
            let t : ltb (entry_of (keys_after r) (count_from r) (key_of p l)) (count_from r) ≡ true = rw (← q) (lt-ltb e (count_from r) c) in
            rw (q, taken, t);
        line = λ e f q c g.
            let t : ltb (entry_of (keys_after r) (count_from r) (key_of p l)) (count_from r) ≡ false = rw (← q) (le-ltb e (count_from r) c) in
            rw (g, taken, t);
      }

  pub recalled : (m : Judged) → (mount_of img).row ≡ 0 → m ≡ judged (mount_of img) → args_bad m.sizes.pages ≡ false → Recalled m
  recalled m z e b =
      let f = takes m z e in
      subst Recalled (sym f) (found-recalled z (subst (λ (x : Judged). args_bad x.sizes.pages ≡ false) f b))
