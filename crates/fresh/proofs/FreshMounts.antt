-- A formatted image mounts, and the mount finds the fresh slots, with head and tail 0.
use Prim.Native.Nat.{ℕ, zero, suc, ◌+◌, ◌≤◌, ◌<◌}
use mathlib.Core.Path.{◌≡◌, refl, sym, ap, ap₂, ◌∙◌, subst}
use mathlib.Core.Bool.{true, false, cond}
use mathlib.Core.List.{List, [], ◌∷◌}
use mathlib.Core.Logic.{◌⊎◌, inl, inr}
use native.Mathlib.Omega.{arith}
use native.Mathlib.Nat.{zero-add}
use lib.Dec.{ltb, eqb}
use lib.ListN.{length, get_or}
use borrow.Author.Tests.{ltb-true, ltb-false, eq-eqb, ne_eqb, eqb-true, eqb-false}
use Rattle.bounded.specs.Below.{one}
use Rattle.bounded.specs.Tab.{tab}
use Rattle.bounded.specs.Count.{count_of, Once}
use Rattle.bounded.proofs.Tests.{case_on}
use Rattle.bounded.proofs.Below.{all_made, first_holds}
use Rattle.bounded.proofs.Tab.{tab-ext}
use Rattle.bounded.proofs.Pigeonhole.{count-append}
use Rattle.layout.specs.declared.Sizes.{Sizes}
use Rattle.layout.specs.Layout.{Legal, sizes_ok, layout_of, frames, layout_word, head_word, tail_word, count_word, entries_word, slot_word, image_length}
use Rattle.words.specs.Words.{word}
use Rattle.layout.proofs.LayoutLaws.{legal}
use Rattle.journal.specs.declared.Slot.{Slot}
use Rattle.journal.specs.Slots.{no_page, slot_from, free_slot, shaped}
use Rattle.journal.specs.Records.{live_count}
use Rattle.replay.specs.Table.{slot_in, empty_table, table_from, slots_shaped, page_apart, pages_apart, slot_of, home_of}
use Rattle.replay.specs.Map.{page_frames, map_from}
use Rattle.entries.specs.Entries.{no_keys}
use Rattle.entries.proofs.EntryLaws.{no_keys_are, none_right, right-entries}
use Rattle.mount.specs.Mount.{wide_word, sizes_from, count_from, mount_of}
use Rattle.fresh.specs.Fresh.{formatted, fresh_table, fresh_map}
use Rattle.journal.proofs.Ring.{live-none, positions-none}
use Rattle.journal.proofs.SlotWords.{slot-back, free-shaped}
use Rattle.replay.proofs.Tables.{laid-slot, laid-ext, sixteen-empty}
use Rattle.mount.proofs.View.{View, view_with, Shows, header-view}
use Rattle.mount.proofs.Verdict.{record_in, names_in, map_in, Taken, taken-mount}
use Rattle.mount.proofs.HeadTail.{none-live}
use Rattle.journal.proofs.RightRecords.{right-all}
use Rattle.fresh.proofs.FreshWords.{length-formatted, formatted-header, formatted-page, formatted-slot}

-- ---- numbers in a row, each once

module _ (x a : ℕ) where
  run_more : (n : ℕ) → count_of x (tab (suc n) (λ i. a + i)) ≡ count_of x (tab n (λ i. a + i)) + one (eqb x (a + n))
  unfolding tab count_of
  run_more n = omega (arith, count-append x (tab n (λ i. a + i)) ((a + n) ∷ []))

  run_out : (n : ℕ) → (x < a) ⊎ (a + n ≤ x) → count_of x (tab n (λ i. a + i)) ≡ 0
  unfolding tab count_of one
  run_out zero h = refl
  run_out (suc n) (inl l) = run_more n ∙ rw (ne_eqb x (a + n) (λ e. omega arith), run_out n (inl l))
  run_out (suc n) (inr l) =
      let m : a + n ≤ x = omega arith in
      run_more n ∙ rw (ne_eqb x (a + n) (λ e. omega arith), run_out n (inr m))

  run_in : (n : ℕ) → a ≤ x → x < a + n → count_of x (tab n (λ i. a + i)) ≡ 1
  unfolding tab count_of one
  run_in zero l m = absurd (omega arith)
  run_in (suc n) l m =
      case_on (eqb x (a + n))
      (λ t.
      let k : a + n ≤ x = omega (arith, eqb-true x (a + n) t) in
      run_more n ∙ rw (t, run_out n (inr k)))
      (λ t.
      let k : x < a + n = omega (arith, eqb-false x (a + n) t) in
      run_more n ∙ rw (t, run_in n l k))

-- ---- the view of a fresh image

abbrev pub fresh_view : Sizes → View
fresh_view z = record { sizes = z; layout = layout_of z; head = 0; tail = 0; records = []; table = fresh_table z; homes = tab z.pages (λ p. p); count = 0; keys = no_keys }

-- slot s is free with spare P + s
pub fresh-slot : (z : Sizes) (s : ℕ) → Legal z → s < z.slots → slot_in (fresh_table z) s ≡ free_slot (z.pages + s)
unfolding fresh_table
fresh-slot z s g l = laid-slot z.slots (λ s. free_slot (z.pages + s)) empty_table s sixteen-empty l (omega arith)

-- no page has a slot
no_slot : (z : Sizes) (p : ℕ) → Legal z → p < z.pages → ltb (slot_of z (fresh_table z) p) z.slots ≡ false
no_slot z p g l =
    case_on (ltb (slot_of z (fresh_table z) p) z.slots)
    (λ t.
    let s : ℕ = slot_of z (fresh_table z) p in
    let m : slot_of z (fresh_table z) p < z.slots = ltb-true (slot_of z (fresh_table z) p) z.slots t in
    let e : (slot_in (fresh_table z) s).page ≡ p = eqb-true (slot_in (fresh_table z) s).page p (first_holds (λ s. eqb (slot_in (fresh_table z) s).page p) z.slots m) in
    let f : (slot_in (fresh_table z) s).page ≡ no_page = ap (λ (v : Slot). v.page) (fresh-slot z s g m) in
    absurd (omega arith))
    (λ t. t)

-- the header's last two words, as its layout has them read
wide-entries : (z : Sizes) (l n : ℕ) → l ≡ layout_of z → n ≡ z.entries → cond (eqb l 2) n 0 ≡ z.entries
wide-entries z l n e h =
    case_on (eqb z.entries 0)
    (λ t. rw (e, t) (sym (eqb-true z.entries 0 t)))
    (λ t. rw (e, t) h)

wide-none : (l n : ℕ) → n ≡ 0 → cond (eqb l 2) n 0 ≡ 0
wide-none l n e = case_on (eqb l 2) (λ t. rw t e) (λ t. rw t)

module _ (z : Sizes) (g : Legal z) (b : List ℕ) (fits : image_length z ≤ length b) where
  fresh-table : table_from (word (formatted z b)) z ≡ fresh_table z
  unfolding table_from fresh_table
  fresh-table =
      laid-ext z.slots (λ s. slot_from (word (formatted z b)) (slot_word z s)) (λ s. free_slot (z.pages + s)) empty_table
      (λ s l. slot-back (word (formatted z b)) (slot_word z s) (free_slot (z.pages + s)) (omega arith) (λ k m. formatted-slot z g b fits s k l m))

  fresh-home : (p : ℕ) → p < z.pages → home_of (page_frames (word (formatted z b))) z (fresh_table z) p ≡ p
  fresh-home p l = rw (no_slot z p g l) (formatted-page z g b fits p l)

  fresh-with : view_with (word (formatted z b)) z (layout_of z) 0 0 0 ≡ fresh_view z
  fresh-with =
      none-live (word (formatted z b)) z (layout_of z) 0 0 (fresh_table z) fresh-table
      ∙ ap₂ (λ (h k : List ℕ). record { sizes = z; layout = layout_of z; head = 0; tail = 0; records = []; table = fresh_table z; homes = h; count = 0; keys = k })
      (tab-ext z.pages (home_of (page_frames (word (formatted z b))) z (fresh_table z)) (λ p. p) fresh-home) (no_keys_are (word (formatted z b)) z)

  pub fresh-shows : Shows (formatted z b) (fresh_view z)
  fresh-shows =
      let r : ℕ → ℕ = word (formatted z b) in
      let e₀ : r 0 ≡ z.pages = formatted-header z g b fits 0 (omega arith) in
      let e₁ : r 1 ≡ z.slots = formatted-header z g b fits 1 (omega arith) in
      let e₂ : r 2 ≡ z.places = formatted-header z g b fits 2 (omega arith) in
      let e₃ : r layout_word ≡ layout_of z = formatted-header z g b fits 3 (omega arith) in
      let e₇ : wide_word r entries_word ≡ z.entries = wide-entries z (r layout_word) (r entries_word) e₃ (formatted-header z g b fits 7 (omega arith)) in
      header-view r (sizes_from r) z (r layout_word) (layout_of z) (r head_word) 0 (r tail_word) 0 (count_from r) 0
      (λ i. record { pages = e₀ i; slots = e₁ i; places = e₂ i; entries = e₇ i })
      e₃ (formatted-header z g b fits 4 (omega arith)) (formatted-header z g b fits 5 (omega arith))
      (wide-none (r layout_word) (r count_word) (formatted-header z g b fits 6 (omega arith)))
      ∙ fresh-with

-- ---- no row applies

module _ (z : Sizes) (g : Legal z) where
  fresh-shapes : slots_shaped z (fresh_table z) ≡ true
  fresh-shapes =
      all_made (λ s. shaped z (slot_in (fresh_table z) s)) z.slots
      (λ s l.
      subst (λ (v : Slot). shaped z v ≡ true) (sym (fresh-slot z s g l))
      (free-shaped z (free_slot (z.pages + s)) (record { page-none = refl; original-none = refl; bitmap-none = refl; spare_low = omega arith })))

  fresh-apart : pages_apart z (fresh_table z).page ≡ true
  fresh-apart =
      all_made (page_apart (fresh_table z).page) z.slots
      (λ s l.
      let e : get_or (fresh_table z).page s 0 ≡ no_page = ap (λ (v : Slot). v.page) (fresh-slot z s g l) in
      rw (eq-eqb (get_or (fresh_table z).page s 0) no_page e))

  -- the spares are the frames from P on, the homes those below P
  fresh-names : Once (frames z) (names_in (fresh_view z))
  fresh-names x l =
      let spares : tab z.slots (λ s. (slot_in (fresh_table z) s).spare) ≡ tab z.slots (λ s. z.pages + s) =
      tab-ext z.slots (λ s. (slot_in (fresh_table z) s).spare) (λ s. z.pages + s) (λ s m. ap (λ (v : Slot). v.spare) (fresh-slot z s g m)) in
      let homes : tab z.pages (λ p. p) ≡ tab z.pages (λ p. 0 + p) = tab-ext z.pages (λ p. p) (λ p. 0 + p) (λ p m. sym (zero-add p)) in
      count-append x (tab z.slots (λ s. (slot_in (fresh_table z) s).spare)) (tab z.pages (λ p. p))
      ∙ rw (spares, homes)
      (case_on (ltb x z.pages)
      (λ t.
      let m : x < z.pages = ltb-true x z.pages t in
      rw (run_out x z.pages z.slots (inl m), run_in x 0 z.pages (omega arith) (omega arith)))
      (λ t.
      let m : z.pages ≤ x = ltb-false x z.pages t in
      rw (run_in x z.pages z.slots m l, run_out x 0 z.pages (inr (omega arith)))))

  pub fresh-taken : (n : ℕ) → image_length z ≤ n → Taken n (fresh_view z)
  fresh-taken n fits =
      record {
        legal = g;
        layout = refl;
        fits = fits;
        positions = positions-none z g 0 (omega arith);
        records = right-all z 0 (record_in (fresh_view z)) (live_count z 0 0) (λ i l. absurd (omega (arith, live-none z 0)));
        shapes = fresh-shapes;
        apart = fresh-apart;
        names = fresh-names;
        entries = right-entries z no_keys 0 (none_right z no_keys);
      }

pub fresh-mounts : (z : Sizes) (b : List ℕ) → sizes_ok z ≡ true → image_length z ≤ length b
    → mount_of (formatted z b) ≡ record { row = 0; sizes = z; head = 0; tail = 0; table = fresh_table z; map = fresh_map z; count = 0; keys = no_keys }
unfolding map_in map_from
fresh-mounts z b e fits =
    let g : Legal z = legal z e in
    taken-mount (formatted z b) (fresh_view z) (fresh-shows z g b fits)
    (fresh-taken z g (length (formatted z b)) (omega (arith, length-formatted z g b fits)))
