-- The state that a taken mount or format returns is valid: rows 5 to 7 give its slots and positions, and no writer is
-- open.
use lib.Dec.{eqb}
use borrow.Author.Tests.{eqb-false, ne_eqb}
use Rattle.bounded.proofs.Tests.{case_on, row_keeps}
use Rattle.refinement.specs.Settled.{no_pending}
use Rattle.operations.specs.Operations.{needs}
use Rattle.state.specs.Wide.{wide_of, no_wide}
use Rattle.state.specs.declared.Op.TheVariants.{Copy}
use Rattle.state.specs.declared.Pending.{Pending}
use Rattle.state.specs.State.{Wide, State, own_frame}
use Rattle.entries.proofs.EntryLaws.{length-keys, none_right, Right, entries-right}
use Rattle.entries.specs.Entries.{no_keys}
use Prim.Native.Nat.{ℕ, ◌+◌, ◌*◌, ◌<◌, ◌≤◌}
use mathlib.Core.Bool.{true}
use mathlib.Core.List.{List, ◌++◌}
use mathlib.Core.Path.{◌≡◌, refl, sym, ap, ◌∙◌, subst}
use native.Mathlib.Omega.{arith}
use lib.ListN.{length, get_or, replicate, length-replicate}
use Rattle.bounded.specs.Count.{Once}
use Rattle.bounded.specs.Tab.{tab}
use Rattle.bounded.proofs.Below.{up-keeps}
use Rattle.layout.specs.declared.Sizes.{Sizes}
use Rattle.layout.specs.Layout.{sizes_ok, frames, image_length, slot_word}
use Rattle.words.specs.Words.{Bytes, word}
use Rattle.layout.proofs.LayoutLaws.{legal}
use Rattle.words.proofs.WordLaws.{word_lt}
use Rattle.replay.specs.declared.Table.{Table}
use Rattle.journal.specs.Slots.{slot_from, free_slot}
use Rattle.journal.specs.Records.{live_record}
use Rattle.replay.specs.Table.{slot_in, last_in, with_slot, empty_table, table_from, home_of, frame_names}
use Rattle.replay.specs.Map.{page_frames, map_from}
use Rattle.replay.proofs.Maps.{length-map}
use Rattle.fresh.specs.Fresh.{formatted, fresh_table}
use Rattle.mount.specs.Mount.{mount_of}
use Rattle.replay.proofs.Tables.{Sixteen, sixteen-empty, sixteen-laid, sixteen-from, one_value}
use Rattle.replay.proofs.Latest.{sixteen-replay}
use Rattle.mount.proofs.View.{View, live, view_of, Shows, shown, table-shown}
use Rattle.mount.proofs.Verdict.{Taken, names_in, map_in, found_in, mount-taken, taken-mount, entry-shown, map-shown}
use Rattle.mount.proofs.LastRecords.{last-live, lasts-apart}
use Rattle.fresh.proofs.FreshWords.{length-formatted}
use Rattle.fresh.proofs.FreshMounts.{fresh_view, fresh-shows, fresh-taken}
use Rattle.state.specs.Held.{held_at, no_writer}
use Rattle.validity.specs.Validity.{state_ok, pending_ok}
use Rattle.masks.specs.Lines.{disjoint}
use Rattle.masks.proofs.Disjoint.{none-disjoint}
use Rattle.refinement.proofs.ValidWriters.{HeldFine}
use Rattle.refinement.proofs.ValidLasts.{last_at, LastsFine}
use Rattle.refinement.proofs.StateValid.{valid-ok}
use Rattle.refinement.proofs.Pending.{idle-ok, pends-ok}
use Rattle.refinement.proofs.Appended.{last-at}
use Rattle.refinement.proofs.OwnFrames.{fine-is}
use Rattle.refinement.proofs.Sized.{Low, set-low, replay-low, SizedWriters, Sized}
use Rattle.refinement.specs.Mount.{all_closed, quiet_state, mounted_state, fresh_state, copying, copying_state}

-- ---- nobody holds anything

nothing-held : (w s : ℕ) → held_at all_closed.held w s ≡ 0
nothing-held w s = one_value 64 (16 * w + s) 0

closed-held : (z : Sizes) (t : Table) → HeldFine z (slot_in t) all_closed.opened all_closed.held
closed-held z t =
    record {
      opens = λ s w l m n. absurd (n (nothing-held w s));
      owned = λ s w l m n. absurd (n (nothing-held w s));
      apart = λ s w v l a b d. ap (λ (x : ℕ). disjoint x (held_at all_closed.held v s)) (nothing-held w s) ∙ none-disjoint (held_at all_closed.held v s);
    }

empty-low : Low empty_table.bitmap
empty-low i = let e : get_or empty_table.bitmap i 0 ≡ 0 = one_value 16 i 0 in omega arith

closed-low : Low all_closed.held
closed-low i = let e : get_or all_closed.held i 0 ≡ 0 = one_value 64 i 0 in omega arith

closed-sized : SizedWriters all_closed
closed-sized = record { four = refl; sixty-four = refl; held_low = closed-low }

-- ---- a view that an image shows

module _ (img : List ℕ) (v : View) (shows : Shows img v) where
  pub view-sixteen : Sixteen v.table
  view-sixteen =
      subst Sixteen (sym (table-shown img v shows))
      (sixteen-replay v.sizes v.tail (live v) (live_record (word img) v.sizes v.tail) (table_from (word img) v.sizes) (sixteen-from (word img) v.sizes))

  pub view-names : names_in v ≡ frame_names (page_frames (word img)) v.sizes v.table
  unfolding frame_names
  view-names =
      let spares = tab v.sizes.slots (λ s. (slot_in v.table s).spare) in
      let homes : v.homes ≡ tab v.sizes.pages (home_of (page_frames (word img)) v.sizes v.table) =
      ap (λ (u : View). u.homes) (shown img v shows) ∙ ap (λ (t : Table). tab v.sizes.pages (home_of (page_frames (word img)) v.sizes t)) (sym (table-shown img v shows)) in
      ap (λ (h : List ℕ). spares ++ h) homes

  pub view-map : v.sizes.pages ≤ 1024 → length (map_in v) ≡ 1024
  view-map h = ap length (map-shown img v shows) ∙ length-map v.sizes.pages _ h

  view-bitmaps : Bytes img → Low v.table.bitmap
  unfolding table_from live_record
  view-bitmaps b =
      let r = word img in
      let z = v.sizes in
      let from : Low (table_from r z).bitmap =
      up-keeps (λ (t : Table). Low t.bitmap) (λ s t. with_slot t s (slot_from r (slot_word z s))) z.slots empty_table
      (λ s t l h. set-low t.bitmap s (r (slot_word z s + 2)) h (word_lt img (slot_word z s + 2) b))
      empty-low in
      subst (λ (t : Table). Low t.bitmap) (sym (table-shown img v shows))
      (replay-low z v.tail (live v) (live_record r z v.tail) (table_from r z) from (λ i. word_lt img _ b))

  module _ (taken : Taken (length img) v) where
    view-lasts : LastsFine v.sizes v.head v.tail (last_at v.table)
    view-lasts =
        let z = v.sizes in
        let g = taken.legal in
        let p = taken.positions in
        let at : (s : ℕ) → s < z.slots → last_at v.table s ≡ last_in v.table s = λ s l. last-at v.table s view-sixteen (omega arith) in
        record {
          low = λ s l n. rw (at s l) (last-live img v shows g p s l (λ q. n (at s l ∙ q))).0;
          live = λ s l n. rw (at s l) (last-live img v shows g p s l (λ q. n (at s l ∙ q))).1;
          apart = λ s k l m d n e. d (lasts-apart img v shows g p s k l m (λ q. n (at s l ∙ q)) (sym (at s l) ∙ e ∙ at k m));
        }

    -- a state with what is found, no writer open, and a wide transaction without a writer
    abbrev finding : Wide → Pending → State
    finding d q = record { sizes = v.sizes; head = v.head; tail = v.tail; next = 0; table = v.table; map = map_in v; writers = all_closed; wide = d; pending = q }

    finding-valid : (d : Wide) (q : Pending) → Right v.sizes d.keys d.count → 4 ≤ d.writer → pending_ok (finding d q) ≡ true → state_ok (finding d q) ≡ true
    finding-valid d q r none p =
        let z = v.sizes in
        let once : Once (frames z) (frame_names (page_frames (word img)) z v.table) = subst (Once (frames z)) view-names taken.names in
        let g = taken.legal in
        valid-ok (finding d q)
        (record {
          legal = g;
          positions = taken.positions;
          slots = fine-is (own_frame (finding d q)) (page_frames (word img)) z v.table (entry-shown img v shows) g taken.shapes taken.apart once;
          held = closed-held z v.table;
          next_low = omega arith;
          lasts = view-lasts;
          prepared = λ l. absurd (omega arith);
          entries = r;
          wide = λ l. absurd (omega arith);
          pending = p;
        })

    pub mount-valid : state_ok (quiet_state v.sizes v.head v.tail v.table (map_in v)) ≡ true
    mount-valid = finding-valid no_wide no_pending (none_right v.sizes no_keys) (omega arith) (idle-ok (finding no_wide no_pending) refl)

    -- with the copying of the entries that are counted pending
    pub copying-valid : (v.count ≡ 0 → ⊥) → state_ok (copying_state v.sizes v.head v.tail v.table (map_in v) v.count v.keys) ≡ true
    unfolding needs
    copying-valid some =
        let d = wide_of no_writer v.count v.keys in
        let low : 1 < needs (finding d copying) Copy = rw (ne_eqb v.count 0 some) (omega arith) in
        finding-valid d copying (entries-right v.sizes v.keys v.count taken.entries) (omega arith)
        (pends-ok (finding d copying) Copy refl (record { fits = refl; made-low = low; taken = refl }))

    pub mount-sized : Bytes img → Sized (quiet_state v.sizes v.head v.tail v.table (map_in v))
    mount-sized b =
        record {
          table = record { sixteen = view-sixteen; bitmap-low = view-bitmaps b };
          map = view-map taken.legal.pages-high;
          writers = closed-sized;
          keys = refl;
        }

-- ---- a taken mount, and a fresh image

module _ (img : List ℕ) (e : (mount_of img).row ≡ 0) where
  found : mounted_state (mount_of img) ≡ mounted_state (found_in (view_of (word img)))
  found = ap mounted_state (taken-mount img (view_of (word img)) refl (mount-taken img (view_of (word img)) refl e))

  pub mounted-valid : state_ok (mounted_state (mount_of img)) ≡ true
  mounted-valid =
      let v = view_of (word img) in
      let t = mount-taken img v refl e in
      ap state_ok found
      ∙ case_on (eqb v.count 0)
      (λ q. rw q (mount-valid img v refl t))
      (λ q. rw q (copying-valid img v refl t (eqb-false v.count 0 q)))

  pub mounted-sized : Bytes img → Sized (mounted_state (mount_of img))
  mounted-sized b =
      let v = view_of (word img) in
      let h = mount-sized img v refl (mount-taken img v refl e) b in
      subst Sized (sym found)
      (row_keeps Sized (eqb v.count 0) (quiet_state v.sizes v.head v.tail v.table (map_in v)) (copying_state v.sizes v.head v.tail v.table (map_in v) v.count v.keys)
      h (record { table = h.table; map = h.map; writers = h.writers; keys = length-keys (word img) v.sizes v.count }))

module _ (z : Sizes) (e : sizes_ok z ≡ true) where
  abbrev room : List ℕ
  room = replicate (image_length z) 0

  fits : image_length z ≤ length room
  fits = omega (arith, length-replicate {A = ℕ} (image_length z) 0)

  pub fresh-valid : state_ok (fresh_state z) ≡ true
  unfolding map_in map_from
  fresh-valid =
      mount-valid (formatted z room) (fresh_view z) (fresh-shows z (legal z e) room fits)
      (fresh-taken z (legal z e) (length (formatted z room)) (omega (arith, length-formatted z (legal z e) room fits, fits)))

  pub fresh-sized : Sized (fresh_state z)
  unfolding fresh_table
  fresh-sized =
      record {
        table =
            record {
              sixteen = sixteen-laid z.slots (λ s. free_slot (z.pages + s)) empty_table sixteen-empty;
              bitmap-low =
                  up-keeps (λ (t : Table). Low t.bitmap) (λ s t. with_slot t s (free_slot (z.pages + s))) z.slots empty_table
                  (λ s t l h. set-low t.bitmap s 0 h (omega arith)) empty-low;
            };
        map = length-map z.pages (λ p. p) (legal z e).pages-high;
        writers = closed-sized;
        keys = refl;
      }
