-- Commit: its records, and the state after its last store. The numbers are what the code found.
use Prim.Native.Nat.{ℕ, zero, suc, ◌+◌, ◌*◌}
use mathlib.Core.Bool.{Bool, false}
use mathlib.Core.List.{List}
use mathlib.Core.Path.{◌≡◌, refl, sym, ap, ◌∙◌}
use lib.ListN.{length, get_or, set}
use lib.Seq.{set-get_or}
use Rattle.bounded.specs.Below.{up_to}
use Rattle.bounded.proofs.Below.{up_turn}
use Rattle.masks.specs.Lines.{exclusive_or}
use Rattle.layout.specs.declared.Sizes.{Sizes}
use Rattle.journal.specs.declared.Slot.{Slot}
use Rattle.journal.specs.declared.Record.{Record}
use Rattle.replay.specs.declared.Table.{Table}
use Rattle.journal.specs.Records.{position}
use Rattle.replay.specs.Table.{slot_in, replaced, replay}
use Rattle.state.specs.State.{State}
use Rattle.state.specs.declared.Pending.{Pending}
use Rattle.state.specs.Held.{no_writer, held_at, held_slots}
use Rattle.refinement.specs.Commit.{commit_slots, commit_record, commit_head, bitmaps_after, lasts_after, closed_writer, commit_done, commit_record_of}
use Rattle.refinement.specs.Settled.{no_pending, settled, with_prepared}

-- the record that the code found
pub commit-made : (z : Sizes) (head : ℕ) (t : Table) (held : List ℕ) (w j s b : ℕ) (u : Slot) → s ≡ get_or (held_slots z held w) j 0 → u ≡ slot_in t s → b ≡ exclusive_or u.bitmap (held_at held w s)
    → ◌≡◌ {A = Record} (record { first = head; slot = s; now = record { page = u.page; original = u.original; spare = u.spare; bitmap = b } }) (commit_record_of z head t held w j)
unfolding commit_record_of
commit-made z head t held w j s b u e f g = rw (g, f, e)

-- ---- the state after the last store

-- one slot more
pub bitmaps-turn : (z : Sizes) (bitmap held : List ℕ) (w j s v : ℕ) (m : List ℕ) → m ≡ bitmaps_after z bitmap held w j → s ≡ get_or (held_slots z held w) j 0
    → v ≡ exclusive_or (get_or bitmap s 0) (held_at held w s) → set m s v ≡ bitmaps_after z bitmap held w (j + 1)
bitmaps-turn z bitmap held w j s v m a b c = rw (c, b) (up_turn _ bitmap m j a)

pub lasts-turn : (z : Sizes) (head : ℕ) (last held : List ℕ) (w j s q : ℕ) (m : List ℕ) → m ≡ lasts_after z head last held w j → s ≡ get_or (held_slots z held w) j 0
    → q ≡ position z head j → set m s q ≡ lasts_after z head last held w (j + 1)
lasts-turn z head last held w j s q m a b c = rw (c, b) (up_turn _ last m j a)

module _ (st : State) (w : ℕ) where
  abbrev table_with : List ℕ → List ℕ → Table
  table_with bitmap last = record { page = st.table.page; original = st.table.original; spare = st.table.spare; bitmap = bitmap; last = last }

  -- a record's page and frames are its slot's own
  table-after : (n : ℕ) → up_to n (λ i u. replaced u (commit_record st w i) (position st.sizes st.head i)) st.table
      ≡ table_with (bitmaps_after st.sizes st.table.bitmap st.writers.held w n) (lasts_after st.sizes st.head st.table.last st.writers.held w n)
  unfolding up_to commit_record_of
  table-after zero = refl
  table-after (suc n) =
      let s = get_or (commit_slots st w) n 0 in
      ap (λ (u : Table). replaced u (commit_record st w n) (position st.sizes st.head n)) (table-after n)
      ∙ rw (set-get_or st.table.page s 0, set-get_or st.table.original s 0, set-get_or st.table.spare s 0)

  pub commit-done : (n q : ℕ) (bitmap last held : List ℕ) (opened : List Bool) (i : Pending) → n ≡ length (commit_slots st w) → q ≡ position st.sizes st.head n
      → bitmap ≡ bitmaps_after st.sizes st.table.bitmap st.writers.held w n → last ≡ lasts_after st.sizes st.head st.table.last st.writers.held w n
      → held ≡ up_to st.sizes.slots (λ s h. set h (16 * w + s) 0) st.writers.held → opened ≡ set st.writers.opened w false → i ≡ no_pending
      → ◌≡◌ {A = State} (record { sizes = st.sizes; head = q; tail = st.tail; next = st.next; table = table_with bitmap last; map = st.map; writers = record { opened = opened; held = held; prepared = no_writer }; wide = st.wide; pending = i })
      (commit_done st w)
  unfolding replay closed_writer
  commit-done n q bitmap last held opened i a b c d e f g =
      rw (b, c, d, e, f, g, a)
      (ap (λ (t : Table). settled st (commit_head st w) st.tail st.next t (with_prepared (closed_writer st.sizes st.writers w) no_writer)) (sym (table-after (length (commit_slots st w)))))
