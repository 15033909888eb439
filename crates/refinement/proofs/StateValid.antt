-- Row 8 as facts: what a valid state keeps, from the test and back.
use Prim.Native.Nat.{ℕ, ◌<◌}
use mathlib.Core.Bool.{true, false, ◌&&◌}
use mathlib.Core.Path.{◌≡◌, sym}
use lib.Dec.{ltb}
use borrow.Author.Tests.{eqb-false, ltb-true, lt-ltb}
use Rattle.bounded.proofs.Tests.{contradicts, and_left, and_right}
use Rattle.layout.specs.Layout.{Legal}
use Rattle.layout.proofs.LayoutLaws.{legal, legal-ok}
use Rattle.replay.specs.Table.{slot_in}
use Rattle.journal.proofs.Ring.{Positions, positions, positions-ok}
use Rattle.state.specs.State.{State, own_frame}
use Rattle.state.specs.Held.{is_open, held_ok}
use Rattle.state.specs.Wide.{is_wide, wide_ok}
use Rattle.entries.proofs.EntryLaws.{Right}
use Rattle.validity.specs.Validity.{slots_ok, lasts_ok, prepared_ok, pending_ok, state_ok}
use Rattle.validity.proofs.Ranged.{slots-good}
use Rattle.refinement.proofs.ValidSlots.{SlotsFine, slots-fine, shapes-ok, pages-ok, names-ok, kept-ok}
use Rattle.refinement.proofs.ValidWriters.{HeldFine, held-fine, held-ok, PreparedFine, prepared-fine, prepared-ok, WideFine, wide-right, wide-fine, wide_is_ok}
use Rattle.refinement.proofs.ValidLasts.{last_at, LastsFine, lasts-fine, lasts-ok}

pub record Valid (st : State) : Type 0 where
  pub legal : Legal st.sizes
  pub positions : Positions st.sizes st.head st.tail
  pub slots : SlotsFine st.sizes (own_frame st) (slot_in st.table)
  pub held : HeldFine st.sizes (slot_in st.table) st.writers.opened st.writers.held
  pub next_low : st.next < st.sizes.slots
  pub lasts : LastsFine st.sizes st.head st.tail (last_at st.table)
  pub prepared : st.writers.prepared < 4 → PreparedFine st.sizes st.head st.tail st.writers.opened st.writers.held st.writers.prepared
  pub entries : Right st.sizes st.wide.keys st.wide.count
  pub wide : st.wide.writer < 4 → WideFine st.sizes st.writers.opened st.writers.held st.writers.prepared st.wide.writer
  pub pending : pending_ok st ≡ true

-- beside an open writer who is not the wide one there is none
pub narrow : (st : State) (w : ℕ) → Valid st → w < 4 → is_open st.writers.opened w ≡ true → is_wide st.wide w ≡ false → st.wide.writer < 4 → ⊥
narrow st w v low o n l = contradicts o ((v.wide l).closed w low (λ e. eqb-false st.wide.writer w n (sym e)))

-- the parts of row 8
pub record Parts (st : State) : Type 0 where
  pub slots : slots_ok st.sizes st.head st.tail st.table (own_frame st) ≡ true
  pub held : held_ok st.sizes st.table.page st.writers.opened st.writers.held ≡ true
  pub next : ltb st.next st.sizes.slots ≡ true
  pub lasts : lasts_ok st.sizes st.head st.tail st.table.last ≡ true
  pub prepared : prepared_ok st.sizes st.head st.tail st.writers.opened st.writers.held st.writers.prepared ≡ true
  pub wide : wide_ok st.sizes st.writers.opened st.writers.held st.writers.prepared st.wide ≡ true
  pub pending : pending_ok st ≡ true

pub parts : (st : State) → state_ok st ≡ true → Parts st
unfolding state_ok
parts st e =
    let a = slots_ok st.sizes st.head st.tail st.table (own_frame st) in
    let b = held_ok st.sizes st.table.page st.writers.opened st.writers.held in
    let c = ltb st.next st.sizes.slots in
    let d = lasts_ok st.sizes st.head st.tail st.table.last in
    let f = prepared_ok st.sizes st.head st.tail st.writers.opened st.writers.held st.writers.prepared in
    let g = wide_ok st.sizes st.writers.opened st.writers.held st.writers.prepared st.wide in
    let e₁ = and_right a (b && (c && (d && (f && (g && pending_ok st))))) e in
    let e₂ = and_right b (c && (d && (f && (g && pending_ok st)))) e₁ in
    let e₃ = and_right c (d && (f && (g && pending_ok st))) e₂ in
    let e₄ = and_right d (f && (g && pending_ok st)) e₃ in
    let e₅ = and_right f (g && pending_ok st) e₄ in
    record {
      slots = and_left a (b && (c && (d && (f && (g && pending_ok st))))) e;
      held = and_left b (c && (d && (f && (g && pending_ok st)))) e₁;
      next = and_left c (d && (f && (g && pending_ok st))) e₂;
      lasts = and_left d (f && (g && pending_ok st)) e₃;
      prepared = and_left f (g && pending_ok st) e₄;
      wide = and_left g (pending_ok st) e₅;
      pending = and_right g (pending_ok st) e₅;
    }

pub valid : (st : State) → state_ok st ≡ true → Valid st
valid st e =
    let h = parts st e in
    let g = slots-good st.sizes st.head st.tail st.table (own_frame st) h.slots in
    record {
      legal = legal st.sizes g.sizes;
      positions = positions st.sizes st.head st.tail g.positions;
      slots = slots-fine st.sizes (own_frame st) st.table (legal st.sizes g.sizes) g.shapes g.pages g.names g.kept;
      held = held-fine st.sizes st.table st.writers.opened st.writers.held h.held;
      next_low = ltb-true st.next st.sizes.slots h.next;
      lasts = lasts-fine st.sizes st.head st.tail st.table h.lasts;
      prepared = prepared-fine st.sizes st.head st.tail st.writers.opened st.writers.held st.writers.prepared h.prepared;
      entries = wide-right st.sizes st.writers.opened st.writers.held st.writers.prepared st.wide h.wide;
      wide = wide-fine st.sizes st.writers.opened st.writers.held st.writers.prepared st.wide h.wide;
      pending = h.pending;
    }

pub valid-ok : (st : State) → Valid st → state_ok st ≡ true
unfolding state_ok slots_ok
valid-ok st v =
    let z = st.sizes in
    let t = st.table in
    rw (
      legal-ok z v.legal,
      positions-ok z st.head st.tail v.positions,
      shapes-ok z (own_frame st) t v.legal v.slots,
      pages-ok z (own_frame st) t v.legal v.slots,
      names-ok z (own_frame st) t v.legal v.slots,
      kept-ok z (own_frame st) t v.legal v.slots,
      held-ok z t st.writers.opened st.writers.held v.held,
      lt-ltb st.next z.slots v.next_low,
      lasts-ok z st.head st.tail t v.lasts,
      prepared-ok z st.head st.tail st.writers.opened st.writers.held st.writers.prepared v.prepared,
      wide_is_ok z st.writers.opened st.writers.held st.writers.prepared st.wide v.entries v.wide,
      v.pending,
    )
