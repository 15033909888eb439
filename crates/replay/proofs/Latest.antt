-- Replay slot by slot: a slot has the words and the position of its latest record, or stays as it was where it has none.
use Prim.Native.Nat.{ℕ, zero, suc, ◌+◌, ◌<◌}
use mathlib.Core.Path.{◌≡◌, refl, sym, ap, ap₂, ◌∙◌, subst}
use mathlib.Core.Logic.{◌⊎◌, ⊎_elim, inl, inr}
use native.Mathlib.Omega.{arith}
use native.Mathlib.Nat.{not-suc-le-zero}
use lib.Dec.{eqb}
use borrow.Author.Tests.{eqb-true, eqb-false}
use Rattle.bounded.specs.Below.{up_to}
use Rattle.bounded.proofs.Tests.{case_on}
use Rattle.bounded.proofs.Below.{split_below, up-ext}
use Rattle.layout.specs.declared.Sizes.{Sizes}
use Rattle.layout.specs.Layout.{Legal}
use Rattle.journal.specs.declared.Slot.{Slot}
use Rattle.journal.specs.declared.Record.{Record}
use Rattle.replay.specs.declared.Table.{Table}
use Rattle.journal.specs.Records.{position}
use Rattle.replay.specs.Table.{no_position, slot_in, with_slot, last_in, replaced, replay}
use Rattle.journal.proofs.Ring.{pos-lt, pos-more}
use Rattle.replay.proofs.Tables.{Sixteen, sixteen-slot, sixteen-last, slot_same, slot-other, last-same, last-other, table-ext}

-- record i is the latest of slot s among the first n, and s has none among them
pub record Latest (n : ℕ) (e : ℕ → Record) (s i : ℕ) : Type 0 where
  pub live : i < n
  pub slot : (e i).slot ≡ s
  pub later : (j : ℕ) → i < j → j < n → (e j).slot ≡ s → ⊥

abbrev pub NoRecord : ℕ → (ℕ → Record) → ℕ → Type 0
NoRecord n e s = (i : ℕ) → i < n → (e i).slot ≡ s → ⊥

pub latest : (n : ℕ) (e : ℕ → Record) (s : ℕ) → ((i : ℕ) × Latest n e s i) ⊎ NoRecord n e s
latest zero e s = inr (λ i l q. not-suc-le-zero l)
latest (suc n) e s =
    case_on (eqb (e n).slot s)
    (λ t. inl (n, record { live = omega arith; slot = eqb-true (e n).slot s t; later = λ j l m q. omega arith }))
    (λ t.
    let f : (e n).slot ≡ s → ⊥ = eqb-false (e n).slot s t in
    ⊎_elim
    (λ (x : (i : ℕ) × Latest n e s i).
    let h = x.1 in
    inl (x.0, record { live = omega arith; slot = h.slot; later = λ j l m q. split_below m (λ (w : j ≡ n). f (subst (λ (k : ℕ). (e k).slot ≡ s) w q)) (λ lt. h.later j l lt q) }))
    (λ h. inr (λ i l q. split_below l (λ (w : i ≡ n). f (subst (λ (k : ℕ). (e k).slot ≡ s) w q)) (λ lt. h i lt q)))
    (latest n e s))

-- slot s of table t is v, and q is its last position
pub record Holds (t : Table) (s : ℕ) (v : Slot) (q : ℕ) : Type 0 where
  pub slot : slot_in t s ≡ v
  pub last : last_in t s ≡ q

-- ---- one record

module _ (t : Table) (e : Record) (q : ℕ) where
  pub sixteen-replaced : Sixteen t → Sixteen (replaced t e q)
  sixteen-replaced h = sixteen-last (with_slot t e.slot e.now) e.slot q (sixteen-slot t e.slot e.now h)

  pub replaced-same : Sixteen t → e.slot < 16 → Holds (replaced t e q) e.slot e.now q
  replaced-same h l =
      record { slot = slot_same t e.slot e.now h l; last = last-same (with_slot t e.slot e.now) e.slot q (sixteen-slot t e.slot e.now h) l }

  pub replaced-other : (s : ℕ) → (e.slot ≡ s → ⊥) → Holds (replaced t e q) s (slot_in t s) (last_in t s)
  replaced-other s n =
      record { slot = slot-other t e.slot e.now s (λ w. n (sym w)); last = last-other (with_slot t e.slot e.now) e.slot q s (λ w. n (sym w)) }

-- ---- replay

module _ (z : Sizes) (tail : ℕ) where
  pub sixteen-replay : (n : ℕ) (e : ℕ → Record) (t : Table) → Sixteen t → Sixteen (replay z tail n e t)
  unfolding replay up_to
  sixteen-replay zero e t h = h
  sixteen-replay (suc n) e t h = sixteen-replaced (replay z tail n e t) (e n) (position z tail n) (sixteen-replay n e t h)

  pub replay-ext : (n : ℕ) (e f : ℕ → Record) (t : Table) → ((i : ℕ) → i < n → e i ≡ f i) → replay z tail n e t ≡ replay z tail n f t
  unfolding replay
  replay-ext n e f t h =
      up-ext (λ i u. replaced u (e i) (position z tail i)) (λ i u. replaced u (f i) (position z tail i)) n t
      (λ i u l. ap (λ (x : Record). replaced u x (position z tail i)) (h i l))

  -- m records, then n more from the position m after tail on
  pub replay-more : (m n : ℕ) (e : ℕ → Record) (t : Table)
      → replay z tail (m + n) e t ≡ replay z (position z tail m) n (λ j. e (m + j)) (replay z tail m e t)
  unfolding replay up_to
  replay-more m zero e t =
      let w : m + 0 ≡ m = omega arith in
      ap (λ (k : ℕ). replay z tail k e t) w
  replay-more m (suc n) e t =
      let w : m + suc n ≡ suc (m + n) = omega arith in
      ap (λ (k : ℕ). replay z tail k e t) w
      ∙ ap₂ (λ (u : Table) (q : ℕ). replaced u (e (m + n)) q) (replay-more m n e t) (sym (pos-more z tail m n))

  module _ (e : ℕ → Record) (t : Table) (full : Sixteen t) (s : ℕ) where
    pub replay-latest : (n i : ℕ) → s < 16 → Latest n e s i → Holds (replay z tail n e t) s (e i).now (position z tail i)
    unfolding replay up_to
    replay-latest zero i m h = absurd (not-suc-le-zero h.live)
    replay-latest (suc n) i m h =
        split_below h.live
        (λ (w : i ≡ n).
        let q : (e n).slot ≡ s = subst (λ (k : ℕ). (e k).slot ≡ s) w h.slot in
        subst (λ (k : ℕ). Holds (replay z tail (suc n) e t) s (e k).now (position z tail k)) (sym w)
        (subst (λ (k : ℕ). Holds (replay z tail (suc n) e t) k (e n).now (position z tail n)) q
        (replaced-same (replay z tail n e t) (e n) (position z tail n) (sixteen-replay n e t full) (subst (λ (k : ℕ). k < 16) (sym q) m))))
        (λ lt.
        let o = replaced-other (replay z tail n e t) (e n) (position z tail n) s (h.later n lt (omega arith)) in
        let g = replay-latest n i m (record { live = lt; slot = h.slot; later = λ j l k. h.later j l (omega arith) }) in
        record { slot = o.slot ∙ g.slot; last = o.last ∙ g.last })

    pub replay-kept : (n : ℕ) → NoRecord n e s → Holds (replay z tail n e t) s (slot_in t s) (last_in t s)
    unfolding replay up_to
    replay-kept zero h = record { slot = refl; last = refl }
    replay-kept (suc n) h =
        let o = replaced-other (replay z tail n e t) (e n) (position z tail n) s (h n (omega arith)) in
        let g = replay-kept n (λ i l. h i (omega arith)) in
        record { slot = o.slot ∙ g.slot; last = o.last ∙ g.last }

    -- where the table had no last positions, those after replay say which slots have records
    module _ (n : ℕ) (legal : Legal z) (none : last_in t s ≡ no_position) where
      pub none-recorded : s < 16 → last_in (replay z tail n e t) s ≡ no_position → NoRecord n e s
      none-recorded m q =
          ⊎_elim
          (λ (x : (i : ℕ) × Latest n e s i). absurd (omega (arith, replay-latest n x.0 m x.1, pos-lt z legal tail x.0, q)))
          (λ h. h)
          (latest n e s)

      pub some-recorded : (last_in (replay z tail n e t) s ≡ no_position → ⊥) → (i : ℕ) × Latest n e s i
      some-recorded q =
          ⊎_elim (λ (x : (i : ℕ) × Latest n e s i). x) (λ h. absurd (q ((replay-kept n h).last ∙ none))) (latest n e s)

  -- tables that differ only in slots with records become the same
  module _ (n : ℕ) (e : ℕ → Record) (t u : Table) (p : Sixteen t) (q : Sixteen u) where
    replay-alike : (s : ℕ) → s < 16 → (NoRecord n e s → slot_in t s ≡ slot_in u s) → last_in t s ≡ last_in u s
        → Holds (replay z tail n e t) s (slot_in (replay z tail n e u) s) (last_in (replay z tail n e u) s)
    replay-alike s m a b =
        ⊎_elim
        (λ (x : (i : ℕ) × Latest n e s i).
        let g = replay-latest e t p s n x.0 m x.1 in
        let h = replay-latest e u q s n x.0 m x.1 in
        record { slot = g.slot ∙ sym h.slot; last = g.last ∙ sym h.last })
        (λ f.
        let g = replay-kept e t p s n f in
        let h = replay-kept e u q s n f in
        record { slot = g.slot ∙ a f ∙ sym h.slot; last = g.last ∙ b ∙ sym h.last })
        (latest n e s)

    pub replay-base : ((s : ℕ) → s < 16 → NoRecord n e s → slot_in t s ≡ slot_in u s) → ((s : ℕ) → s < 16 → last_in t s ≡ last_in u s)
        → replay z tail n e t ≡ replay z tail n e u
    replay-base a b =
        table-ext (replay z tail n e t) (replay z tail n e u) (sixteen-replay n e t p) (sixteen-replay n e u q)
        (λ s m. (replay-alike s m (a s m) (b s m)).slot)
        (λ s m. (replay-alike s m (a s m) (b s m)).last)
