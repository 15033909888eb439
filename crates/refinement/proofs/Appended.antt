-- New records: their positions are live when head has moved past them, and apart from each other and from the older
-- ones.
use Prim.Native.Nat.{ℕ, zero, suc, ◌+◌, ◌<◌, ◌≤◌}
use mathlib.Core.List.{List, [], ◌∷◌}
use mathlib.Core.Logic.{◌⊎◌, ⊎_elim, inl, inr}
use mathlib.Core.Path.{◌≡◌, refl, sym, ap, ◌∙◌}
use native.Mathlib.Nat.{not-suc-le-zero, le_of_suc-le-suc}
use native.Mathlib.Omega.{arith}
use lib.ListN.{length, get_or}
use Rattle.layout.specs.declared.Sizes.{Sizes}
use Rattle.layout.specs.Layout.{Legal}
use Rattle.journal.specs.declared.Record.{Record}
use Rattle.replay.specs.declared.Table.{Table}
use Rattle.journal.specs.Records.{position, live_count}
use Rattle.replay.specs.Table.{no_position, last_in, replay}
use Rattle.journal.proofs.Ring.{Positions, pos-lt, pos-apart, live_more}
use Rattle.replay.proofs.Tables.{Sixteen}
use Rattle.replay.proofs.Latest.{Latest, latest, sixteen-replay, replay-latest, replay-kept}
use Rattle.refinement.proofs.ValidLasts.{last_at, LastsFine}

-- an entry inside a list does not depend on what is read past its end
any-default : (l : List ℕ) (i d e : ℕ) → i < length l → get_or l i d ≡ get_or l i e
any-default [] i d e h = absurd (not-suc-le-zero h)
any-default (x ∷ l) zero d e h = refl
any-default (x ∷ l) (suc i) d e h = any-default l i d e (le_of_suc-le-suc h)

pub last-at : (t : Table) (s : ℕ) → Sixteen t → s < 16 → last_at t s ≡ last_in t s
last-at t s full l = any-default t.last s 0 no_position (omega arith)

-- slot s has its last position from record number i
pub record NewLast (z : Sizes) (head n : ℕ) (e : ℕ → Record) (s last : ℕ) : Type 0 where
  pub number : ℕ
  pub is-new : number < n
  pub slot : (e number).slot ≡ s
  pub at : last ≡ position z head number

module _ (z : Sizes) (g : Legal z) (head tail : ℕ) (p : Positions z head tail) (n : ℕ) (room : live_count z head tail + n ≤ z.places) (e : ℕ → Record) (t : Table) (full : Sixteen t) where
  abbrev after : Table
  after = replay z head n e t

  -- a last position is a new record's, or the old one
  new-or-old : (s : ℕ) → s < z.slots → NewLast z head n e s (last_at after s) ⊎ (last_at after s ≡ last_at t s)
  new-or-old s l =
      let low : s < 16 = omega arith in
      let at = last-at after s (sixteen-replay z head n e t full) low in
      ⊎_elim
      (λ (x : (i : ℕ) × Latest n e s i). inl (record { number = x.0; is-new = x.1.live; slot = x.1.slot; at = at ∙ (replay-latest z head e t full s n x.0 low x.1).last }))
      (λ f. inr (at ∙ (replay-kept z head e t full s n f).last ∙ sym (last-at t s full low)))
      (latest n e s)

  new-live : (i : ℕ) → i < n → live_count z (position z head i) tail ≡ live_count z head tail + i
  new-live i l = live_more z g head tail p i (omega arith)

  all_live : live_count z (position z head n) tail ≡ live_count z head tail + n
  all_live = live_more z g head tail p n room

  -- a new position is none of the old live ones
  new-old : (i q : ℕ) → i < n → live_count z q tail < live_count z head tail → position z head i ≡ q → ⊥
  new-old i q l h w = omega (arith, new-live i l, ap (λ (x : ℕ). live_count z x tail) w)

  pub lasts-more : LastsFine z head tail (last_at t) → LastsFine z (position z head n) tail (last_at after)
  lasts-more h =
      record {
        low =
            λ s l d.
            ⊎_elim
            (λ (x : NewLast z head n e s (last_at after s)). rw x.at (pos-lt z g head x.number))
            (λ (x : last_at after s ≡ last_at t s). rw x (h.low s l (λ q. d (x ∙ q))))
            (new-or-old s l);
        live =
            λ s l d.
            ⊎_elim
            (λ (x : NewLast z head n e s (last_at after s)).
            rw x.at (omega (arith, new-live x.number x.is-new, all_live)))
            (λ (x : last_at after s ≡ last_at t s). rw x (omega (arith, h.live s l (λ q. d (x ∙ q)), all_live)))
            (new-or-old s l);
        apart =
            λ s k l m d v w.
            ⊎_elim
            (λ (x : NewLast z head n e s (last_at after s)).
            ⊎_elim
            (λ (y : NewLast z head n e k (last_at after k)).
            let q : x.number ≡ y.number =
            pos-apart z g head x.number y.number p.head-low (omega arith) (omega arith) (sym x.at ∙ w ∙ y.at) in
            d (sym x.slot ∙ ap (λ (i : ℕ). (e i).slot) q ∙ y.slot))
            (λ (y : last_at after k ≡ last_at t k).
            new-old x.number (last_at t k) x.is-new (h.live k m (λ q. v (w ∙ y ∙ q))) (sym x.at ∙ w ∙ y))
            (new-or-old k m))
            (λ (x : last_at after s ≡ last_at t s).
            ⊎_elim
            (λ (y : NewLast z head n e k (last_at after k)).
            new-old y.number (last_at t s) y.is-new (h.live s l (λ q. v (x ∙ q))) (sym y.at ∙ sym w ∙ x))
            (λ (y : last_at after k ≡ last_at t k). h.apart s k l m d (λ q. v (x ∙ q)) (sym x ∙ w ∙ y))
            (new-or-old k m))
            (new-or-old s l);
      }
