-- Right records (row 6) as facts: of one list, of a list with more behind it, and of one transaction's.
use Prim.Native.Nat.{ℕ, zero, suc, ◌+◌, ◌-◌, ◌*◌, ◌<◌}
use mathlib.Core.Path.{◌≡◌, sym, ap, ◌∙◌, subst, ap₂}
use mathlib.Core.Bool.{Bool, true, not, ◌&&◌, or-true}
use mathlib.Core.Logic.{◌⊎◌, ⊎_elim, inl, inr}
use native.Mathlib.Omega.{arith}
use lib.Dec.{ltb, eqb}
use borrow.Author.Tests.{ltb-true, ltb-false, lt-ltb, eqb-true, eqb-false, eq-eqb, ne_eqb, not-true}
use Rattle.bounded.proofs.Tests.{case_on, and_left, and_right}
use Rattle.bounded.proofs.Below.{all-at, all_made}
use Rattle.layout.specs.declared.Sizes.{Sizes}
use Rattle.layout.specs.Layout.{Legal}
use Rattle.journal.specs.declared.Record.{Record}
use Rattle.journal.specs.Slots.{shaped}
use Rattle.journal.specs.Records.{record_right, position, first_ok, record_ok, records_ok}
use Rattle.journal.proofs.Ring.{pos-lt, pos-more, pos-none}
use Rattle.journal.proofs.SlotWords.{or_cases}

-- record i goes on with its predecessor's transaction
pub record Follows (e : ℕ → Record) (i : ℕ) : Type 0 where
  pub later : 0 < i
  pub first : (e i).first ≡ (e (i - 1)).first
  pub higher : (e (i - 1)).slot < (e i).slot

pub record Right (z : Sizes) (tail : ℕ) (e : ℕ → Record) (i : ℕ) : Type 0 where
  pub slot-low : (e i).slot < z.slots
  pub first : ((e i).first ≡ position z tail i) ⊎ Follows e i
  pub shape : shaped z (e i).now ≡ true

module _ (z : Sizes) (tail : ℕ) (e : ℕ → Record) where
  follows : (i : ℕ) → not (eqb i 0) && eqb (e i).first (e (i - 1)).first && ltb (e (i - 1)).slot (e i).slot ≡ true → Follows e i
  follows i t =
      let a : Bool = not (eqb i 0) in
      let b : Bool = eqb (e i).first (e (i - 1)).first in
      let c : Bool = ltb (e (i - 1)).slot (e i).slot in
      let ab : a && b ≡ true = and_left (a && b) c t in
      let n : i ≡ 0 → ⊥ = eqb-false i 0 (not-true (eqb i 0) (and_left a b ab)) in
      record { later = omega (arith, n); first = eqb-true (e i).first (e (i - 1)).first (and_right a b ab); higher = ltb-true (e (i - 1)).slot (e i).slot (and_right (a && b) c t) }

  pub right : (i : ℕ) → record_ok z tail e i ≡ true → Right z tail e i
  right i t =
      let a : Bool = ltb (e i).slot z.slots in
      let b : Bool = first_ok z tail e i in
      let c : Bool = shaped z (e i).now in
      let ab : a && b ≡ true = and_left (a && b) c t in
      record {
        slot-low = ltb-true (e i).slot z.slots (and_left a b ab);
        first = ⊎_elim (λ u. inl (eqb-true (e i).first (position z tail i) u)) (λ u. inr (follows i u)) (or_cases _ _ (and_right a b ab));
        shape = and_right (a && b) c t;
      }

  first_holds : (i : ℕ) → ((e i).first ≡ position z tail i) ⊎ Follows e i → first_ok z tail e i ≡ true
  first_holds i h =
      ⊎_elim
      (λ u. rw (eq-eqb (e i).first (position z tail i) u))
      (λ (u : Follows e i).
      rw (ne_eqb i 0 (λ q. omega arith), eq-eqb (e i).first (e (i - 1)).first u.first, lt-ltb (e (i - 1)).slot (e i).slot u.higher)
      (or-true (eqb (e i).first (position z tail i))))
      h

  pub right-ok : (i : ℕ) → Right z tail e i → record_ok z tail e i ≡ true
  right-ok i h = rw (lt-ltb (e i).slot z.slots h.slot-low, first_holds i h.first) h.shape

  pub right-at : (n i : ℕ) → i < n → records_ok z tail n e ≡ true → Right z tail e i
  unfolding records_ok
  right-at n i l h = right i (all-at (record_ok z tail e) n i l h)

  pub right-all : (n : ℕ) → ((i : ℕ) → i < n → Right z tail e i) → records_ok z tail n e ≡ true
  unfolding records_ok
  right-all n h = all_made (record_ok z tail e) n (λ i l. right-ok i (h i l))

  -- each carries a position
  pub first-lt : Legal z → (n i : ℕ) → i < n → records_ok z tail n e ≡ true → (e i).first < 2 * z.places
  first-lt g n zero l h =
      ⊎_elim (λ u. omega (arith, u, pos-lt z g tail 0)) (λ (u : Follows e 0). absurd (omega arith)) (right-at n 0 l h).first
  first-lt g n (suc i) l h =
      ⊎_elim
      (λ u. omega (arith, u, pos-lt z g tail (suc i)))
      (λ (u : Follows e (suc i)).
      let q : suc i - 1 ≡ i = omega arith in
      let w : (e (suc i)).first ≡ (e i).first = u.first ∙ ap (λ (k : ℕ). (e k).first) q in
      omega (arith, first-lt g n i (omega arith) h))
      (right-at n (suc i) l h).first

-- m right records, and n right ones behind them
pub records-more : (z : Sizes) (tail m n : ℕ) (e : ℕ → Record) → records_ok z tail m e ≡ true → records_ok z (position z tail m) n (λ j. e (m + j)) ≡ true
    → records_ok z tail (m + n) e ≡ true
records-more z tail m n e p q =
    right-all z tail e (m + n) (λ i l.
    case_on (ltb i m)
    (λ t. right-at z tail e m i (ltb-true i m t) p)
    (λ t.
    let w : m + (i - m) ≡ i = omega (arith, ltb-false i m t) in
    subst (Right z tail e) w (shifted (i - m) (right-at z (position z tail m) (λ j. e (m + j)) n (i - m) (omega (arith, ltb-false i m t)) q))))
  where
    shifted : (j : ℕ) → Right z (position z tail m) (λ k. e (m + k)) j → Right z tail e (m + j)
    shifted j h =
        record {
          slot-low = h.slot-low;
          first =
              ⊎_elim
              (λ u. inl (u ∙ pos-more z tail m j))
              (λ (u : Follows (λ k. e (m + k)) j).
              let s : m + (j - 1) ≡ m + j - 1 = omega arith in
              inr (record { later = omega arith; first = u.first ∙ ap (λ (k : ℕ). (e k).first) s; higher = subst (λ (k : ℕ). (e k).slot < (e (m + j)).slot) s u.higher }))
              h.first;
          shape = h.shape;
        }

-- the records of one transaction: all carry the first one's position, and their slots rise
pub one-transaction : (z : Sizes) (head n : ℕ) (e : ℕ → Record) → head < 2 * z.places
    → ((j : ℕ) → j < n → ((e j).first ≡ head) × ((e j).slot < z.slots) × (shaped z (e j).now ≡ true))
    → ((j : ℕ) → suc j < n → (e j).slot < (e (suc j)).slot)
    → records_ok z head n e ≡ true
one-transaction z head n e l h rise = right-all z head e n each
  where
    each : (i : ℕ) → i < n → Right z head e i
    each zero m = record { slot-low = (h 0 m).1; first = inl ((h 0 m).0 ∙ sym (pos-none z head l)); shape = (h 0 m).2 }
    each (suc i) m =
        let q : suc i - 1 ≡ i = omega arith in
        record {
          slot-low = (h (suc i) m).1;
          first =
              inr (record {
                later = omega arith;
                first = (h (suc i) m).0 ∙ sym (h i (omega arith)).0 ∙ ap (λ (k : ℕ). (e k).first) (sym q);
                higher = subst (λ (k : ℕ). (e k).slot < (e (suc i)).slot) (sym q) (rise i m);
              });
          shape = (h (suc i) m).2;
        }

-- ---- one record of row 6, as it was read

pub right-read : (z : Sizes) (tail : ℕ) (e : ℕ → Record) (i : ℕ) {own : ℕ} {before x : Record} {r : Bool} → r ≡ record_right z own i before x
    → own ≡ position z tail i → before ≡ e (i - 1) → x ≡ e i → r ≡ record_ok z tail e i
right-read z tail e i {own} {before} {x} h a b c =
    h ∙ ap (λ (q : ℕ). record_right z q i before x) a ∙ ap₂ (record_right z (position z tail i) i) b c
