-- A closed writer holds nothing of the S slots, and the others hold what they held.
use Prim.Native.Nat.{ℕ, zero, suc, ◌+◌, ◌*◌, ◌<◌, ◌≤◌}
use mathlib.Core.Bool.{false}
use mathlib.Core.List.{List}
use mathlib.Core.Path.{◌≡◌, refl, ap, ◌∙◌}
use native.Mathlib.Nat.{not-suc-le-zero}
use native.Mathlib.Omega.{arith}
use lib.Dec.{ltb, eqb}
use lib.ListN.{length, get_or, set, length-set, get_or-eq_default}
use lib.Seq.{get_or-set_same, get_or-set_other}
use borrow.Author.Tests.{eqb-true, eqb-false, ltb-true, ltb-false}
use Rattle.bounded.specs.Below.{up_to}
use Rattle.bounded.proofs.Below.{split_below}
use Rattle.bounded.proofs.Tests.{case_on}
use Rattle.layout.specs.declared.Sizes.{Sizes}
use Rattle.layout.specs.Layout.{Legal}
use Rattle.journal.specs.declared.Slot.{Slot}
use Rattle.masks.specs.Lines.{disjoint}
use Rattle.masks.proofs.Disjoint.{none-disjoint, disjoint-none}
use Rattle.state.specs.State.{Writers}
use Rattle.state.specs.Held.{is_open, held_at}
use Rattle.refinement.specs.Commit.{closed_writer}
use Rattle.refinement.proofs.Records.{slots_same}
use Rattle.refinement.proofs.ValidWriters.{HeldFine, PreparedFine}

set-none : (l : List ℕ) (i : ℕ) → get_or (set l i 0) i 0 ≡ 0
set-none l i =
    case_on (ltb i (length l))
    (λ t. get_or-set_same l i 0 0 (ltb-true i (length l) t))
    (λ t. get_or-eq_default (set l i 0) 0 (omega (arith, length-set l i 0, ltb-false i (length l) t)))

-- the first n masks of writer w emptied
module _ (w : ℕ) (held : List ℕ) where
  abbrev pub emptied : ℕ → List ℕ
  emptied n = up_to n (λ s h. set h (16 * w + s) 0) held

  emptied-in : (n s : ℕ) → s < n → held_at (emptied n) w s ≡ 0
  unfolding up_to
  emptied-in zero s l = absurd (not-suc-le-zero l)
  emptied-in (suc n) s l =
      split_below l
      (λ q. rw q (set-none (emptied n) (16 * w + n)))
      (λ m. get_or-set_other (emptied n) (16 * w + n) (16 * w + s) 0 0 (λ e. omega arith) ∙ emptied-in n s m)

  emptied-out : (n v s : ℕ) → n ≤ 16 → s < 16 → (v ≡ w → ⊥) → held_at (emptied n) v s ≡ held_at held v s
  unfolding up_to
  emptied-out zero v s h l d = refl
  emptied-out (suc n) v s h l d =
      get_or-set_other (emptied n) (16 * w + n) (16 * v + s) 0 0 (λ e. d (omega arith)) ∙ emptied-out n v s (omega arith) l d

  pub emptied-length : (n : ℕ) → length (emptied n) ≡ length held
  unfolding up_to
  emptied-length zero = refl
  emptied-length (suc n) = length-set (emptied n) (16 * w + n) 0 ∙ emptied-length n

module _ (z : Sizes) (g : Legal z) (ws : Writers) (w : ℕ) where
  pub closed-holds : (s : ℕ) → s < z.slots → held_at (closed_writer z ws w).held w s ≡ 0
  unfolding closed_writer
  closed-holds s l = emptied-in w ws.held z.slots s l

  pub others-hold : (v s : ℕ) → s < z.slots → (v ≡ w → ⊥) → held_at (closed_writer z ws w).held v s ≡ held_at ws.held v s
  unfolding closed_writer
  others-hold v s l d = emptied-out w ws.held z.slots v s (omega arith) (omega arith) d

  pub others-open : (v : ℕ) → (v ≡ w → ⊥) → is_open (closed_writer z ws w).opened v ≡ is_open ws.opened v
  unfolding closed_writer
  others-open v d = get_or-set_other ws.opened w v false false d

  pub closed-opened-length : length (closed_writer z ws w).opened ≡ length ws.opened
  unfolding closed_writer
  closed-opened-length = length-set ws.opened w false

  pub closed-held-length : length (closed_writer z ws w).held ≡ length ws.held
  unfolding closed_writer
  closed-held-length = emptied-length w ws.held z.slots

  -- who holds a line after it held it before and is another
  still : (f : ℕ → Slot) (v s : ℕ) → s < z.slots → (held_at (closed_writer z ws w).held v s ≡ 0 → ⊥) → (v ≡ w → ⊥) × (held_at ws.held v s ≡ 0 → ⊥)
  still f v s l n =
      let d : v ≡ w → ⊥ = λ q. n (ap (λ (x : ℕ). held_at (closed_writer z ws w).held x s) q ∙ closed-holds s l) in
      (d, λ q. n (others-hold v s l d ∙ q))

  -- another's records are as they were
  pub closed-prepared : (head tail : ℕ) → (ws.prepared ≡ w → ⊥) → PreparedFine z head tail ws.opened ws.held ws.prepared
      → PreparedFine z head tail (closed_writer z ws w).opened (closed_writer z ws w).held ws.prepared
  closed-prepared head tail d p =
      let same = slots_same z ws.held (closed_writer z ws w).held ws.prepared (λ s l. others-hold ws.prepared s l d) in
      record { opens = others-open ws.prepared d ∙ p.opens; fits = rw same p.fits }

  pub closed-fine : (f : ℕ → Slot) → HeldFine z f ws.opened ws.held → HeldFine z f (closed_writer z ws w).opened (closed_writer z ws w).held
  closed-fine f h =
      record {
        opens = λ s v l m n. let k = still f v s l n in others-open v k.0 ∙ h.opens s v l m k.1;
        owned = λ s v l m n. h.owned s v l m (still f v s l n).1;
        apart =
            λ s u v l a b d.
            case_on (eqb u w)
            (λ q.
            ap (λ (x : ℕ). disjoint x (held_at (closed_writer z ws w).held v s)) (ap (λ (x : ℕ). held_at (closed_writer z ws w).held x s) (eqb-true u w q) ∙ closed-holds s l)
            ∙ none-disjoint (held_at (closed_writer z ws w).held v s))
            (λ q.
            case_on (eqb v w)
            (λ r.
            ap (λ (x : ℕ). disjoint (held_at (closed_writer z ws w).held u s) x) (ap (λ (x : ℕ). held_at (closed_writer z ws w).held x s) (eqb-true v w r) ∙ closed-holds s l)
            ∙ disjoint-none (held_at (closed_writer z ws w).held u s))
            (λ r. rw (others-hold u s l (eqb-false u w q), others-hold v s l (eqb-false v w r)) (h.apart s u v l a b d)));
      }
