-- Row 8 of the last positions, as facts, from the test and back.
use Prim.Native.Nat.{ℕ, ◌*◌, ◌<◌}
use mathlib.Core.Bool.{true, ◌&&◌, not}
use mathlib.Core.Logic.{⊎_elim}
use mathlib.Core.Path.{◌≡◌, sym, ap, ◌∙◌}
use native.Mathlib.Omega.{arith}
use lib.Dec.{ltb, eqb}
use lib.ListN.{get_or}
use borrow.Author.Tests.{eqb-true, eqb-false, ne_eqb, ltb-true, lt-ltb}
use Rattle.bounded.specs.Below.{all_below}
use Rattle.bounded.proofs.Below.{all-at, all_made}
use Rattle.bounded.proofs.Tests.{case_on, and_left, and_right}
use Rattle.layout.specs.declared.Sizes.{Sizes}
use Rattle.replay.specs.declared.Table.{Table}
use Rattle.journal.specs.Records.{live_count}
use Rattle.replay.specs.Table.{no_position}
use Rattle.journal.proofs.SlotWords.{or_cases}
use Rattle.validity.specs.Validity.{is_live, last_ok, lasts_ok}
use Rattle.refinement.proofs.ValidWriters.{either_way, differ}

abbrev pub last_at : Table → ℕ → ℕ
last_at t s = get_or t.last s 0

-- a last position is live, and that of one slot
pub record LastsFine (z : Sizes) (head tail : ℕ) (last : ℕ → ℕ) : Type 0 where
  pub low : (s : ℕ) → s < z.slots → (last s ≡ no_position → ⊥) → last s < 2 * z.places
  pub live : (s : ℕ) → s < z.slots → (last s ≡ no_position → ⊥) → live_count z (last s) tail < live_count z head tail
  pub apart : (s k : ℕ) → s < z.slots → k < z.slots → (s ≡ k → ⊥) → (last s ≡ no_position → ⊥) → last s ≡ last k → ⊥

module _ (z : Sizes) (head tail : ℕ) (t : Table) where
  last-parts : lasts_ok z head tail t.last ≡ true → (s : ℕ) → s < z.slots → (last_at t s ≡ no_position → ⊥)
      → is_live z head tail (last_at t s) && all_below s (λ k. not (eqb (last_at t s) (last_at t k))) ≡ true
  unfolding lasts_ok
  last-parts e s l n =
      ⊎_elim
      (λ q. absurd (n (eqb-true (last_at t s) no_position q)))
      (λ q. q)
      (or_cases (eqb (last_at t s) no_position) (is_live z head tail (last_at t s) && all_below s (λ k. not (eqb (last_at t s) (last_at t k))))
      (all-at (last_ok z head tail t.last) z.slots s l e))

  last-live : lasts_ok z head tail t.last ≡ true → (s : ℕ) → s < z.slots → (last_at t s ≡ no_position → ⊥) → is_live z head tail (last_at t s) ≡ true
  last-live e s l n = and_left (is_live z head tail (last_at t s)) (all_below s (λ k. not (eqb (last_at t s) (last_at t k)))) (last-parts e s l n)

  pub lasts-fine : lasts_ok z head tail t.last ≡ true → LastsFine z head tail (last_at t)
  lasts-fine e =
      record {
        low = λ s l n. ltb-true (last_at t s) (2 * z.places) (and_left (ltb (last_at t s) (2 * z.places)) (ltb (live_count z (last_at t s) tail) (live_count z head tail)) (last-live e s l n));
        live = λ s l n. ltb-true (live_count z (last_at t s) tail) (live_count z head tail) (and_right (ltb (last_at t s) (2 * z.places)) (ltb (live_count z (last_at t s) tail) (live_count z head tail)) (last-live e s l n));
        apart =
            either_way (λ s k. (last_at t s ≡ no_position → ⊥) → last_at t s ≡ last_at t k → ⊥) z.slots
            (λ s k q n r. q (λ x. n (r ∙ x)) (sym r))
            (λ s k l m n.
            differ (last_at t s) (last_at t k)
            (all-at (λ k. not (eqb (last_at t s) (last_at t k))) s k m
            (and_right (is_live z head tail (last_at t s)) (all_below s (λ k. not (eqb (last_at t s) (last_at t k)))) (last-parts e s l n))));
      }

  pub lasts-ok : LastsFine z head tail (last_at t) → lasts_ok z head tail t.last ≡ true
  unfolding lasts_ok
  lasts-ok h =
      all_made (last_ok z head tail t.last) z.slots
      (λ s l.
      case_on (eqb (last_at t s) no_position)
      (λ q. rw q)
      (λ q.
      let n = eqb-false (last_at t s) no_position q in
      rw (
        q,
        lt-ltb (last_at t s) (2 * z.places) (h.low s l n),
        lt-ltb (live_count z (last_at t s) tail) (live_count z head tail) (h.live s l n),
        all_made (λ k. not (eqb (last_at t s) (last_at t k))) s (λ k m. ap not (ne_eqb (last_at t s) (last_at t k) (h.apart s k l (omega arith) (λ e. omega arith) n))),
      )))
