-- Positions of the journal: 2 J of them in a ring, J places. The live ones go from tail up to head.
use Prim.Native.Nat.{ℕ, ◌+◌, ◌-◌, ◌*◌, ◌%◌, ◌≤◌, ◌<◌}
use mathlib.Core.Path.{◌≡◌, sym, ap, ◌∙◌}
use mathlib.Core.Bool.{true}
use mathlib.Core.List.{[], ◌∷◌}
use native.Mathlib.Omega.{arith}
use native.Mathlib.Nat.{mod-lt, mod-eq_of_lt, mod_self, mod-eq-sub-mod, mod-add-mod, add-mod_right, mod-mod_of_dvd, dvd_of_mod-eq-zero, mul-mod_left}
use lib.Dec.{ltb, leb}
use borrow.Author.Tests.{ltb-true, ltb-false, leb-true, lt-ltb, le-leb}
use Rattle.bounded.proofs.Tests.{case_on, every_held, held-every}
use Rattle.layout.specs.declared.Sizes.{Sizes}
use Rattle.layout.specs.Layout.{Legal, place_of, record_word}
use Rattle.layout.proofs.LayoutLaws.{record_apart}
use Rattle.journal.specs.Records.{position, live_count, positions_ok}

-- ---- remainders

-- of a number below twice the modulus
mod-once : (x m : ℕ) → m ≤ x → x < m + m → x % m ≡ x - m
mod-once x m h k = mod-eq-sub-mod h ∙ mod-eq_of_lt (omega arith)

-- two numbers less than m apart have different remainders
mod-apart : (x d m : ℕ) → 0 < d → d < m → (x + d) % m ≡ x % m → ⊥
mod-apart x d m p q e =
    let l : x % m < m = mod-lt x (omega arith) in
    let f : (x % m + d) % m ≡ x % m = mod-add-mod x m d ∙ e in
    case_on (ltb (x % m + d) m)
    (λ t.
    let g : x % m + d < m = ltb-true (x % m + d) m t in
    omega (arith, mod-eq_of_lt g))
    (λ t.
    let g : m ≤ x % m + d = ltb-false (x % m + d) m t in
    omega (arith, mod-once (x % m + d) m g (omega arith)))

-- n after t, and back
mod-forth : (t n m : ℕ) → t < m → n < m → ((t + n) % m + m - t) % m ≡ n
mod-forth t n m p q =
    case_on (ltb (t + n) m)
    (λ c.
    let h : t + n < m = ltb-true (t + n) m c in
    let e : (t + n) % m + m - t ≡ n + m = omega (arith, mod-eq_of_lt h) in
    rw (e, add-mod_right) (mod-eq_of_lt q))
    (λ c.
    let h : m ≤ t + n = ltb-false (t + n) m c in
    let e : (t + n) % m + m - t ≡ n = omega (arith, mod-once (t + n) m h (omega arith)) in
    rw e (mod-eq_of_lt q))

mod-back : (t x m : ℕ) → t < m → x < m → (t + (x + m - t) % m) % m ≡ x
mod-back t x m p q =
    case_on (ltb x t)
    (λ c.
    let h : x < t = ltb-true x t c in
    let l : x + m - t < m = omega arith in
    let e : t + (x + m - t) % m ≡ x + m = omega (arith, mod-eq_of_lt l) in
    rw (e, add-mod_right) (mod-eq_of_lt q))
    (λ c.
    let h : t ≤ x = ltb-false x t c in
    let e : t + (x + m - t) % m ≡ x = omega (arith, mod-once (x + m - t) m (omega arith) (omega arith)) in
    rw e (mod-eq_of_lt q))

-- ---- positions

-- row 5 as facts
pub record Positions (z : Sizes) (head tail : ℕ) : Type 0 where
  pub head-low : head < 2 * z.places
  pub tail-low : tail < 2 * z.places
  pub live-high : live_count z head tail ≤ z.places

pub positions : (z : Sizes) (head tail : ℕ) → positions_ok z head tail ≡ true → Positions z head tail
positions z head tail e =
    let h = every_held (ltb head (2 * z.places) ∷ ltb tail (2 * z.places) ∷ leb (live_count z head tail) z.places ∷ []) e in
    record { head-low = ltb-true head (2 * z.places) h.0; tail-low = ltb-true tail (2 * z.places) h.1.0; live-high = leb-true (live_count z head tail) z.places h.1.1.0 }

pub positions-ok : (z : Sizes) (head tail : ℕ) → Positions z head tail → positions_ok z head tail ≡ true
positions-ok z head tail p =
    held-every (ltb head (2 * z.places) ∷ ltb tail (2 * z.places) ∷ leb (live_count z head tail) z.places ∷ [])
    (lt-ltb head (2 * z.places) p.head-low, (lt-ltb tail (2 * z.places) p.tail-low, (le-leb (live_count z head tail) z.places p.live-high, tt)))

pub live-none : (z : Sizes) (q : ℕ) → live_count z q q ≡ 0
live-none z q =
    let e : q + 2 * z.places - q ≡ 2 * z.places = omega arith in
    rw e (mod_self (2 * z.places))

-- the position i after another, and then j more
pub pos-more : (z : Sizes) (from i j : ℕ) → position z (position z from i) j ≡ position z from (i + j)
pos-more z from i j =
    let e : from + i + j ≡ from + (i + j) = omega arith in
    mod-add-mod (from + i) (2 * z.places) j ∙ ap (λ (x : ℕ). x % (2 * z.places)) e

pub pos-none : (z : Sizes) (from : ℕ) → from < 2 * z.places → position z from 0 ≡ from
pos-none z from h =
    let e : from + 0 ≡ from = omega arith in
    rw e (mod-eq_of_lt h)

pub pos-place : (z : Sizes) (from i : ℕ) → place_of z (position z from i) ≡ (from + i) % z.places
pos-place z from i = mod-mod_of_dvd z.places (from + i) (dvd_of_mod-eq-zero z.places (mul-mod_left 2 z.places))

-- positions less than J apart have different places
pub place-apart : (z : Sizes) (from i j : ℕ) → i < j → j < i + z.places → place_of z (position z from j) ≡ place_of z (position z from i) → ⊥
place-apart z from i j p q e =
    let s : (from + i) + (j - i) ≡ from + j = omega arith in
    mod-apart (from + i) (j - i) z.places (omega arith) (omega arith)
    (ap (λ (x : ℕ). x % z.places) s ∙ sym (pos-place z from j) ∙ e ∙ pos-place z from i)

module _ (z : Sizes) (legal : Legal z) where
  pub pos-lt : (from i : ℕ) → position z from i < 2 * z.places
  pos-lt from i = mod-lt (from + i) (omega arith)

  -- the positions counted from tail on: n of them end at the n-th, and the n-th is as far as they count
  pub live_of : (tail n : ℕ) → tail < 2 * z.places → n < 2 * z.places → live_count z (position z tail n) tail ≡ n
  live_of tail n p q = mod-forth tail n (2 * z.places) p q

  pub head_of : (head tail : ℕ) → head < 2 * z.places → tail < 2 * z.places → position z tail (live_count z head tail) ≡ head
  head_of head tail p q = mod-back tail head (2 * z.places) q p

  -- different positions
  pub pos-apart : (tail i j : ℕ) → tail < 2 * z.places → i < 2 * z.places → j < 2 * z.places → position z tail i ≡ position z tail j → i ≡ j
  pos-apart tail i j t p q e =
      sym (live_of tail i t p) ∙ ap (λ (x : ℕ). live_count z x tail) e ∙ live_of tail j t q

  -- of fewer than J from tail on, no two have one place
  pub place_same : (from i j : ℕ) → i < z.places → j < z.places → place_of z (position z from i) ≡ place_of z (position z from j) → i ≡ j
  place_same from i j p q e =
      case_on (ltb i j)
      (λ t. absurd (place-apart z from i j (ltb-true i j t) (omega arith) (sym e)))
      (λ t.
      case_on (ltb j i)
      (λ u. absurd (place-apart z from j i (ltb-true j i u) (omega arith) e))
      (λ u. omega (arith, ltb-false i j t, ltb-false j i u)))

  -- so no word of the records there is one of two
  pub words-apart : (from i k j m : ℕ) → i < z.places → j < z.places → k < 4 → m < 4
      → record_word z (position z from i) + k ≡ record_word z (position z from j) + m → (i ≡ j) × (k ≡ m)
  words-apart from i k j m p q a b e =
      let h = record_apart z (position z from i) k (position z from j) m a b e in
      (place_same from i j p q h.0, h.1)

  pub positions-none : (q : ℕ) → q < 2 * z.places → Positions z q q
  positions-none q h = record { head-low = h; tail-low = h; live-high = omega (arith, live-none z q) }

  module _ (head tail : ℕ) (p : Positions z head tail) where
    -- the position j after head is the position live + j after tail
    pub pos-after : (j : ℕ) → position z head j ≡ position z tail (live_count z head tail + j)
    pos-after j =
        ap (λ (x : ℕ). position z x j) (sym (head_of head tail p.head-low p.tail-low))
        ∙ pos-more z tail (live_count z head tail) j

    -- head moves on by n, where there is room for them
    pub live_more : (n : ℕ) → live_count z head tail + n ≤ z.places → live_count z (position z head n) tail ≡ live_count z head tail + n
    live_more n h =
        ap (λ (x : ℕ). live_count z x tail) (pos-after n)
        ∙ live_of tail (live_count z head tail + n) p.tail-low (omega arith)

    pub positions-more : (n : ℕ) → live_count z head tail + n ≤ z.places → Positions z (position z head n) tail
    positions-more n h =
        record { head-low = pos-lt head n; tail-low = p.tail-low; live-high = omega (arith, live_more n h) }

    -- the positions from head on have no live position's place, while there is room for them
    pub new_apart : (i j : ℕ) → i < live_count z head tail → live_count z head tail + j < z.places
        → place_of z (position z tail i) ≡ place_of z (position z head j) → ⊥
    new_apart i j l h e =
        place-apart z tail i (live_count z head tail + j) (omega arith) (omega arith) (sym (e ∙ ap (place_of z) (pos-after j)))
