-- Membership digit by digit: the lowest digit says whether line 0 is in a mask, and line i + 1 is in it where line i is
-- in its half. The laws hold at every width k; Members.antt has them for the 64 lines of a page.
use Prim.Native.Nat.{ℕ, zero, suc, ◌+◌, ◌-◌, ◌*◌, ◌/◌, ◌%◌, ◌^◌, ◌<◌, min, max}
use mathlib.Core.Bool.{Bool, true, false, not, cond, ◌&&◌, ◌||◌}
use mathlib.Core.Path.{◌≡◌, refl, sym, ap, ap₂, ◌∙◌}
use lib.Bits.{bit_and, bit_or, bit_xor, differ, and_step, or_step, xor_step}
use lib.Dec.{eqb, eqb-zero-suc, eqb-suc-zero, eqb-suc-suc}
use native.Mathlib.Nat.{pow-suc, div-div-eq-div-mul, mul_comm, zero-lt-suc, zero-div, div-lt_iff_lt-mul}
use native.Mathlib.Omega.{arith}
use Rattle.bounded.specs.Below.{one}
use Rattle.bounded.proofs.Below.{one-le}
use Rattle.masks.specs.Lines.{in_mask}

one-digit : (x : ℕ) → x < 2 → one (eqb x 1) ≡ x
unfolding one
one-digit zero l = refl
one-digit (suc zero) l = refl
one-digit (suc (suc x)) l = absurd (omega arith)

one-inj : (a b : Bool) → one a ≡ one b → a ≡ b
unfolding one
one-inj true true e = refl
one-inj true false e = absurd (omega arith)
one-inj false true e = absurd (omega arith)
one-inj false false e = refl

one-not : (b : Bool) → one b + one (not b) ≡ 1
unfolding one
one-not true = refl
one-not false = refl

pub in-low : (m : ℕ) → one (in_mask m 0) ≡ m % 2
unfolding in_mask
in-low m = one-digit (m / 1 % 2) (omega arith) ∙ omega arith

low-is : (m : ℕ) (b : Bool) → m % 2 ≡ one b → in_mask m 0 ≡ b
low-is m b e = one-inj (in_mask m 0) b (in-low m ∙ e)

pub in-suc : (m i : ℕ) → in_mask m (suc i) ≡ in_mask (m / 2) i
unfolding in_mask
in-suc m i = ap (λ (x : ℕ). eqb (x % 2) 1) (ap (λ (x : ℕ). m / x) (pow-suc 2 i ∙ mul_comm (2 ^ i) 2) ∙ sym (div-div-eq-div-mul m 2 (2 ^ i)))

-- no line is in 0
pub in-none : (i : ℕ) → in_mask 0 i ≡ false
unfolding in_mask
in-none i = ap (λ (x : ℕ). eqb (x % 2) 1) (zero-div (2 ^ i))

-- an operation that goes digit by digit, by f on digits, goes line by line, by g on tests
module _ (op f : ℕ → ℕ → ℕ) (g : Bool → Bool → Bool)
    (step : (a b : ℕ) → op a b ≡ op (a / 2) (b / 2) * 2 + f (a % 2) (b % 2))
    (table : (x y : Bool) → f (one x) (one y) ≡ one (g x y)) where
  lowest : (a b : ℕ) → op a b ≡ op (a / 2) (b / 2) * 2 + one (g (in_mask a 0) (in_mask b 0))
  lowest a b =
      step a b
      ∙ ap (λ (x : ℕ). op (a / 2) (b / 2) * 2 + x) (ap₂ f (sym (in-low a)) (sym (in-low b)) ∙ table (in_mask a 0) (in_mask b 0))

  in-op : (a b i : ℕ) → in_mask (op a b) i ≡ g (in_mask a i) (in_mask b i)
  in-op a b zero =
      low-is (op a b) (g (in_mask a 0) (in_mask b 0)) (omega (arith, lowest a b, one-le (g (in_mask a 0) (in_mask b 0))))
  in-op a b (suc i) =
      let e : op a b / 2 ≡ op (a / 2) (b / 2) = omega (arith, lowest a b, one-le (g (in_mask a 0) (in_mask b 0))) in
      in-suc (op a b) i
      ∙ ap (λ (x : ℕ). in_mask x i) e
      ∙ in-op (a / 2) (b / 2) i
      ∙ ap₂ g (sym (in-suc a i)) (sym (in-suc b i))

and-table : (x y : Bool) → min (one x) (one y) ≡ one (x && y)
unfolding one
and-table true true = refl
and-table true false = refl
and-table false y = omega arith

or-table : (x y : Bool) → max (one x) (one y) ≡ one (x || y)
unfolding one
or-table true true = refl
or-table true false = refl
or-table false y = omega arith

xor-table : (x y : Bool) → differ (one x) (one y) ≡ one (cond y (not x) x)
unfolding one
xor-table true true = refl
xor-table true false = refl
xor-table false true = refl
xor-table false false = refl

pub in_and : (a b i : ℕ) → in_mask (bit_and a b) i ≡ in_mask a i && in_mask b i
in_and = in-op bit_and min (λ x y. x && y) and_step and-table

pub in-or : (a b i : ℕ) → in_mask (bit_or a b) i ≡ in_mask a i || in_mask b i
in-or = in-op bit_or max (λ x y. x || y) or_step or-table

pub in-xor : (a b i : ℕ) → in_mask (bit_xor a b) i ≡ cond (in_mask b i) (not (in_mask a i)) (in_mask a i)
in-xor = in-op bit_xor differ (λ x y. cond y (not x) x) xor_step xor-table

-- a power of two has one line
half_pow : (i : ℕ) → 2 ^ suc i / 2 ≡ 2 ^ i
half_pow i = rw (pow-suc 2 i) (omega arith)

pub in-pow : (i j : ℕ) → in_mask (2 ^ i) j ≡ eqb i j
unfolding one
in-pow zero zero = low-is 1 true refl
in-pow zero (suc j) = in-suc 1 j ∙ in-none j ∙ sym (eqb-zero-suc j)
in-pow (suc i) zero = low-is (2 ^ suc i) false (rw (pow-suc 2 i) (omega arith)) ∙ sym (eqb-suc-zero i)
in-pow (suc i) (suc j) = in-suc (2 ^ suc i) j ∙ ap (λ (x : ℕ). in_mask x j) (half_pow i) ∙ in-pow i j ∙ sym (eqb-suc-suc i j)

-- ---- masks of k lines

pub half_lt : (k : ℕ) {m : ℕ} → m < 2 ^ suc k → m / 2 < 2 ^ k
half_lt k h = (div-lt_iff_lt-mul (zero-lt-suc 1)).1 (rw (pow-suc 2 k) at h)

-- the same lines, the same mask
pub in-ext : (k a b : ℕ) → a < 2 ^ k → b < 2 ^ k → ((i : ℕ) → i < k → in_mask a i ≡ in_mask b i) → a ≡ b
in-ext zero a b h l f = omega arith
in-ext (suc k) a b h l f =
    let halves : a / 2 ≡ b / 2 = in-ext k (a / 2) (b / 2) (half_lt k h) (half_lt k l) (λ i p. sym (in-suc a i) ∙ f (suc i) (omega arith) ∙ in-suc b i) in
    let lows : a % 2 ≡ b % 2 = sym (in-low a) ∙ ap one (f 0 (omega arith)) ∙ in-low b in
    omega arith

-- no line from k on is in a mask below 2 ^ k
pub in-past : (k m i : ℕ) → m < 2 ^ k → in_mask m (k + i) ≡ false
in-past zero m i h = let e : m ≡ 0 = omega arith in ap (λ (x : ℕ). in_mask x (0 + i)) e ∙ in-none (0 + i)
in-past (suc k) m i h =
    let e : suc k + i ≡ suc (k + i) = omega arith in
    ap (in_mask m) e ∙ in-suc m (k + i) ∙ in-past k (m / 2) i (half_lt k h)

-- all ones less m has the lines that m has not
pub in-complement : (k m i : ℕ) → m < 2 ^ k → i < k → in_mask (2 ^ k - 1 - m) i ≡ not (in_mask m i)
in-complement zero m i h p = absurd (omega arith)
in-complement (suc k) m zero h p =
    let q : 2 ^ suc k ≡ 2 ^ k * 2 = pow-suc 2 k in
    low-is (2 ^ suc k - 1 - m) (not (in_mask m 0)) (omega (arith, in-low m, one-not (in_mask m 0)))
in-complement (suc k) m (suc i) h p =
    let q : 2 ^ suc k ≡ 2 ^ k * 2 = pow-suc 2 k in
    let e : (2 ^ suc k - 1 - m) / 2 ≡ 2 ^ k - 1 - m / 2 = omega arith in
    in-suc (2 ^ suc k - 1 - m) i
    ∙ ap (λ (x : ℕ). in_mask x i) e
    ∙ in-complement k (m / 2) i (half_lt k h) (omega arith)
    ∙ ap not (sym (in-suc m i))
