-- Which lines are in a set that was made from others, and sets that are told by their lines. A set is a mask below 2 ^ 64.
use Prim.Native.Nat.{ℕ, ◌*◌, ◌^◌, ◌<◌, ◌%◌}
use mathlib.Core.Bool.{Bool, true, false, not, cond, ◌||◌, or-true, or-false}
use mathlib.Core.Path.{◌≡◌, refl, sym, ap, ◌∙◌}
use lib.Bits.{or_lt, xor_lt}
use lib.Dec.{eqb}
use lib.Pow.{pow_pos, pow-lt, shl_exact}
use borrow.Author.Tests.{eq-eqb, ne_eqb}
use native.Mathlib.Nat.{one-mul}
use native.Mathlib.Omega.{arith}
use Rattle.masks.specs.Lines.{in_mask, with_line, exclusive_or, others}
use Rattle.masks.proofs.Bits as bits
pub use Rattle.masks.proofs.Bits.{in-none}

-- ---- a line put in

pub in-with : (m i j : ℕ) → in_mask (with_line m i) j ≡ in_mask m j || eqb i j
unfolding with_line
in-with m i j = bits.in-or m (2 ^ i) j ∙ ap (λ (b : Bool). in_mask m j || b) (bits.in-pow i j)

pub in-with-same : (m i : ℕ) → in_mask (with_line m i) i ≡ true
in-with-same m i = in-with m i i ∙ ap (λ (b : Bool). in_mask m i || b) (eq-eqb i i refl) ∙ or-true (in_mask m i)

pub in-with-other : (m i j : ℕ) → (i ≡ j → ⊥) → in_mask (with_line m i) j ≡ in_mask m j
in-with-other m i j n = in-with m i j ∙ ap (λ (b : Bool). in_mask m j || b) (ne_eqb i j n) ∙ or-false (in_mask m j)

pub with-lt : (m i : ℕ) → m < 2 ^ 64 → i < 64 → with_line m i < 2 ^ 64
unfolding with_line
with-lt m i h l = or_lt 64 m (2 ^ i) h (pow-lt l)

-- the code's `1 << i`
pub shifted_one : (i : ℕ) → i < 64 → (1 * 2 ^ i) % 2 ^ 64 ≡ 2 ^ i
shifted_one i h = shl_exact {a = 1} 1 i 64 (omega arith) (omega arith) ∙ one-mul (2 ^ i)

-- ---- exclusive or: a line of b flips, any other stays

pub in-exclusive-or : (a b i : ℕ) → in_mask (exclusive_or a b) i ≡ cond (in_mask b i) (not (in_mask a i)) (in_mask a i)
unfolding exclusive_or
in-exclusive-or a b i = bits.in-xor a b i

pub flipped : (a b i : ℕ) → in_mask b i ≡ true → in_mask (exclusive_or a b) i ≡ not (in_mask a i)
flipped a b i e = in-exclusive-or a b i ∙ ap (λ (t : Bool). cond t (not (in_mask a i)) (in_mask a i)) e

pub kept : (a b i : ℕ) → in_mask b i ≡ false → in_mask (exclusive_or a b) i ≡ in_mask a i
kept a b i e = in-exclusive-or a b i ∙ ap (λ (t : Bool). cond t (not (in_mask a i)) (in_mask a i)) e

pub exclusive-or-lt : (a b : ℕ) → a < 2 ^ 64 → b < 2 ^ 64 → exclusive_or a b < 2 ^ 64
unfolding exclusive_or
exclusive-or-lt a b h l = xor_lt 64 a b h l

-- ---- the other lines

pub in-others : (m i : ℕ) → m < 2 ^ 64 → i < 64 → in_mask (others m) i ≡ not (in_mask m i)
unfolding others
in-others m i h l = bits.in-complement 64 m i h l

-- ---- a set is told by its lines

pub same-members : (a b : ℕ) → a < 2 ^ 64 → b < 2 ^ 64 → ((i : ℕ) → i < 64 → in_mask a i ≡ in_mask b i) → a ≡ b
same-members a b h l f = bits.in-ext 64 a b h l f

pub none_in : (m : ℕ) → m < 2 ^ 64 → ((i : ℕ) → i < 64 → in_mask m i ≡ false) → m ≡ 0
none_in m h f = same-members m 0 h (pow_pos 64) (λ i l. f i l ∙ sym (in-none i))
