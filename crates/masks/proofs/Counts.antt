-- How many lines are in a set, and which, as the code counts them and finds the n-th.
use Prim.Native.Nat.{ℕ, zero, suc, ◌+◌, ◌/◌, ◌^◌, ◌<◌, ◌≤◌}
use mathlib.Core.Bool.{true, not}
use mathlib.Core.Path.{◌≡◌, refl, sym, ap, ◌∙◌}
use lib.Arith.{lt-one}
use lib.Count.{ones, ones_step}
use lib.ListN.{length, get_or}
use native.Mathlib.Omega.{arith}
use Rattle.bounded.specs.Below.{one, count_below}
use Rattle.bounded.proofs.Below.{count-le, count-first, count-ext, count-before, count-other, count_turn, ends}
use Rattle.bounded.proofs.Tests.{case_on}
use Rattle.bounded.proofs.Those.{length-those, those-ext, those-at, those-past, Chosen, chosen}
use Rattle.masks.specs.Lines.{in_mask, others, lines_in, lines_not_in, count_lines}
use Rattle.masks.proofs.Bits.{in-low, in-suc, half_lt}
use Rattle.masks.proofs.Members.{in-others, none_in}

-- the machine's count of ones is the count of lines
ones_below : (k m : ℕ) → m < 2 ^ k → ones m ≡ count_below k (in_mask m)
unfolding ones count_below
ones_below zero m h = ap ones (lt-one h)
ones_below (suc k) m h =
    omega (
      arith,
      ones_step m,
      in-low m,
      count-first (in_mask m) k,
      ones_below k (m / 2) (half_lt k h),
      count-ext (λ i. in_mask m (suc i)) (in_mask (m / 2)) k (λ i l. in-suc m i),
    )

pub ones-count : (m : ℕ) → m < 2 ^ 64 → ones m ≡ count_lines m
unfolding count_lines
ones-count m h = ones_below 64 m h

pub count-lines-le : (m : ℕ) → count_lines m ≤ 64
unfolding count_lines
count-lines-le m = count-le (in_mask m) 64

-- the lines in a set and the lines that are not are 64
pub count-lines-not : (m : ℕ) → count_lines m + length (lines_not_in m) ≡ 64
unfolding lines_not_in count_lines
count-lines-not m = omega (arith, length-those (λ i. not (in_mask m i)) 64, count-other (in_mask m) 64)

pub count-lines-some : (m i : ℕ) → i < 64 → in_mask m i ≡ true → 0 < count_lines m
unfolding count_lines
count-lines-some m i l t = omega (arith, count-before (in_mask m) 64 i l t)

pub count-lines-none : count_lines 0 ≡ 0
unfolding ones
count-lines-none = sym (ones-count 0 (omega arith))

pub none-counted : (m : ℕ) → m < 2 ^ 64 → count_lines m ≡ 0 → m ≡ 0
none-counted m h e =
    none_in m h
    (λ i l. case_on (in_mask m i) (λ t. absurd (omega (arith, count-lines-some m i l t))) (λ t. t))

-- ---- the n-th line of a set, or outside it: the n that are before it, and 64 where there are no more than n

pub line_at : (m i : ℕ) → i < 64 → in_mask m i ≡ true → get_or (lines_in m) (count_below i (in_mask m)) 64 ≡ i
unfolding lines_in
line_at m i l t = those-at (in_mask m) 64 i 64 l t

pub line-past : (m n : ℕ) → count_lines m ≤ n → get_or (lines_in m) n 64 ≡ 64
unfolding lines_in count_lines
line-past m n l = those-past (in_mask m) 64 n 64 l

pub line-chosen : (m n : ℕ) → n < count_lines m → Chosen (in_mask m) 64 n (get_or (lines_in m) n 64)
unfolding lines_in count_lines
line-chosen m n l = chosen (in_mask m) 64 n 64 l

pub line-chosen-not : (m n : ℕ) → n < length (lines_not_in m) → Chosen (λ i. not (in_mask m i)) 64 n (get_or (lines_not_in m) n 64)
unfolding lines_not_in
line-chosen-not m n l = chosen (λ i. not (in_mask m i)) 64 n 64 (omega (arith, length-those (λ i. not (in_mask m i)) 64))

pub lines-others : (m : ℕ) → m < 2 ^ 64 → lines_in (others m) ≡ lines_not_in m
unfolding lines_in lines_not_in
lines-others m h = those-ext (in_mask (others m)) (λ i. not (in_mask m i)) 64 (λ i l. in-others m i h l)

-- ---- the loop that finds it: of n lines to pass over, those below i are passed and left are not

module _ (m n i left : ℕ) (passed : count_below i (in_mask m) + left ≡ n) where
  pub nth-found : i < 64 → in_mask m i ≡ true → left ≡ 0 → i ≡ get_or (lines_in m) n 64
  nth-found l t z =
      let e : count_below i (in_mask m) ≡ n = omega arith in
      sym (line_at m i l t) ∙ ap (λ (k : ℕ). get_or (lines_in m) k 64) e

  pub nth-turn : (next : ℕ) → next + one (in_mask m i) ≡ left → count_below (i + 1) (in_mask m) + next ≡ n
  nth-turn next e = omega (arith, count_turn (in_mask m) i (count_below i (in_mask m)) (one (in_mask m i)) refl refl)

  pub nth-ended : i ≤ 64 → 64 ≤ i → 64 ≡ get_or (lines_in m) n 64
  unfolding count_lines
  nth-ended a b = sym (line-past m n (omega (arith, ends (λ k. count_below k (in_mask m)) 64 i a b)))
