-- The laws of the number with the least key: a loop's start, a turn and the end; and what it finds.
use Prim.Native.Nat.{ℕ, zero, suc, ◌+◌, ◌<◌, ◌≤◌}
use mathlib.Core.Bool.{Bool, true, false}
use mathlib.Core.Path.{◌≡◌, subst, ◌∙◌}
use lib.Dec.{eqb, ltb}
use borrow.Author.Tests.{eqb-true, eqb-false, ltb-true, ltb-false}
use native.Mathlib.Nat.{not-suc-le-zero}
use native.Mathlib.Omega.{arith}
use Rattle.bounded.specs.Below.{up_to, least_turn, least_below}
use Rattle.bounded.proofs.Tests.{case_on, contradicts}
use Rattle.bounded.proofs.Below.{split_below, ends, up_none, up_turn}

pub least-none : (f : ℕ → Bool) (key : ℕ → ℕ) → 0 ≡ least_below 0 f key
unfolding least_below
least-none f key = up_none (least_turn f key) 0

pub least-turn : (f : ℕ → Bool) (key : ℕ → ℕ) (i m r : ℕ) → m ≡ least_below i f key → r ≡ least_turn f key i m → r ≡ least_below (i + 1) f key
unfolding least_below
least-turn f key i m r e t = t ∙ up_turn (least_turn f key) 0 m i e

pub least-ends : (f : ℕ → Bool) (key : ℕ → ℕ) (n i m : ℕ) → i ≤ n → n ≤ i → m ≡ least_below i f key → m ≡ least_below n f key
least-ends f key n i m a b e = e ∙ ends (λ k. least_below k f key) n i a b

-- m, where it is below n, passes f, no number that does has a smaller key, and none below m has one as small; else no number passes
pub record Least (f : ℕ → Bool) (key : ℕ → ℕ) (n m : ℕ) : Type 0 where
  pub le : m ≤ n
  pub passes : m < n → f m ≡ true
  pub least : m < n → (k : ℕ) → k < n → f k ≡ true → key m ≤ key k
  pub lowest : m < n → (k : ℕ) → k < m → f k ≡ true → key m < key k
  pub none : m ≡ n → (k : ℕ) → k < n → f k ≡ false

module _ (f : ℕ → Bool) (key : ℕ → ℕ) (n m : ℕ) (h : Least f key n m) where
  -- n passes: it is the first that does, or has a smaller key, or has not
  first_passes : f n ≡ true → m ≡ n → Least f key (suc n) n
  first_passes t e =
      record {
        le = omega arith;
        passes = λ l. t;
        least = λ l k b p. split_below b (λ q. rw q (omega arith)) (λ c. contradicts p (h.none e k c));
        lowest = λ l k b p. contradicts p (h.none e k b);
        none = λ q. absurd (omega arith);
      }

  smaller-passes : f n ≡ true → m < n → key n < key m → Least f key (suc n) n
  smaller-passes t l s =
      record {
        le = omega arith;
        passes = λ b. t;
        least = λ b k c p. split_below c (λ q. rw q (omega arith)) (λ d. omega (arith, h.least l k d p));
        lowest = λ b k c p. omega (arith, h.least l k c p);
        none = λ q. absurd (omega arith);
      }

  other-stays : m < n → (f n ≡ true → key m ≤ key n) → Least f key (suc n) m
  other-stays l s =
      record {
        le = omega arith;
        passes = λ b. h.passes l;
        least = λ b k c p. split_below c (λ q. rw q (s (subst (λ (x : ℕ). f x ≡ true) q p))) (λ d. h.least l k d p);
        lowest = λ b k c p. h.lowest l k c p;
        none = λ q. absurd (omega arith);
      }

  still-none : f n ≡ false → m ≡ n → Least f key (suc n) (n + 1)
  still-none t e =
      record {
        le = omega arith;
        passes = λ l. absurd (omega arith);
        least = λ l. absurd (omega arith);
        lowest = λ l. absurd (omega arith);
        none = λ q k b. split_below b (λ p. rw p t) (λ c. h.none e k c);
      }

  below : eqb m n ≡ false → m < n
  below e = let d : m ≡ n → ⊥ = eqb-false m n e in omega (arith, h.le)

  turn-finds : Least f key (suc n) (least_turn f key n m)
  turn-finds =
      case_on (f n)
      (λ t.
      case_on (eqb m n)
      (λ e. rw (t, e) (first_passes t (eqb-true m n e)))
      (λ e.
      case_on (ltb (key n) (key m))
      (λ s. rw (t, e, s) (smaller-passes t (below e) (ltb-true (key n) (key m) s)))
      (λ s. rw (t, e, s) (other-stays (below e) (λ p. ltb-false (key n) (key m) s)))))
      (λ t.
      case_on (eqb m n)
      (λ e. rw (t, e) (still-none t (eqb-true m n e)))
      (λ e. rw (t, e) (other-stays (below e) (λ p. contradicts p t))))

pub least-finds : (f : ℕ → Bool) (key : ℕ → ℕ) (n : ℕ) → Least f key n (least_below n f key)
unfolding least_below up_to
least-finds f key zero =
    record { le = omega arith; passes = λ l. absurd (omega arith); least = λ l. absurd (omega arith); lowest = λ l. absurd (omega arith); none = λ q k b. absurd (not-suc-le-zero b) }
least-finds f key (suc n) = turn-finds f key n (least_below n f key) (least-finds f key n)
