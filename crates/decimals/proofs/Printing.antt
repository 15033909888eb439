-- The digits of a number: how many, and put one by one from the last on.
use mathlib.Core.Path.{◌≡◌, refl, sym, ap, ◌∙◌}
use mathlib.Core.Bool.{false, cond}
use mathlib.Core.Logic.{inr}
use mathlib.Core.List.{List, [], ◌∷◌, ◌++◌}
use Prim.Native.Nat.{ℕ, zero, suc, ◌+◌, ◌-◌, ◌/◌, ◌%◌, ◌^◌, ◌<◌, ◌≤◌}
use native.Mathlib.Nat.{pow-suc, div-lt_iff_lt-mul, zero-lt-suc}
use native.Mathlib.Omega.{arith}
use lib.Dec.{eqb}
use lib.ListN.{length, set, length-append}
use borrow.Author.Tests.{ne_eqb}
use Rattle.bounded.proofs.Tests.{case_on}
use Rattle.words.specs.Words.{over}
use Rattle.words.proofs.Parts.{over-over, over-comm, over-nil}
use Rattle.decimals.specs.Decimal.{digits_of, decimal_of}
use Rattle.words.proofs.Over.{set-over}

-- ---- how many digits

-- how many of the n digits of v there are where 0 has none
unfoldable pub wide : ℕ → ℕ → ℕ
wide n v = cond (eqb v 0) 0 (length (digits_of n v))

pub wide-zero : (n : ℕ) → wide n 0 ≡ 0
unfolding wide
wide-zero n = refl

pub length_digits : (n v : ℕ) → length (digits_of (suc n) v) ≡ 1 + wide n (v / 10)
unfolding digits_of wide
length_digits n v =
    length-append (cond (eqb (v / 10) 0) [] (digits_of n (v / 10))) ((48 + v % 10) ∷ [])
    ∙ case_on (eqb (v / 10) 0) (λ t. rw t) (λ t. rw t (omega arith))

-- a turn of the count
pub record Fewer (n v : ℕ) : Type 0 where
  pub some : 1 ≤ n
  pub less : v / 10 < 10 ^ (n - 1)
  pub count : wide n v ≡ 1 + wide (n - 1) (v / 10)

pub fewer : (n v : ℕ) → 0 < v → v < 10 ^ n → Fewer n v
unfolding wide
fewer zero v h k = absurd (omega arith)
fewer (suc n) v h k =
    let e : suc n - 1 ≡ n = omega arith in
    let z : eqb v 0 ≡ false = ne_eqb v 0 (λ q. omega arith) in
    record {
      some = omega arith;
      less = rw e ((div-lt_iff_lt-mul (zero-lt-suc 9)).1 (rw pow-suc at k));
      count = rw (e, z) (length_digits n v);
    }

pub digits_le : (n v : ℕ) → length (digits_of n v) ≤ n
unfolding digits_of wide
digits_le zero v = omega arith
digits_le (suc n) v =
    case_on (eqb (v / 10) 0)
    (λ t. rw t (omega arith))
    (λ t. rw t (omega (arith, length-append (digits_of n (v / 10)) ((48 + v % 10) ∷ []), digits_le n (v / 10))))

pub decimal-le : (v : ℕ) → length (decimal_of v) ≤ 20
decimal-le v = digits_le 20 v

pub decimal-some : (v : ℕ) → 1 ≤ length (decimal_of v)
decimal-some v = omega (arith, length_digits 19 v)

-- ---- the digits, as many as are asked for

unfoldable pub lowest : ℕ → ℕ → List ℕ
lowest zero v = []
lowest (suc k) v = lowest k (v / 10) ++ (48 + v % 10) ∷ []

pub length-lowest : (k v : ℕ) → length (lowest k v) ≡ k
unfolding lowest
length-lowest zero v = refl
length-lowest (suc k) v = omega (arith, length-append (lowest k (v / 10)) ((48 + v % 10) ∷ []), length-lowest k (v / 10))

pub digits-lowest : (n v : ℕ) → digits_of n v ≡ lowest (length (digits_of n v)) v
unfolding digits_of lowest
digits-lowest zero v = refl
digits-lowest (suc n) v =
    case_on (eqb (v / 10) 0)
    (λ t. rw t)
    (λ t.
    let xs = digits_of n (v / 10) in
    let e : length (xs ++ (48 + v % 10) ∷ []) ≡ suc (length xs) = omega (arith, length-append xs ((48 + v % 10) ∷ [])) in
    rw (t, e) (ap (λ (l : List ℕ). l ++ (48 + v % 10) ∷ []) (digits-lowest n (v / 10))))

-- the last of k digits is set first
pub put_last : (t : List ℕ) (at k v : ℕ) → 0 < k → at + k ≤ length t
    → over (set t (at + (k - 1)) (48 + v % 10)) at (lowest (k - 1) (v / 10)) ≡ over t at (lowest k v)
unfolding lowest
put_last t at zero v h f = absurd (omega arith)
put_last t at (suc j) v h f =
    let e : suc j - 1 ≡ j = omega arith in
    let xs = lowest j (v / 10) in
    let d = 48 + v % 10 in
    let n : length xs ≡ j = length-lowest j (v / 10) in
    rw e
    (ap (λ (l : List ℕ). over l at xs) (set-over t (at + j) d (omega arith))
    ∙ over-comm t (at + j) (d ∷ []) at xs (omega arith) (omega arith) (inr (omega arith))
    ∙ ap (λ (k : ℕ). over (over t at xs) (at + k) (d ∷ [])) (sym n)
    ∙ over-over t at xs (d ∷ []) (omega arith))

pub put-none : (t l : List ℕ) (at k v : ℕ) → k ≤ 0 → over t at (lowest k v) ≡ l → t ≡ l
unfolding lowest
put-none t l at k v z e =
    let q : k ≡ 0 = omega arith in
    sym (over-nil t at) ∙ ap (λ (k : ℕ). over t at (lowest k v)) (sym q) ∙ e
