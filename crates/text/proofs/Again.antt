-- What is printed is a number, and reading it gives back what was printed.
use mathlib.Core.Path.{◌≡◌, refl, ◌∙◌}
use mathlib.Core.Bool.{true}
use mathlib.Core.List.{List, [], ◌∷◌, ◌++◌}
use Prim.Native.Nat.{ℕ, zero, suc, ◌+◌, ◌-◌, ◌*◌, ◌/◌, ◌%◌, ◌^◌, ◌<◌, ◌≤◌}
use native.Mathlib.Nat.{pow-suc, div-lt_iff_lt-mul, zero-lt-suc}
use native.Mathlib.Omega.{arith}
use lib.Dec.{ltb, leb, eqb}
use lib.ListN.{length}
use borrow.Author.Tests.{eqb-true, le-leb, lt-ltb}
use Rattle.bounded.proofs.Tests.{case_on, every_held, held-every}
use Rattle.text.specs.Fields.{all_digits, value_from, is_number}
use Rattle.decimals.specs.Decimal.{digits_of, decimal_of}
use Rattle.decimals.proofs.Printing.{decimal-le, decimal-some}

value-more : (l : List ℕ) (v d : ℕ) → value_from v (l ++ d ∷ []) ≡ 10 * value_from v l + (d - 48)
unfolding value_from
value-more [] v d = refl
value-more (b ∷ l) v d = value-more l (10 * v + (b - 48)) d

digits_more : (l : List ℕ) (d : ℕ) → all_digits l ≡ true → 48 ≤ d → d ≤ 57 → all_digits (l ++ d ∷ []) ≡ true
unfolding all_digits
digits_more [] d e g h = rw (le-leb 48 d g, le-leb d 57 h)
digits_more (b ∷ l) d e g h =
    let p = every_held (leb 48 b ∷ leb b 57 ∷ all_digits l ∷ []) e in
    held-every (leb 48 b ∷ leb b 57 ∷ all_digits (l ++ d ∷ []) ∷ []) (p.0, (p.1.0, (digits_more l d p.1.1.0 g h, tt)))

value-digits : (n v : ℕ) → v < 10 ^ n → value_from 0 (digits_of n v) ≡ v
unfolding digits_of value_from
value-digits zero v h = omega arith
value-digits (suc n) v h =
    case_on (eqb (v / 10) 0)
    (λ t. rw t (omega (arith, eqb-true (v / 10) 0 t)))
    (λ t.
    let ih : value_from 0 (digits_of n (v / 10)) ≡ v / 10 = value-digits n (v / 10) ((div-lt_iff_lt-mul (zero-lt-suc 9)).1 (rw pow-suc at h)) in
    rw t (value-more (digits_of n (v / 10)) 0 (48 + v % 10) ∙ (omega arith)))

pub are_all_digits : (n v : ℕ) → all_digits (digits_of n v) ≡ true
unfolding digits_of all_digits
are_all_digits zero v = refl
are_all_digits (suc n) v =
    case_on (eqb (v / 10) 0)
    (λ t. rw t (digits_more [] (48 + v % 10) refl (omega arith) (omega arith)))
    (λ t. rw t (digits_more (digits_of n (v / 10)) (48 + v % 10) (are_all_digits n (v / 10)) (omega arith) (omega arith)))

pub decimal-value : (v : ℕ) → v < 2 ^ 64 → value_from 0 (decimal_of v) ≡ v
decimal-value v h = value-digits 20 v (omega arith)

pub decimal-number : (v : ℕ) → v < 2 ^ 64 → is_number 20 (decimal_of v) ≡ true
decimal-number v h =
    let f = decimal_of v in
    held-every (leb 1 (length f) ∷ leb (length f) 20 ∷ all_digits f ∷ ltb (value_from 0 f) (2 ^ 64) ∷ []) (
      le-leb 1 (length f) (decimal-some v),
      (
        le-leb (length f) 20 (decimal-le v),
        (
          are_all_digits 20 v,
          (lt-ltb (value_from 0 f) (2 ^ 64) (omega (arith, decimal-value v h)), tt),
        ),
      ),
    )
