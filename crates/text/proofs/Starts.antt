-- How a line starts: with one letter and a comma, or it is of another form or has no numbers.
use mathlib.Core.Path.{◌≡◌, refl}
use mathlib.Core.List.{List, [], ◌∷◌}
use Prim.Native.Nat.{ℕ, suc, ◌<◌}
use native.Mathlib.Omega.{arith}
use lib.ListN.{length, get_or, drop, replicate}
use borrow.Author.Tests.{eq-eqb, ne_eqb}
use Rattle.text.specs.Fields.{with_byte, fields, all_numbers, values, other_form, line_of, parsed}

long-name : (digits a b : ℕ) (fs : List (List ℕ)) → line_of digits (with_byte a (with_byte b fs)) ≡ other_form
unfolding line_of with_byte
long-name digits a b [] = refl
long-name digits a b (f ∷ fs) = rw (ne_eqb (suc (suc (length f))) 1 (λ e. omega arith))

module _ (digits : ℕ) where
  pub parsed-empty : (l : List ℕ) → length l ≡ 0 → parsed digits l ≡ other_form
  unfolding parsed fields line_of
  parsed-empty [] e = refl
  parsed-empty (b ∷ l) e = absurd (omega arith)

  pub parsed-comma : (l : List ℕ) → 0 < length l → get_or l 0 0 ≡ 44 → parsed digits l ≡ other_form
  unfolding parsed fields line_of
  parsed-comma [] h e = absurd (omega arith)
  parsed-comma (b ∷ l) h e = rw (eq-eqb b 44 e)

  pub parsed-letter : (l : List ℕ) → length l ≡ 1 → (get_or l 0 0 ≡ 44 → ⊥)
      → parsed digits l ≡ record { letter = get_or l 0 0; count = 0; numbers = replicate 69 0 }
  unfolding parsed fields line_of with_byte all_numbers values
  parsed-letter [] h e = absurd (omega arith)
  parsed-letter (b ∷ []) h e = rw (ne_eqb b 44 e)
  parsed-letter (b ∷ d ∷ l) h e = absurd (omega arith)

  pub parsed-name : (l : List ℕ) → 1 < length l → (get_or l 0 0 ≡ 44 → ⊥) → (get_or l 1 0 ≡ 44 → ⊥) → parsed digits l ≡ other_form
  unfolding parsed fields
  parsed-name [] h a e = absurd (omega arith)
  parsed-name (b ∷ []) h a e = absurd (omega arith)
  parsed-name (b ∷ d ∷ l) h a e = rw (ne_eqb b 44 a, ne_eqb d 44 e) (long-name digits b d (fields l))

  pub parsed-numbers : (l : List ℕ) → 1 < length l → (get_or l 0 0 ≡ 44 → ⊥) → get_or l 1 0 ≡ 44
      → parsed digits l ≡ line_of digits ((get_or l 0 0 ∷ []) ∷ fields (drop 2 l))
  unfolding parsed fields with_byte
  parsed-numbers [] h a e = absurd (omega arith)
  parsed-numbers (b ∷ []) h a e = absurd (omega arith)
  parsed-numbers (b ∷ d ∷ l) h a e = rw (ne_eqb b 44 a, eq-eqb d 44 e)
