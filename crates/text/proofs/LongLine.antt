-- A line longer than any right one is of another form, and so is what is left of it where it is cut.
use mathlib.Core.Path.{◌≡◌, refl, sym, ap, ◌∙◌}
use mathlib.Core.Bool.{true, ◌&&◌}
use mathlib.Core.List.{List, [], ◌∷◌}
use Prim.Native.Nat.{ℕ, suc, ◌+◌, ◌*◌, ◌^◌, ◌<◌, ◌≤◌}
use native.Mathlib.Nat.{suc-mul, mul-le-mul_right}
use native.Mathlib.Omega.{arith}
use lib.Dec.{ltb, leb, eqb}
use lib.ListN.{length, take}
use lib.Seq.{length-take-le, take_all}
use borrow.Author.Tests.{eqb-true, leb-true, leb-false}
use Rattle.bounded.proofs.Tests.{case_on, every_held, and_left, and_right}
use Rattle.text.specs.Fields.{with_byte, fields, all_digits, value_from, is_number, all_numbers, other_form, line_of, parsed}
use Rattle.text.proofs.Reading.{some-fields}

-- the bytes of fields, with one more for each
unfoldable spread : List (List ℕ) → ℕ
spread [] = 0
spread (f ∷ fs) = suc (length f) + spread fs

spread-byte : (b : ℕ) (fs : List (List ℕ)) → 1 ≤ length fs → spread (with_byte b fs) ≡ suc (spread fs)
unfolding spread with_byte
spread-byte b [] h = absurd (omega arith)
spread-byte b (f ∷ fs) h = omega arith

spread-fields : (l : List ℕ) → spread (fields l) ≡ suc (length l)
unfolding spread fields
spread-fields [] = refl
spread-fields (b ∷ l) =
    case_on (eqb b 44)
    (λ t. rw t (omega (arith, spread-fields l)))
    (λ t. rw t (spread-byte b (fields l) (some-fields l) ∙ ap suc (spread-fields l)))

spread-numbers : (digits : ℕ) (fs : List (List ℕ)) → all_numbers digits fs ≡ true → spread fs ≤ length fs * suc digits
unfolding spread all_numbers
spread-numbers digits [] t = omega arith
spread-numbers digits (f ∷ fs) t =
    let n = and_left (is_number digits f) (all_numbers digits fs) t in
    let h = every_held (leb 1 (length f) ∷ leb (length f) digits ∷ all_digits f ∷ ltb (value_from 0 f) (2 ^ 64) ∷ []) n in
    let k : length f ≤ digits = leb-true (length f) digits h.1.0 in
    let r : spread fs ≤ length fs * suc digits = spread-numbers digits fs (and_right (is_number digits f) (all_numbers digits fs) t) in
    rw suc-mul (omega arith)

spread-right : (digits : ℕ) (fs : List (List ℕ)) → 2 + 69 * suc digits < spread fs → line_of digits fs ≡ other_form
unfolding line_of spread
spread-right digits [] h = refl
spread-right digits (name ∷ rest) h =
    case_on (eqb (length name) 1 && all_numbers digits rest && leb (length rest) 69)
    (λ t. absurd (right t))
    (λ t. rw t)
  where
    right : eqb (length name) 1 && all_numbers digits rest && leb (length rest) 69 ≡ true → ⊥
    right t =
        let p = every_held (eqb (length name) 1 ∷ all_numbers digits rest ∷ leb (length rest) 69 ∷ []) t in
        let a : length name ≡ 1 = eqb-true (length name) 1 p.0 in
        let b : spread rest ≤ length rest * suc digits = spread-numbers digits rest p.1.0 in
        let c : length rest * suc digits ≤ 69 * suc digits = mul-le-mul_right (suc digits) (leb-true (length rest) 69 p.1.1.0) in
        omega arith

pub long-line : (digits : ℕ) (line : List ℕ) → 1 + 69 * (digits + 1) < length line → parsed digits line ≡ other_form
unfolding parsed
long-line digits line h = spread-right digits (fields line) (omega (arith, spread-fields line))

-- so to cut lines there changes no answer
pub cut_line : (digits n : ℕ) (line : List ℕ) → 1 + 69 * (digits + 1) < n → parsed digits (take n line) ≡ parsed digits line
cut_line digits n line h =
    case_on (leb (length line) n)
    (λ t. ap (parsed digits) (take_all n line (leb-true (length line) n t)))
    (λ t.
    let l : n < length line = leb-false (length line) n t in
    long-line digits (take n line) (omega (arith, length-take-le n line (omega arith))) ∙ sym (long-line digits line (omega arith)))
