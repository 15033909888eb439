-- A line that is read byte by byte: what is read so far and the fields that are left give the line.
use mathlib.Core.Path.{◌≡◌, refl, sym, ap}
use mathlib.Core.Bool.{Bool, true, false, cond, ◌&&◌, ◌||◌, and-false}
use mathlib.Core.List.{List, [], ◌∷◌, ◌++◌}
use Prim.Native.Nat.{ℕ, zero, suc, ◌+◌, ◌-◌, ◌*◌, ◌^◌, ◌<◌, ◌≤◌}
use native.Mathlib.Numerals.{add-one}
use native.Mathlib.Omega.{arith}
use lib.Dec.{ltb, leb, eqb}
use lib.ListN.{length, get_or, take, drop, set, replicate, drop_of_length-le}
use lib.Seq.{drop-cons}
use borrow.Author.Tests.{eq-eqb, ne_eqb, lt-ltb, le-ltb, le-leb, eqb-true, eqb-false, ltb-true, ltb-false, leb-true, leb-false}
use Rattle.bounded.proofs.Tests.{case_on, contradicts, and_left, and_right, every_held, held-every}
use Rattle.words.specs.Words.{over}
use Rattle.text.specs.declared.Line.{Line}
use Rattle.text.specs.Fields.{with_byte, fields, all_digits, value_from, is_number, all_numbers, values, other_form, line_of}
use Rattle.text.specs.Digits.{takes, closes}
use Rattle.words.proofs.Over.{set-over, set_first}

-- what is read: the letter, `count` numbers, and n digits of value v of the next
pub record State : Type 0 where
  pub digits : ℕ
  pub letter : ℕ
  pub numbers : List ℕ
  pub count : ℕ
  pub n : ℕ
  pub v : ℕ

abbrev pub with_digit : State → ℕ → State
with_digit s b = record { digits = s.digits; letter = s.letter; numbers = s.numbers; count = s.count; n = s.n + 1; v = 10 * s.v + (b - 48) }

abbrev pub with_number : State → State
with_number s =
    record { digits = s.digits; letter = s.letter; numbers = set s.numbers s.count s.v; count = s.count + 1; n = 0; v = 0 }

-- the bounds that the code keeps
pub record Kept (s : State) : Type 0 where
  pub short : s.n ≤ s.digits
  pub small : s.v < 2 ^ 64
  pub sized : length s.numbers ≡ 69

-- whether a field is a number, of which n digits of value v stand before f
unfoldable pub fits_from : ℕ → ℕ → ℕ → List ℕ → Bool
fits_from digits n v f = leb 1 (n + length f) && leb (n + length f) digits && all_digits f && ltb (value_from v f) (2 ^ 64)

-- the line that what is read and the fields left give
unfoldable pub going : State → List (List ℕ) → Line
going s [] = other_form
going s (f ∷ fs) =
    cond (fits_from s.digits s.n s.v f && all_numbers s.digits fs && leb (s.count + suc (length fs)) 69)
    (record {
      letter = s.letter;
      count = s.count + suc (length fs);
      numbers = over s.numbers s.count (value_from s.v f ∷ values fs);
    })
    other_form

-- ---- fields

with-some : (b : ℕ) (fs : List (List ℕ)) → 1 ≤ length (with_byte b fs)
unfolding with_byte
with-some b [] = omega arith
with-some b (f ∷ fs) = omega arith

pub some-fields : (l : List ℕ) → 1 ≤ length (fields l)
unfolding fields
some-fields [] = omega arith
some-fields (b ∷ l) = case_on (eqb b 44) (λ t. rw t (omega arith)) (λ t. rw t (with-some b (fields l)))

pub at-comma : (l : List ℕ) (i : ℕ) → i < length l → get_or l i 0 ≡ 44 → fields (drop i l) ≡ [] ∷ fields (drop (i + 1) l)
unfolding fields
at-comma l i h e = rw (add-one, drop-cons l i 0 h, eq-eqb (get_or l i 0) 44 e)

pub at_byte : (l : List ℕ) (i : ℕ) → i < length l → (get_or l i 0 ≡ 44 → ⊥)
    → fields (drop i l) ≡ with_byte (get_or l i 0) (fields (drop (i + 1) l))
unfolding fields
at_byte l i h e = rw (add-one, drop-cons l i 0 h, ne_eqb (get_or l i 0) 44 e)

pub at-end : (l : List ℕ) (i : ℕ) → length l ≤ i → fields (drop i l) ≡ [] ∷ []
unfolding fields
at-end l i h = rw (drop_of_length-le l {i = i} h)

-- ---- the start

fits-first : (digits : ℕ) (f : List ℕ) → fits_from digits 0 0 f ≡ is_number digits f
unfolding fits_from
fits-first digits f = let e : 0 + length f ≡ length f = omega arith in rw e

length-values : (fs : List (List ℕ)) → length (values fs) ≡ length fs
unfolding values
length-values [] = refl
length-values (f ∷ fs) = ap suc (length-values fs)

-- numbers before zeros, up to n places, are laid over n zeros
take-zeros : (n m : ℕ) → n ≤ m → take {A = ℕ} n (replicate m 0) ≡ replicate n 0
take-zeros zero m h = refl
take-zeros (suc n) zero h = absurd (omega arith)
take-zeros (suc n) (suc m) h = ap (λ (t : List ℕ). 0 ∷ t) (take-zeros n m (omega arith))

before-zeros : (l : List ℕ) (n m : ℕ) → length l ≤ n → n ≤ m → take n (l ++ replicate m 0) ≡ l ++ drop (length l) (replicate n 0)
before-zeros [] n m h g = take-zeros n m g
before-zeros (x ∷ l) zero m h g = absurd (omega arith)
before-zeros (x ∷ l) (suc n) m h g = ap (λ (t : List ℕ). x ∷ t) (before-zeros l n m (omega arith) (omega arith))

over_zeros : (n : ℕ) (l : List ℕ) → length l ≤ n → take n (l ++ replicate n 0) ≡ over (replicate n 0) 0 l
unfolding over
over_zeros n l h = before-zeros l n n h (omega arith)

abbrev pub at_letter : ℕ → ℕ → State
at_letter digits letter = record { digits = digits; letter = letter; numbers = replicate 69 0; count = 0; n = 0; v = 0 }

pub going_start : (digits letter : ℕ) (fs : List (List ℕ)) → 1 ≤ length fs
    → line_of digits ((letter ∷ []) ∷ fs) ≡ going (at_letter digits letter) fs
unfolding going line_of all_numbers values
going_start digits letter [] h = absurd (omega arith)
going_start digits letter (f ∷ fs) h =
    let e : 0 + suc (length fs) ≡ suc (length fs) = omega arith in
    let b : Bool = is_number digits f && all_numbers digits fs in
    case_on (leb (suc (length fs)) 69)
    (λ t.
    let n : length (values (f ∷ fs)) ≤ 69 = omega (arith, length-values (f ∷ fs), leb-true (suc (length fs)) 69 t) in
    rw (fits-first digits f, e)
    (ap
    (λ (l : List ℕ). cond (b && leb (suc (length fs)) 69) (record { letter = letter; count = suc (length fs); numbers = l }) other_form)
    (over_zeros 69 (values (f ∷ fs)) n)))
    (λ t. rw (fits-first digits f, e, t, and-false b))

-- ---- one byte more of a field

pub record Digit (digits n v b : ℕ) : Type 0 where
  pub low : 48 ≤ b
  pub fewer : n < digits
  pub small : 10 * v + (b - 48) < 2 ^ 64

pub digit : (digits n v b : ℕ) → takes digits n v b ≡ true → Digit digits n v b
unfolding takes
digit digits n v b t =
    let h = every_held (leb 48 b ∷ leb b 57 ∷ ltb n digits ∷ ltb (10 * v + (b - 48)) (2 ^ 64) ∷ []) t in
    record {
      low = leb-true 48 b h.0;
      fewer = ltb-true n digits h.1.1.0;
      small = ltb-true (10 * v + (b - 48)) (2 ^ 64) h.1.1.1.0;
    }

value_grows : (f : List ℕ) (v : ℕ) → v ≤ value_from v f
unfolding value_from
value_grows [] v = omega arith
value_grows (b ∷ f) v = omega (arith, value_grows f (10 * v + (b - 48)))

fits-digit : (digits n v b : ℕ) (f : List ℕ) → takes digits n v b ≡ true
    → fits_from digits n v (b ∷ f) ≡ fits_from digits (n + 1) (10 * v + (b - 48)) f
unfolding takes fits_from all_digits value_from
fits-digit digits n v b f t =
    let h = every_held (leb 48 b ∷ leb b 57 ∷ ltb n digits ∷ ltb (10 * v + (b - 48)) (2 ^ 64) ∷ []) t in
    let e : n + suc (length f) ≡ n + 1 + length f = omega arith in
    rw (e, h.0, h.1.0)

fits-takes : (digits n v b : ℕ) (f : List ℕ) → fits_from digits n v (b ∷ f) ≡ true → takes digits n v b ≡ true
unfolding takes fits_from all_digits value_from
fits-takes digits n v b f t =
    let w = 10 * v + (b - 48) in
    let k = n + suc (length f) in
    let h = every_held (leb 1 k ∷ leb k digits ∷ (leb 48 b && leb b 57 && all_digits f) ∷ ltb (value_from w f) (2 ^ 64) ∷ []) t in
    let d = every_held (leb 48 b ∷ leb b 57 ∷ all_digits f ∷ []) h.1.1.0 in
    let m : k ≤ digits = leb-true k digits h.1.0 in
    let s : value_from w f < 2 ^ 64 = ltb-true (value_from w f) (2 ^ 64) h.1.1.1.0 in
    held-every (leb 48 b ∷ leb b 57 ∷ ltb n digits ∷ ltb w (2 ^ 64) ∷ [])
    (d.0, (d.1.0, (lt-ltb n digits (omega arith), (lt-ltb w (2 ^ 64) (omega (arith, value_grows f w)), tt))))

module _ (s : State) (b : ℕ) where
  pub going-digit : (fs : List (List ℕ)) → 1 ≤ length fs → takes s.digits s.n s.v b ≡ true
      → going s (with_byte b fs) ≡ going (with_digit s b) fs
  unfolding going with_byte value_from
  going-digit [] h t = absurd (omega arith)
  going-digit (f ∷ fs) h t = rw (fits-digit s.digits s.n s.v b f t)

  pub going-bad : (fs : List (List ℕ)) → 1 ≤ length fs → takes s.digits s.n s.v b ≡ false → going s (with_byte b fs) ≡ other_form
  unfolding going with_byte
  going-bad [] h t = absurd (omega arith)
  going-bad (f ∷ fs) h t =
      case_on (fits_from s.digits s.n s.v (b ∷ f))
      (λ e. contradicts (fits-takes s.digits s.n s.v b f e) t)
      (λ e. rw e)

-- ---- the end of a field

pub closes-room : (n count : ℕ) → closes n count ≡ true → count < 69
closes-room n count t = ltb-true count 69 (and_right (ltb 0 n) (ltb count 69) t)

fits-end : (digits n v count : ℕ) → n ≤ digits → v < 2 ^ 64 → closes n count ≡ true → fits_from digits n v [] ≡ true
unfolding fits_from all_digits value_from
fits-end digits n v count a b t =
    let p : 0 < n = ltb-true 0 n (and_left (ltb 0 n) (ltb count 69) t) in
    held-every (leb 1 (n + 0) ∷ leb (n + 0) digits ∷ true ∷ ltb v (2 ^ 64) ∷ [])
    (le-leb 1 (n + 0) (omega arith), (le-leb (n + 0) digits (omega arith), (refl, (lt-ltb v (2 ^ 64) b, tt))))

end-closes : (digits n v count k : ℕ) (a : Bool) → fits_from digits n v [] && a && leb (count + suc k) 69 ≡ true → closes n count ≡ true
unfolding fits_from all_digits
end-closes digits n v count k a e =
    let h = every_held (fits_from digits n v [] ∷ a ∷ leb (count + suc k) 69 ∷ []) e in
    let g = every_held (leb 1 (n + 0) ∷ leb (n + 0) digits ∷ true ∷ ltb (value_from v []) (2 ^ 64) ∷ []) h.0 in
    let p : 1 ≤ n + 0 = leb-true 1 (n + 0) g.0 in
    let q : count + suc k ≤ 69 = leb-true (count + suc k) 69 h.1.1.0 in
    held-every (ltb 0 n ∷ ltb count 69 ∷ []) (lt-ltb 0 n (omega arith), (lt-ltb count 69 (omega arith), tt))

pub going-full : (s : State) (fs : List (List ℕ)) → closes s.n s.count ≡ false → going s ([] ∷ fs) ≡ other_form
unfolding going
going-full s fs t =
    case_on (fits_from s.digits s.n s.v [] && all_numbers s.digits fs && leb (s.count + suc (length fs)) 69)
    (λ e. contradicts (end-closes s.digits s.n s.v s.count (length fs) (all_numbers s.digits fs) e) t)
    (λ e. rw e)

module _ (s : State) (k : Kept s) (t : closes s.n s.count ≡ true) where
  room : s.count < length s.numbers
  room = omega (arith, closes-room s.n s.count t, k.sized)

  ended : fits_from s.digits s.n s.v [] ≡ true
  ended = fits-end s.digits s.n s.v s.count k.short k.small t

  pub going-comma : (fs : List (List ℕ)) → 1 ≤ length fs → going s ([] ∷ fs) ≡ going (with_number s) fs
  unfolding going all_numbers value_from values
  going-comma [] h = absurd (omega arith)
  going-comma (f ∷ fs) h =
      let e : s.count + suc (suc (length fs)) ≡ s.count + 1 + suc (length fs) = omega arith in
      rw (ended, e, fits-first s.digits f, set_first s.numbers s.count s.v (value_from 0 f ∷ values fs) room)

  pub going_end : going s ([] ∷ []) ≡ record { letter = s.letter; count = s.count + 1; numbers = set s.numbers s.count s.v }
  unfolding going values value_from all_numbers
  going_end =
      let h : s.count + 1 ≤ 69 = omega (arith, closes-room s.n s.count t) in
      rw (ended, le-leb (s.count + 1) 69 h, set-over s.numbers s.count s.v room)

-- ---- the test on a digit, as the code makes it

room_for : (v d : ℕ) → d ≤ 9 → (ltb v 1844674407370955161 || eqb v 1844674407370955161 && leb d 5) ≡ ltb (10 * v + d) (2 ^ 64)
room_for v d h =
    case_on (ltb v 1844674407370955161)
    (λ t. rw t (sym (lt-ltb (10 * v + d) (2 ^ 64) (omega (arith, ltb-true v 1844674407370955161 t)))))
    (λ t.
    case_on (eqb v 1844674407370955161)
    (λ u.
    case_on (leb d 5)
    (λ w. rw (t, u, w) (sym (lt-ltb (10 * v + d) (2 ^ 64) (omega (arith, eqb-true v 1844674407370955161 u, leb-true d 5 w)))))
    (λ w. rw (t, u, w) (sym (le-ltb (10 * v + d) (2 ^ 64) (omega (arith, eqb-true v 1844674407370955161 u, leb-false d 5 w))))))
    (λ u.
    let g : v ≡ 1844674407370955161 → ⊥ = eqb-false v 1844674407370955161 u in
    let l : 1844674407370955161 ≤ v = ltb-false v 1844674407370955161 t in
    rw (t, u) (sym (le-ltb (10 * v + d) (2 ^ 64) (omega arith)))))

pub takes_at : (digits n v b : ℕ) → 48 ≤ b
    → (leb b 57 && ltb n digits && (ltb v 1844674407370955161 || eqb v 1844674407370955161 && leb (b - 48) 5)) ≡ takes digits n v b
unfolding takes
takes_at digits n v b h =
    case_on (leb b 57)
    (λ t. rw (le-leb 48 b h, t, room_for v (b - 48) (omega (arith, leb-true b 57 t))))
    (λ t. rw (le-leb 48 b h, t))
