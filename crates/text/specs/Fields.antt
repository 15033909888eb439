-- A line of a script: fields parted by commas, no quoting; the first is a letter, the others are numbers (document 01, "Program powerhit").
use Rattle.std.specs.Prelude.{ℕ, ◌+◌, ◌-◌, ◌*◌, ◌^◌, Bool, true, cond, ◌&&◌, List, [], ◌∷◌, ◌++◌, ltb, leb, eqb, length, get_or, take, replicate}
use Rattle.text.specs.declared.Line.{Line}

-- the fields of a line, parted by commas
unfoldable pub with_byte : ℕ → List (List ℕ) → List (List ℕ)
with_byte b [] = (b ∷ []) ∷ []
with_byte b (f ∷ fs) = (b ∷ f) ∷ fs

unfoldable pub fields : List ℕ → List (List ℕ)
fields [] = [] ∷ []
fields (b ∷ bs) = cond (eqb b 44) ([] ∷ fields bs) (with_byte b (fields bs))

-- a number: 1 to `digits` decimal digits, below 2^64
unfoldable pub all_digits : List ℕ → Bool
all_digits [] = true
all_digits (b ∷ bs) = leb 48 b && leb b 57 && all_digits bs

unfoldable pub value_from : ℕ → List ℕ → ℕ
value_from v [] = v
value_from v (b ∷ bs) = value_from (10 * v + (b - 48)) bs

abbrev pub is_number : ℕ → List ℕ → Bool
is_number digits f = leb 1 (length f) && leb (length f) digits && all_digits f && ltb (value_from 0 f) (2 ^ 64)

unfoldable pub all_numbers : ℕ → List (List ℕ) → Bool
all_numbers digits [] = true
all_numbers digits (f ∷ fs) = is_number digits f && all_numbers digits fs

unfoldable pub values : List (List ℕ) → List ℕ
values [] = []
values (f ∷ fs) = value_from 0 f ∷ values fs

-- a line of another form
abbrev pub other_form : Line
other_form = record { letter = 0; count = 0; numbers = replicate 69 0 }

-- one letter, then at most 69 numbers
unfoldable pub line_of : ℕ → List (List ℕ) → Line
line_of digits [] = other_form
line_of digits (name ∷ rest) =
    cond (eqb (length name) 1 && all_numbers digits rest && leb (length rest) 69)
    (record { letter = get_or name 0 0; count = length rest; numbers = take 69 (values rest ++ replicate 69 0) })
    other_form

unfoldable pub parsed : ℕ → List ℕ → Line
parsed digits line = line_of digits (fields line)
