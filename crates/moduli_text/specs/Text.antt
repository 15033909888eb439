-- A table of moduli as text (document 02, L10): 24 lines `meter,modulus`, each ended by a newline, meters 0 to 23 in order, plain decimals.
use Rattle.std.specs.Prelude.{ℕ, zero, suc, ◌≡◌, ◌+◌, ◌-◌, ◌*◌, Bool, ◌&&◌, not, cond, List, [], ◌∷◌, ltb, leb, eqb, length, get_or, take, drop, replicate, Result, Ok, Err}
use Rattle.bounded.specs.Below.{all_below, first_below, up_to}
use Rattle.bounded.specs.Rows.{Row, refusal}
use Rattle.bounded.specs.Tab.{tab}
use Rattle.meters.specs.Meters.{modulus_bad}
use Rattle.rows.specs.declared.Refusal.{Refusal}
use Rattle.rows.specs.Numbers.{number}

-- the place of the first byte b, the length where there is none
unfoldable pub place_of : ℕ → List ℕ → ℕ
place_of b l = first_below (length l) (λ i. eqb (get_or l i 0) b)

-- a plain decimal: not empty, no 0 before other digits, and digits alone; and its number
abbrev pub is_digit : ℕ → Bool
is_digit b = leb 48 b && leb b 57

unfoldable pub plain_decimal : List ℕ → Bool
plain_decimal l = not (eqb (length l) 0) && (not (ltb 1 (length l) && eqb (get_or l 0 0) 48) && all_below (length l) (λ i. is_digit (get_or l i 0)))

abbrev pub with_digit : List ℕ → ℕ → ℕ → ℕ
with_digit l i v = 10 * v + (get_or l i 0 - 48)

unfoldable pub value_of : List ℕ → ℕ
value_of l = up_to (length l) (with_digit l) 0

-- ---- the line of meter m

-- what stands before and after its first comma
abbrev pub meter_text : List ℕ → List ℕ
meter_text line = take (place_of 44 line) line

abbrev pub modulus_text : List ℕ → List ℕ
modulus_text line = drop (place_of 44 line + 1) line

abbrev pub modulus_in : List ℕ → ℕ
modulus_in line = value_of (modulus_text line)

-- 25: no comma, no plain decimals, another meter; 26: the modulus is out of range
abbrev pub entry_rows : ℕ → List ℕ → List ℕ → List Row
entry_rows m meter modulus =
    (not (plain_decimal meter), 25)
    ∷ (not (eqb (value_of meter) m), 25)
    ∷ (not (plain_decimal modulus), 25)
    ∷ (modulus_bad (value_of modulus), 26)
    ∷ []

abbrev pub line_rows : ℕ → List ℕ → List Row
line_rows m line = (leb (length line) (place_of 44 line), 25) ∷ entry_rows m (meter_text line) (modulus_text line)

-- the line at the start of a text. 25: it is not ended
abbrev pub first_line : List ℕ → List ℕ
first_line text = take (place_of 10 text) text

abbrev pub first_rows : ℕ → List ℕ → List Row
first_rows m text = (leb (length text) (place_of 10 text), 25) ∷ line_rows m (first_line text)

-- a line is turned back by the first row of a table that holds, or it gives a modulus
abbrev pub Decides : Result ℕ Refusal → List Row → ℕ → Type 0
Decides (Ok v) rows modulus = (0 ≡ refusal rows) × (v ≡ modulus)
Decides (Err r) rows modulus = number r ≡ refusal rows

-- ---- line by line

-- where line m starts, and the text from there on
unfoldable pub line_start : List ℕ → ℕ → ℕ
line_start text zero = 0
line_start text (suc m) = line_start text m + (place_of 10 (drop (line_start text m) text) + 1)

abbrev pub from_line : List ℕ → ℕ → List ℕ
from_line text m = drop (line_start text m) text

-- the number that turns the first n lines back: that of the first line that has one
unfoldable pub lines_row : List ℕ → ℕ → ℕ
lines_row text zero = 0
lines_row text (suc n) = cond (eqb (lines_row text n) 0) (refusal (first_rows n (from_line text n))) (lines_row text n)

-- all 24 lines; 25: there is more
unfoldable pub text_row : List ℕ → ℕ
text_row text = cond (eqb (lines_row text 24) 0) (cond (ltb (line_start text 24) (length text)) 25 0) (lines_row text 24)

-- the moduli
unfoldable pub moduli_in : List ℕ → List ℕ
moduli_in text = tab 24 (λ m. modulus_in (first_line (from_line text m)))

-- what a reading gives: the number that turns the text back and 24 zeros, or 0 and the moduli
pub record Reading : Type 0 where
  pub row : ℕ
  pub moduli : List ℕ

unfoldable pub read_of : List ℕ → Reading
read_of text = record { row = text_row text; moduli = cond (eqb (text_row text) 0) (moduli_in text) (replicate 24 0) }

-- a result that says what a reading gives: moduli where no number turns the text back, or the row of the number
abbrev pub Reads : Result (List ℕ) Refusal → Reading → Type 0
Reads (Ok ms) reading = record { row = 0; moduli = ms } ≡ reading
Reads (Err r) reading = record { row = number r; moduli = replicate 24 0 } ≡ reading
