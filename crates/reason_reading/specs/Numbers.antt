-- The numbers that stand in a text: its runs of digits, each cut where it would not stay below 2^64.
use Rattle.std.specs.Prelude.{ℕ, ◌+◌, ◌-◌, ◌*◌, Bool, true, false, cond, ◌&&◌, ◌||◌, List, [], ◌∷◌, ltb, leb, eqb, Option, Some, None}

-- whether byte b goes on with a number of value v: a digit, and 10 v and it are below 2^64
abbrev pub goes_on : ℕ → ℕ → Bool
goes_on v b = leb 48 b && leb b 57 && (ltb v 1844674407370955161 || eqb v 1844674407370955161 && leb b 53)

-- the number that comes of it
abbrev pub with_digit : ℕ → ℕ → Option ℕ
with_digit v b = cond (goes_on v b) (Some (10 * v + (b - 48))) None

-- the numbers of a text; `on`: a number of value v stands right before it
unfoldable pub numbers_from : Bool → ℕ → List ℕ → List ℕ
numbers_from on v [] = cond on (v ∷ []) []
numbers_from on v (b ∷ bs) =
    cond (goes_on v b) (numbers_from true (10 * v + (b - 48)) bs) (cond on (v ∷ numbers_from false 0 bs) (numbers_from false 0 bs))

abbrev pub numbers_in : List ℕ → List ℕ
numbers_in text = numbers_from false 0 text
