-- A number in decimals.
use Rattle.std.specs.Prelude.{ℕ, zero, suc, ◌+◌, ◌/◌, ◌%◌, cond, List, [], ◌∷◌, ◌++◌, eqb}

-- the digits of v, at most `n` of them, the highest first and no leading zero
unfoldable pub digits_of : ℕ → ℕ → List ℕ
digits_of zero v = []
digits_of (suc n) v = cond (eqb (v / 10) 0) [] (digits_of n (v / 10)) ++ (48 + v % 10) ∷ []

-- a word in decimals: 20 digits hold every number below 2^64
abbrev pub decimal_of : ℕ → List ℕ
decimal_of v = digits_of 20 v
