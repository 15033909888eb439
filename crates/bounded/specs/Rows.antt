-- A table of refusals: each row has its test and its number, and the first row that applies gives the number.
use Rattle.std.specs.Prelude.{ℕ, zero, suc, ◌<◌, Bool, true, false, cond, List, [], ◌∷◌, ◌≡◌}

abbrev pub Row : Type 0
Row = Bool × ℕ

-- the number of the first row that applies, and 0 where none does
abbrev pub refusal : List Row → ℕ
refusal [] = 0
refusal (r ∷ rs) = cond r.0 r.1 (refusal rs)

-- none of the first k rows applies
abbrev pub Past : List Row → ℕ → Type 0
Past [] k = Unit {0}
Past (r ∷ rs) zero = Unit {0}
Past (r ∷ rs) (suc k) = (r.0 ≡ false) × Past rs k

-- each row's number is not 0
abbrev pub Numbered : List Row → Type 0
Numbered [] = Unit {0}
Numbered (r ∷ rs) = (0 < r.1) × Numbered rs
