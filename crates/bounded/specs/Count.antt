-- How often a number stands in a list, and lists that name each number below a bound once.
use Rattle.std.specs.Prelude.{ℕ, zero, suc, ◌+◌, ◌<◌, ◌≡◌, List, [], ◌∷◌, Bool, leb, eqb}
use Rattle.bounded.specs.Below.{one, all_below}

-- how often x stands in l
unfoldable pub count_of : ℕ → List ℕ → ℕ
count_of x [] = 0
count_of x (y ∷ l) = one (eqb x y) + count_of x l

-- how many entries of l are not below n
unfoldable pub not_below : ℕ → List ℕ → ℕ
not_below n [] = 0
not_below n (y ∷ l) = one (leb n y) + not_below n l

-- f 0 + f 1 + .. + f (n - 1)
unfoldable pub sum_below : ℕ → (ℕ → ℕ) → ℕ
sum_below zero f = 0
sum_below (suc n) f = sum_below n f + f n

-- whether each number below n stands in l once
unfoldable pub each_once : ℕ → List ℕ → Bool
each_once n l = all_below n (λ x. eqb (count_of x l) 1)

-- the same as a fact
abbrev pub Once : ℕ → List ℕ → Type 0
Once n l = (x : ℕ) → x < n → count_of x l ≡ 1
