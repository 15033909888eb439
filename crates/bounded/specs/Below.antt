-- What a loop over the numbers below a bound finds: whether all or some of them pass a test, the first that does, how
-- many do and which, which of them has the least key, and what the turns make of a value. Each is built from 0 upwards, as the loops go.
use Rattle.std.specs.Prelude.{ℕ, zero, suc, ◌+◌, Bool, true, false, ◌&&◌, ◌||◌, not, cond, List, [], ◌∷◌, ◌++◌, eqb, ltb}

-- whether f holds at each number below n
unfoldable pub all_below : ℕ → (ℕ → Bool) → Bool
all_below zero f = true
all_below (suc n) f = all_below n f && f n

-- whether f holds at some number below n
unfoldable pub some_below : ℕ → (ℕ → Bool) → Bool
some_below n f = not (all_below n (λ i. not (f i)))

-- the least number below n at which f holds, and n where there is none
unfoldable pub first_below : ℕ → (ℕ → Bool) → ℕ
first_below zero f = 0
first_below (suc n) f = cond (eqb (first_below n f) n) (cond (f n) n (suc n)) (first_below n f)

-- 1 where a test holds
unfoldable pub one : Bool → ℕ
one true = 1
one false = 0

-- at how many numbers below n f holds
unfoldable pub count_below : ℕ → (ℕ → Bool) → ℕ
count_below zero f = 0
count_below (suc n) f = count_below n f + one (f n)

-- the numbers below n at which f holds, rising
unfoldable pub those : ℕ → (ℕ → Bool) → List ℕ
those zero f = []
those (suc n) f = those n f ++ cond (f n) (n ∷ []) []

-- what a loop that counts from 0 to n makes of x: f 0, then f 1, .. f (n - 1)
unfoldable pub up_to : {A : Type 0} → ℕ → (ℕ → A → A) → A → A
up_to zero f x = x
up_to (suc n) f x = f n (up_to n f x)

-- the number below n at which f holds that has the least key, the lowest one on a tie, and n where there is none: turn i goes from
-- the number found below i to the one below i + 1
abbrev pub least_turn : (ℕ → Bool) → (ℕ → ℕ) → ℕ → ℕ → ℕ
least_turn f key i m = cond (f i && (eqb m i || ltb (key i) (key m))) i (cond (eqb m i) (i + 1) m)

unfoldable pub least_below : ℕ → (ℕ → Bool) → (ℕ → ℕ) → ℕ
least_below n f key = up_to n (least_turn f key) 0
