-- Lists by their places.
use Rattle.std.specs.Prelude.{ℕ, zero, suc, List, [], ◌∷◌, ◌++◌, set}
use Rattle.bounded.specs.Below.{up_to}

-- f 0, f 1, .. f (n - 1)
unfoldable pub tab : {A : Type 0} → ℕ → (ℕ → A) → List A
tab zero f = []
tab (suc n) f = tab n f ++ (f n ∷ [])

-- l with its first n places set to f 0, f 1, .. f (n - 1), as a loop sets them
unfoldable pub filled : {A : Type 0} → ℕ → (ℕ → A) → List A → List A
filled n f l = up_to n (λ i m. set m i (f i)) l
