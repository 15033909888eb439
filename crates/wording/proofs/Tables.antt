-- The rows of a constant table of texts, by one test over all of them.
use mathlib.Core.Path.{◌≡◌, refl}
use mathlib.Core.List.{List, [], ◌∷◌}
use Prim.Native.Nat.{ℕ, zero, suc}
use lib.ListN.{get_or}
use denote.Bor.{Bor}

-- the texts that a table lends
unfoldable pub lent : List (Bor (List ℕ)) → List (List ℕ)
lent [] = []
lent (x ∷ xs) = x.now ∷ lent xs

pub lent_at : (table : List (Bor (List ℕ))) (n : ℕ) (other : Bor (List ℕ)) → (get_or table n other).now ≡ get_or (lent table) n other.now
unfolding lent
lent_at [] n other = refl
lent_at (x ∷ xs) zero other = refl
lent_at (x ∷ xs) (suc n) other = lent_at xs n other
