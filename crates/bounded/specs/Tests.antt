-- A list of tests, all of which are to hold.
use Rattle.std.specs.Prelude.{Bool, true, ◌&&◌, List, [], ◌∷◌, ◌≡◌}

-- it computes to what the code's `a & b & c` does, `(a && b) && c`
abbrev pub chain : Bool → List Bool → Bool
chain a [] = a
chain a (b ∷ bs) = chain (a && b) bs

abbrev pub every : List Bool → Bool
every [] = true
every (a ∷ bs) = chain a bs

-- each test of the list holds: a tuple, nested to the right, that ends in `tt`
abbrev pub Held : List Bool → Type 0
Held [] = Unit {0}
Held (b ∷ bs) = (b ≡ true) × Held bs
