-- Sequences of n numbers of 1 to 12, and the rising order of number lists.
use Rattle.std.specs.Prelude.{ℕ, zero, suc, ◌+◌, ◌/◌, ◌%◌, ◌^◌, ◌<◌, ◌≤◌, List, [], ◌∷◌, ◌++◌, ◌⊎◌, ◌≡◌, length}

-- sequence i, counted from 0: the n digits of i to base 12, each and one
unfoldable pub sequence : ℕ → ℕ → List ℕ
sequence zero i = []
sequence (suc n) i = sequence n (i / 12) ++ (i % 12 + 1) ∷ []

-- one list of numbers comes before another: by the first place where they differ
abbrev pub Before : List ℕ → List ℕ → Type 0
Before [] [] = ⊥
Before [] (y ∷ ys) = Unit {0}
Before (x ∷ xs) [] = ⊥
Before (x ∷ xs) (y ∷ ys) = (x < y) ⊎ ((x ≡ y) × Before xs ys)

-- every number is one of 1 to 12
abbrev pub Numbers : List ℕ → Type 0
Numbers [] = Unit {0}
Numbers (x ∷ xs) = (1 ≤ x) × (x ≤ 12) × Numbers xs

-- the place of a list among the sequences of its length
pub record Place (xs : List ℕ) : Type 0 where
  pub index : ℕ
  pub low : index < 12 ^ length xs
  pub same : sequence (length xs) index ≡ xs

-- sequences 0 to 12^n - 1 rise, so that none comes twice
abbrev pub Rising : Type 0
Rising = (n i j : ℕ) → i < j → j < 12 ^ n → Before (sequence n i) (sequence n j)

-- each is n numbers of 1 to 12
abbrev pub Sound : Type 0
Sound = (n i : ℕ) → (length (sequence n i) ≡ n) × Numbers (sequence n i)

-- and every list of such numbers is among them
abbrev pub Complete : Type 0
Complete = (xs : List ℕ) → Numbers xs → Place xs
