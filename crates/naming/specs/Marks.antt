-- Numbers that are named, as masks and as marks.
use Rattle.std.specs.Prelude.{ℕ, ◌/◌, ◌<◌, min, Bool, true, false, ◌&&◌, ◌||◌, List, ◌≡◌, ltb, leb, length, take, get_or, set}
use Rattle.bounded.specs.Below.{all_below, up_to}
use Rattle.bounded.specs.Count.{count_of}
use Rattle.masks.specs.Lines.{in_mask}

-- whether each of the first n names is below 64
abbrev pub all_low : ℕ → List ℕ → Bool
all_low n names = all_below n (λ i. ltb (get_or names i 0) 64)

-- a mask that shows which of the first 64 numbers are named; none where a name is not one of them
abbrev pub MaskOf : List ℕ → ℕ → Type 0
MaskOf names m = (x : ℕ) → x < 64 → in_mask m x ≡ all_low (length names) names && leb 1 (count_of x names)

-- the marks with each name marked; those from 1,040 on have one mark
unfoldable pub marked : List ℕ → List Bool → List Bool
marked names seen = up_to (length names) (λ i l. set l (min (get_or names i 0) 1040) true) seen

-- x is below p and its run of 64 is own, or it is marked
unfoldable pub told : ℕ → ℕ → List Bool → ℕ → Bool
told p own seen x = (ltb x p && in_mask own (x / 64)) || get_or seen x false

-- own and the marks tell what the marks told before, and the first p of the names
abbrev pub MarkedBut : List ℕ → ℕ → List Bool → ℕ → List Bool → Type 0
MarkedBut names p before own seen = (x : ℕ) → x < 1040 → told p own seen x ≡ get_or before x false || leb 1 (count_of x (take p names))
