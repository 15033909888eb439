-- The numbers of a write's line, in powerhit's script and in probe's: writer, page, line, offset, length, then at most 64 bytes.
use Rattle.std.specs.Prelude.{ℕ, ◌+◌, ◌-◌, Bool, ◌&&◌, List, leb, get_or}
use Rattle.bounded.specs.Below.{all_below}
use Rattle.bounded.specs.Tab.{tab}
use Rattle.state.specs.State.{State}
use Rattle.refinement.specs.Outcome.{Outcome}
use Rattle.refinement.specs.Calls.{write_of}

-- number i of a line's numbers
abbrev pub num : List ℕ → ℕ → ℕ
num numbers i = get_or numbers i 0

-- number i of those after the first five
abbrev pub datum : List ℕ → ℕ → ℕ
datum numbers i = num numbers (5 + i)

abbrev pub are_bytes : ℕ → List ℕ → Bool
are_bytes n numbers = all_below n (λ i. leb (datum numbers i) 255)

-- whether a line of `count` numbers has a write's five and its data
abbrev pub has_data : ℕ → List ℕ → Bool
has_data count numbers = leb 5 count && leb count 69 && are_bytes (count - 5) numbers

abbrev pub data_of : ℕ → List ℕ → List ℕ
data_of count numbers = tab (count - 5) (datum numbers)

-- the write that they ask for
abbrev pub write_by : State → List ℕ → ℕ → List ℕ → Outcome
write_by st img count numbers = let n = num numbers in write_of st img (n 0) (n 1) (n 2) (n 3) (n 4) (data_of count numbers)
