-- What a program holds between two pieces: the start of a line that has not ended, and the end of what is printed.
use Rattle.std.specs.Prelude.{ℕ, ◌-◌, ◌≤◌, List, ◌≡◌, length, take, drop}

-- the buffer's first `kept` bytes are what has come of a line, as much of it as fits
pub record Holds (line : List ℕ) (kept : ℕ) (begun : List ℕ) : Type 0 where
  pub within : kept ≤ length line
  pub bytes : take kept line ≡ take (length line) begun

-- the buffer's first `at` bytes are the end of all that is printed
pub record Ends (out : List ℕ) (at : ℕ) (printed : List ℕ) : Type 0 where
  pub within : at ≤ length printed
  pub bytes : take at out ≡ drop (length printed - at) printed
