-- Program wear_by_frame (document 02, L12): where it stands after any bytes of input, in pieces of any size. A newline has the line before it taken.
use Rattle.std.specs.Prelude.{ℕ, ◌≤◌, List, [], ◌≡◌, ltb, length, take}
use Rattle.cutting.specs.Buffers.{Holds}
use Rattle.cutting.specs.Feeding.{Fed, fed, ended}
use Rattle.number_text.specs.Text.{Put}
use Rattle.executing.specs.declared.Mode.{Mode}
use Rattle.executing.specs.Called.{machine_at}
use Rattle.wear.specs.Performs.{NarrowMachine}
use Rattle.wear_lines.specs.Lines.{Work, first, act, response}
use Rattle.wear_lines.specs.Stands.{Stands}
use Rattle.wear_by_frame.specs.declared.Reading.{Reading}

-- before the first byte, with a buffer of so many bytes
abbrev pub nothing_read : ℕ → Fed Work
nothing_read size = record { done = first size; begun = [] }

-- that a program and its buffers are what the bytes so far came to: the line buffer has what has come of the next line, as much as fits
pub record Shows (s : Reading) (words image counts line : List ℕ) (f : Fed Work) : Type 0 where
  pub done : Stands (machine_at s.mode words) image counts f.done
  pub next : Holds line s.kept f.begun

-- what holds between two bytes: no more is kept than the buffer holds, and no writer is wide
pub record Sound (s : Reading) (words : List ℕ) : Type 0 where
  pub fits : s.kept ≤ 1024
  pub narrow : NarrowMachine (machine_at s.mode words)

-- that these bytes bring the one to the other
pub record Takes (s : Reading) (words image counts line bytes : List ℕ) (r : Reading) (words' image' counts' line' : List ℕ) : Type 0 where
  pub shows : (f : Fed Work) → Shows s words image counts line f → Shows r words' image' counts' line' (fed act f bytes)
  pub sound : Sound r words'

-- the bytes do that a read put at the start of `input`; there may be more where it put any. (Which bytes they are no contract says.)
pub record Reads (s : Reading) (words image counts line input : List ℕ) (r : Reading) (words' image' counts' line' : List ℕ) : Type 0 where
  pub count : ℕ
  pub goes : Takes s words image counts line (take count input) r words' image' counts' line'
  pub more : r.more ≡ ltb 0 count

-- some bytes do
pub record TakesSome (s : Reading) (words image counts line : List ℕ) (r : Reading) (words' image' counts' line' : List ℕ) : Type 0 where
  pub bytes : List ℕ
  pub goes : Takes s words image counts line bytes r words' image' counts' line'

-- the input's end does: a last line that no newline ends is taken too
pub record Closes (s : Reading) (words image counts line : List ℕ) (r : Mode) (words' image' counts' : List ℕ) : Type 0 where
  pub done : (f : Fed Work) → Shows s words image counts line f → Stands (machine_at r words') image' counts' (ended act f)

-- the bytes that the reads gave, whichever they were, have the response to them put at the start of a buffer
pub record Responds (size : ℕ) (out out' : List ℕ) (n : ℕ) : Type 0 where
  pub input : List ℕ
  pub text : Put out 0 (response (ended act (fed act (nothing_read size) input))) out' n
