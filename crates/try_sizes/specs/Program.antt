-- Program try_sizes (request L11): where it stands after any bytes of input, in pieces of any size. A newline has the line before it taken.
use Rattle.std.specs.Prelude.{ℕ, ◌≤◌, Bool, false, ◌&&◌, ◌||◌, List, [], ◌≡◌, ltb, leb, eqb, take}
use Rattle.cutting.specs.Buffers.{Holds}
use Rattle.cutting.specs.Feeding.{Fed, fed, ended}
use Rattle.number_text.specs.Text.{Put}
use Rattle.trial_lines.specs.declared.Session.{Session}
use Rattle.trial_lines.specs.Lines.{Work, work_of, first, prefixed, act, response}
use Rattle.try_sizes.specs.declared.Reading.{Reading}

-- before the first byte
abbrev pub nothing_read : List ℕ → Fed Work
nothing_read image = record { done = first image; begun = [] }

-- whether a line more would be read: none is after a refused setting, nor past the last round
abbrev pub reads_on : ℕ → Bool → Bool
reads_on lines set = eqb lines 0 || (set && leb lines 1000)

-- that a program and its buffers are what the bytes so far came to: the line buffer has a letter, a comma and what has come of the next
-- line, as much as fits
pub record Shows (s : Reading) (words image line : List ℕ) (f : Fed Work) : Type 0 where
  pub done : work_of s.session words image ≡ f.done
  pub next : Holds line s.kept (prefixed f.begun)

-- that these bytes bring the one to the other; no more is kept than the buffer holds
pub record Takes (s : Reading) (words image line bytes : List ℕ) (r : Reading) (words' image' line' : List ℕ) : Type 0 where
  pub shows : (f : Fed Work) → Shows s words image line f → Shows r words' image' line' (fed act f bytes)
  pub fits : r.kept ≤ 1024

-- the bytes do that a read put at the start of `input`; there is more to read where it put any and a line more would be read. (Which bytes they are no
-- contract says.)
pub record Reads (s : Reading) (words image line input : List ℕ) (r : Reading) (words' image' line' : List ℕ) : Type 0 where
  pub count : ℕ
  pub goes : Takes s words image line (take count input) r words' image' line'
  pub more : r.more ≡ ltb 0 count && reads_on r.session.lines r.session.set

-- some bytes do
pub record TakesSome (s : Reading) (words image line : List ℕ) (r : Reading) (words' image' line' : List ℕ) : Type 0 where
  pub bytes : List ℕ
  pub goes : Takes s words image line bytes r words' image' line'

-- the input's end does: a last line that no newline ends is taken too
pub record Closes (s : Reading) (words image line : List ℕ) (r : Session) (words' image' : List ℕ) : Type 0 where
  pub done : (f : Fed Work) → Shows s words image line f → work_of r words' image' ≡ ended act f

-- the bytes that the reads gave, whichever they were, have the response to them put at the start of a buffer, with this image at first
pub record Responds (image out out' : List ℕ) (n : ℕ) : Type 0 where
  pub input : List ℕ
  pub text : Put out 0 (response (ended act (fed act (nothing_read image) input))) out' n

-- what is not read would change nothing
abbrev pub NotRead : Type 0
NotRead =
    (s : Session) (words image : List ℕ) → reads_on s.lines s.set ≡ false
    → (begun bytes : List ℕ) → ended act (fed act (record { done = work_of s words image; begun = begun }) bytes) ≡ work_of s words image
