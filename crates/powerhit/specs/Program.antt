-- Program powerhit (document 01): where it stands after any bytes of input, in pieces of any size. A newline has the line before it performed.
use Rattle.std.specs.Prelude.{◌≡◌, ℕ, ◌-◌, List, [], take, drop, nat_lt}
use Rattle.words.specs.Words.{part}
use Rattle.cutting.specs.Buffers.{Holds, Ends}
use Rattle.cutting.specs.Feeding.{Fed, fed, ended}
use Rattle.executing.specs.Called.{Machine, machine_at}
use Rattle.script.specs.Work.{opening}
pub use Rattle.script.specs.Work.{Work, roomed}
unfoldable pub use Rattle.script.specs.Work.{act}
use Rattle.powerhit.specs.declared.Session.{Session}

-- before the first byte
abbrev pub first : List ℕ → Fed Work
first image = record { done = opening image; begun = [] }

-- that a machine, its image, a count of lines and the first bytes of an output buffer are what the lines came to: the bytes are
-- those that wait to be written (what a write does with them no contract says)
pub record Stands (m : Machine) (n at : ℕ) (img out : List ℕ) (w : Work) : Type 0 where
  pub machine : m ≡ w.machine
  pub image : img ≡ w.image
  pub lines : n ≡ w.lines
  pub waiting : at ≡ w.waiting
  pub unwritten : Ends out at w.printed

-- that a session, its state's words and its buffers are what the bytes so far came to: of the next line the line buffer has what has come, as much as
-- fits
pub record Shows (s : Session) (words image line out : List ℕ) (f : Fed Work) : Type 0 where
  pub lines : Stands (machine_at s.mode words) s.lines s.at image out f.done
  pub next : Holds line s.kept f.begun

-- that these bytes bring the one session and its buffers to the other
pub record Takes (s : Session) (words image line out bytes : List ℕ) (r : Session) (words' image' line' out' : List ℕ) : Type 0 where
  pub shows : (f : Fed Work) → Shows s words image line out f → Shows r words' image' line' out' (fed act f bytes)

-- the same of the lines of a piece, from one on that goes from byte `from` to byte `to`: what has come of the next one begins at `start`
pub record Lines (s : Session) (words image out piece : List ℕ) (from to : ℕ) (r : Session) (words' image' out' : List ℕ) : Type 0 where
  pub stands : (w : Work) → Stands (machine_at s.mode words) s.lines s.at image out w
      → (let f = fed act (record { done = w; begun = part piece from (to - from) }) (drop to piece) in
      Stands (machine_at r.mode words') r.lines r.at image' out' f.done × (f.begun ≡ drop r.start piece))
  pub kept : r.kept ≡ 0

-- the input's end does: a last line that no newline ends is performed too
pub record Closes (s : Session) (words image line out : List ℕ) (r : Session) (words' image' out' : List ℕ) : Type 0 where
  pub stands : (f : Fed Work) → Shows s words image line out f → Stands (machine_at r.mode words') r.lines r.at image' out' (ended act f)

-- the bytes do that a read put at the start of `input`; there may be more where it put any. (Which bytes they are no contract says.)
pub record Reads (s : Session) (words image line out input : List ℕ) (r : Session) (words' image' line' out' : List ℕ) : Type 0 where
  pub count : ℕ
  pub goes : Takes s words image line out (take count input) r words' image' line' out'
  pub more : r.more ≡ nat_lt 0 count

-- some bytes do
pub record TakesSome (s : Session) (words image line out : List ℕ) (r : Session) (words' image' line' out' : List ℕ) : Type 0 where
  pub bytes : List ℕ
  pub goes : Takes s words image line out bytes r words' image' line' out'

-- the whole input, whatever it is, has brought the program here, with this image at first
pub record Ran (image : List ℕ) (r : Session) (words' image' out' : List ℕ) : Type 0 where
  pub input : List ℕ
  pub stands : Stands (machine_at r.mode words') r.lines r.at image' out' (ended act (fed act (first image) input))
