-- Program short_runs: what it prints for an input (request L9).
use Rattle.std.specs.Prelude.{ℕ, ◌+◌, ◌-◌, ◌^◌, ◌&&◌, ◌||◌, cond, List, [], ◌∷◌, ◌++◌, ◌≡◌, ltb, leb, eqb, length, get_or}
use Prim.Native.Char.{code}
use Rattle.bounded.specs.Below.{up_to}
use Rattle.cutting.specs.Buffers.{Ends}
use Rattle.sequences.specs.Sequences.{sequence}
use Rattle.sequence_lines.specs.Listing.{needed_by, line_of, listing}
use Rattle.short_runs.specs.declared.Output.{Output}
use Rattle.short_runs.specs.declared.Cut.{Cut}

-- 0 to 3 for their digits, 4 for any other byte
abbrev pub digit_of : ℕ → ℕ
digit_of b = cond (ltb b 48 || ltb 51 b) 4 (b - 48)

-- the number that an input asks for, 4 where it asks for none: a digit alone, or a digit and a newline
abbrev pub wanted_of : List ℕ → ℕ
wanted_of input =
    cond (eqb (length input) 1 || (eqb (length input) 2 && eqb (get_or input 1 0) 10)) (digit_of (get_or input 0 0)) 4

-- the answer to any other input
abbrev pub mark : List ℕ
mark = code "?" ∷ code "\n" ∷ []

abbrev pub response : List ℕ → List ℕ
response input = cond (leb (wanted_of input) 3) (listing (wanted_of input)) mark

-- ---- how many bytes of the output wait in the buffer

-- before a line all that waits is written where there may be too little room for it
abbrev pub roomed : ℕ → ℕ
roomed waiting = cond (leb waiting 65000) waiting 0

-- a line more
abbrev pub with_line : List ℕ → ℕ → ℕ
with_line line waiting = roomed waiting + length line

-- the lines of a sequence, and those of all sequences of n calls
unfoldable pub with_lines : List ℕ → ℕ → ℕ
with_lines calls waiting = up_to (needed_by calls + 1) (λ k. with_line (line_of calls k)) waiting

unfoldable pub with_listing : ℕ → ℕ → ℕ
with_listing n waiting = up_to (12 ^ n) (λ i. with_lines (sequence n i)) waiting

-- after the response to an input
abbrev pub waiting_for : List ℕ → ℕ
waiting_for input = cond (leb (wanted_of input) 3) (with_listing (wanted_of input) 0) (length mark)

-- ---- what is printed

-- a text more is printed, and so many bytes wait then: these are the end of all that is printed (what a write does with the rest no contract says)
pub record Prints (s : Output) (out text : List ℕ) (waits : ℕ → ℕ) (r : Output) (out' : List ℕ) : Type 0 where
  pub waiting : r.at ≡ waits s.at
  pub unwritten : (printed : List ℕ) → Ends out s.at printed → Ends out' r.at (printed ++ text)

-- the line of a cut is, and this many stores are needed
pub record PutCut (s : Output) (out calls : List ℕ) (k : ℕ) (r : Cut) (out' : List ℕ) : Type 0 where
  pub line : Prints s out (line_of calls k) (with_line (line_of calls k)) r.output out'
  pub needed : r.needed ≡ needed_by calls

-- the response to an input is
pub record Responds (input : List ℕ) (r : Output) (out' : List ℕ) : Type 0 where
  pub waiting : r.at ≡ waiting_for input
  pub unwritten : Ends out' r.at (response input)
