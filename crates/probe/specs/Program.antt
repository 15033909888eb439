-- What an input line does and prints (PROBE.md), and where the program stands after any bytes. A number has at most 20 digits.
use Rattle.std.specs.Prelude.{◌≡◌, ℕ, ◌+◌, ◌%◌, ◌^◌, cond, List, [], ◌++◌, length, take, nat_le}
use Rattle.cutting.specs.Buffers.{Holds, Ends}
use Rattle.cutting.specs.Feeding.{Fed, fed, ended}
use Rattle.text.specs.Fields.{parsed}
use Rattle.state.specs.State.{State}
use Rattle.state_words.specs.Decoded.{decoded}
use Rattle.workbench.specs.Turns.{first_state}
use Rattle.workbench.specs.Moduli.{first_moduli}
use Rattle.workbench.specs.declared.moduli.Moduli.{Moduli}
use Rattle.probing.specs.Lines.{turn_of, buffer_after, table_after, lent_after}
use Rattle.reporting.specs.Text.{printed_of}
use Rattle.probe.specs.declared.Session.{Session}

-- what the calls work on beside the buffer: the state, the table of moduli, and how many of the buffer's first bytes they are lent
pub record Bench : Type 0 where
  pub st : State
  pub table : Moduli
  pub lent : ℕ

-- at first they are lent the whole buffer
abbrev pub first_bench : Bench
first_bench = record { st = first_state; table = first_moduli; lent = 65536 }

-- the bench and the buffer after a line
abbrev pub bench_after : Bench → List ℕ → List ℕ → Bench
bench_after b buffer line =
    let l = parsed 20 line in
    record {
      st = (turn_of b.st b.lent buffer b.table l).st;
      table = table_after b.st b.lent buffer b.table l;
      lent = lent_after b.lent (length buffer) l;
    }

abbrev pub bytes_after : Bench → List ℕ → List ℕ → List ℕ
bytes_after b buffer line = buffer_after b.st b.lent buffer (parsed 20 line)

-- what input line n prints
abbrev pub line_text : Bench → List ℕ → List ℕ → ℕ → List ℕ
line_text b buffer line n = let l = parsed 20 line in printed_of n l.letter (turn_of b.st b.lent buffer b.table l)

-- what the lines so far came to: the bench, the buffer, how many lines, all that they print, and how many of its last bytes
-- are not yet handed to a write
pub record Work : Type 0 where
  pub bench : Bench
  pub buffer : List ℕ
  pub lines : ℕ
  pub printed : List ℕ
  pub waiting : ℕ

-- before the first byte
abbrev pub first : List ℕ → Fed Work
first buffer = record { done = record { bench = first_bench; buffer = buffer; lines = 0; printed = []; waiting = 0 }; begun = [] }

-- before a line all that waits is written, unless there is room for the line's text behind it
abbrev pub roomed : ℕ → ℕ
roomed waiting = cond (nat_le waiting 36000) waiting 0

-- one line more; the count of lines is a machine word
unfoldable pub act : Work → List ℕ → Work
act w line =
    let n = (w.lines + 1) % 2 ^ 64 in
    let text = line_text w.bench w.buffer line n in
    record {
      bench = bench_after w.bench w.buffer line;
      buffer = bytes_after w.bench w.buffer line;
      lines = n;
      printed = w.printed ++ text;
      waiting = roomed w.waiting + length text;
    }

-- the program with the state's words, the moduli and its three buffers
pub record Stand : Type 0 where
  pub session : Session
  pub buffer : List ℕ
  pub words : List ℕ
  pub table : Moduli
  pub line : List ℕ
  pub out : List ℕ

abbrev pub stand : Session → List ℕ → List ℕ → Moduli → List ℕ → List ℕ → Stand
stand s buffer words table line out = record { session = s; buffer = buffer; words = words; table = table; line = line; out = out }

abbrev pub bench_at : List ℕ → Moduli → ℕ → Bench
bench_at words table lent = record { st = decoded words; table = table; lent = lent }

abbrev pub bench_in : Stand → Bench
bench_in p = bench_at p.words p.table p.session.lent

-- that it stands where the input's bytes so far have brought it: of the next line it keeps what fits, and what waits to be
-- written stands in `out`. (What a write does with it no contract says.)
pub record Shows (p : Stand) (f : Fed Work) : Type 0 where
  pub bench : bench_in p ≡ f.done.bench
  pub buffer : p.buffer ≡ f.done.buffer
  pub lines : p.session.lines ≡ f.done.lines
  pub waiting : p.session.at ≡ f.done.waiting
  pub begun : Holds p.line p.session.kept f.begun
  pub unwritten : Ends p.out p.session.at f.done.printed

-- these bytes bring it from p to q
abbrev pub Takes : Stand → List ℕ → Stand → Type 0
Takes p bytes q = (f : Fed Work) → Shows p f → Shows q (fed act f bytes)

-- those that a read put at the start of `input` do; how many they are, and which, no contract says
abbrev pub Reads : Stand → List ℕ → Stand → Type 0
Reads p input q = (n : ℕ) × Takes p (take n input) q

-- some bytes do
abbrev pub TakesSome : Stand → Stand → Type 0
TakesSome p q = (bytes : List ℕ) × Takes p bytes q

-- the input's end does: a last line that no newline ends is performed too
abbrev pub Closes : Stand → Stand → Type 0
Closes p q = (f : Fed Work) → Shows p f → Shows q (record { done = ended act f; begun = [] })

-- all of the input, whatever it is, has brought it here, with this buffer at first
abbrev pub Ran : List ℕ → Stand → Type 0
Ran buffer q = (bytes : List ℕ) × Shows q (record { done = ended act (fed act (first buffer) bytes); begun = [] })
