-- A line of the input performed: its turn, and the line that it prints.
use Rattle.std.specs.Prelude.{ℕ, ◌+◌, false, cond, List, leb, length, replicate, None}
use Rattle.words.specs.Words.{over}
use Rattle.state_words.specs.Decoded.{decoded}
use Rattle.text.specs.Fields.{parsed}
use Rattle.script.specs.declared.Performed.{Performed}
use Rattle.printing.specs.Output.{output_line}
use Rattle.executing.specs.Called.{Machine, machine_at, Turn}
use Rattle.script.specs.Turns.{turn_of}

-- before the first line: every word is 0, and no line looks at the state until a format is taken
abbrev pub started : Machine
started = record { st = decoded (replicate 1280 0); formatted = false; cut = None }

-- a number has 1 to 9 digits
abbrev pub line_turn : Machine → List ℕ → List ℕ → Turn
line_turn m img line = turn_of m img (parsed 9 line)

-- no printed line is longer: two numbers of 20 digits after one of 20, the letter, 4 commas, a dash and a newline
abbrev pub room : ℕ
room = 67

pub record Performance : Type 0 where
  pub machine : Machine
  pub end : ℕ
  pub image : List ℕ
  pub out : List ℕ

-- line number n, whose printed line goes to byte at of out; without room nothing is done
unfoldable pub performed : Machine → List ℕ → ℕ → List ℕ → List ℕ → ℕ → Performance
performed m img n line out at =
    let t = line_turn m img line in
    let printed = output_line n t.output in
    cond (leb (at + room) (length out))
    (record { machine = t.machine; end = at + length printed; image = t.image; out = over out at printed })
    (record { machine = m; end = at; image = img; out = out })

-- what the code's came to
abbrev pub performed_to : Performed → List ℕ → List ℕ → List ℕ → Performance
performed_to r words img out = record { machine = machine_at r.mode words; end = r.end; image = img; out = out }
