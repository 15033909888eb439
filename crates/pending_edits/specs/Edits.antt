-- The lines that set the pending operation, and a byte of its finished lines: O and Q of PROBE.md.
use Rattle.std.specs.Prelude.{ℕ, ◌-◌, ◌*◌, ◌/◌, ◌%◌, Bool, ◌&&◌, cond, List, ltb, leb, eqb, get_or, set, replicate}
use Rattle.words.specs.Words.{le_of, bytes_of}
use Rattle.state.specs.declared.Op.{Op}
use Rattle.state.specs.declared.Pending.{Pending}
use Rattle.state.specs.State.{State}
use Rattle.refinement.specs.Settled.{no_pending}
use Rattle.state_words.specs.Decoded.{op_by}
use Rattle.state_pending.specs.Put.{op_in, with_pending}
use Rattle.text.specs.declared.Line.{Line}
use Rattle.workbench.specs.Turns.{Turn, arg, edited, formed}
use Rattle.workbench.specs.Finished.{finished_lines}

-- ---- O,k,a,b,c,d,e,made: the pending operation

-- an operation with so many stores made; its finished lines are zeros
abbrev pub pending_with : Op → ℕ → Pending
pending_with op made = record { op = op; made = made; line = replicate 8 0; second = replicate 8 0 }

-- number 0 is none: its other numbers are dropped, those made too
abbrev pub pending_of : Line → Pending
pending_of line =
    cond (eqb (arg line 0) 0) no_pending
    (pending_with (op_by (arg line 0) (arg line 1) (arg line 2) (arg line 3) (arg line 4) (arg line 5)) (arg line 6))

-- the same by the numbers that stand in a state's words
abbrev pub pending_in : List ℕ → Pending
pending_in n = pending_with (op_in n) (get_or n 6 0)

abbrev pub pending_turn : State → Line → Turn
pending_turn st line = formed (eqb line.count 7 && leb (arg line 0) 10) st (edited (with_pending st (pending_of line)))

-- ---- Q,i,v: byte i of the finished lines becomes v

-- a word with its byte j set to v; a line of words with byte i set: byte i mod 8 of its word i / 8
abbrev pub with_byte : ℕ → ℕ → ℕ → ℕ
with_byte word j v = le_of (set (bytes_of 8 word) j v)

abbrev pub line_set : List ℕ → ℕ → ℕ → List ℕ
line_set words i v = set words (i / 8) (with_byte (get_or words (i / 8) 0) (i % 8) v)

-- bytes 64 and on are the second line's
abbrev pub pending_set : Pending → ℕ → ℕ → Pending
pending_set p i v =
    record {
      op = p.op;
      made = p.made;
      line = cond (ltb i 64) (line_set p.line i v) p.line;
      second = cond (ltb i 64) p.second (line_set p.second (i - 64) v);
    }

-- an operation without finished lines has no byte
abbrev pub line_byte_form : State → Line → Bool
line_byte_form st line = eqb line.count 2 && ltb (arg line 0) (64 * finished_lines st.pending.op) && leb (arg line 1) 255

abbrev pub line_byte_turn : State → Line → Turn
line_byte_turn st line = formed (line_byte_form st line) st (edited (with_pending st (pending_set st.pending (arg line 0) (arg line 1))))
