-- The lines that set how much of the buffer the calls are lent, a byte of it, and a word of it: L, Y and U of PROBE.md.
use Rattle.std.specs.Prelude.{ℕ, ◌/◌, Bool, ◌&&◌, cond, List, ltb, leb, eqb, length, set, Option}
use Rattle.words.specs.Words.{store}
use Rattle.text.specs.declared.Line.{Line}
use Rattle.workbench.specs.Turns.{arg, done, formed_said}
use Rattle.workbench.specs.declared.Said.{Said}

-- ---- L,n: later calls are lent the first n of the buffer's `size` bytes

abbrev pub lend_form : ℕ → Line → Bool
lend_form size line = eqb line.count 1 && leb (arg line 0) size

abbrev pub lend_said : ℕ → Line → Option Said
lend_said size line = formed_said (lend_form size line) done

abbrev pub lent_by : ℕ → ℕ → Line → ℕ
lent_by lent size line = cond (lend_form size line) (arg line 0) lent

-- ---- Y,at,v: byte at becomes v; U,i,v: the 8 bytes from 8 i become v

abbrev pub byte_form : ℕ → Line → Bool
byte_form size line = eqb line.count 2 && ltb (arg line 0) size && leb (arg line 1) 255

abbrev pub byte_said : ℕ → Line → Option Said
byte_said size line = formed_said (byte_form size line) done

abbrev pub byte_set : List ℕ → Line → List ℕ
byte_set buffer line = cond (byte_form (length buffer) line) (set buffer (arg line 0) (arg line 1)) buffer

abbrev pub word_form : ℕ → Line → Bool
word_form size line = eqb line.count 2 && ltb (arg line 0) (size / 8)

abbrev pub word_said : ℕ → Line → Option Said
word_said size line = formed_said (word_form size line) done

abbrev pub word_set : List ℕ → Line → List ℕ
word_set buffer line = cond (word_form (length buffer) line) (store buffer (arg line 0) (arg line 1)) buffer
