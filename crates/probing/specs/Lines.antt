-- A line performed (PROBE.md): its turn, the buffer and the table of moduli after it, and what later calls are lent. The calls are lent the buffer's first
-- `lent` bytes; the others stay.
use Rattle.std.specs.Prelude.{ℕ, cond, List, [], ◌∷◌, ◌++◌, eqb, length, take, drop, Option}
use Prim.Native.Char.{code}
use Rattle.state.specs.State.{State}
use Rattle.text.specs.declared.Line.{Line}
use Rattle.workbench.specs.Turns.{Turn, shown, formed_said, choose}
use Rattle.workbench.specs.declared.Said.TheVariants.{Hash, Numbers}
use Rattle.workbench.specs.declared.Said.{Said}
use Rattle.workbench.specs.declared.moduli.Moduli.{Moduli}
use Rattle.hashing.specs.Hash.{hash_of}
use Rattle.buffer_edits.specs.Edits.{lend_said, lent_by, byte_said, byte_set, word_said, word_set}
use Rattle.state_edits.specs.Edits.{number_turn}
use Rattle.pending_edits.specs.Edits.{pending_turn, line_byte_turn}
use Rattle.moduli_edits.specs.Edits.{modulus_said, modulus_set, count_said, count_set}
use Rattle.moduli_calls.specs.Calls.{load_said, table_loaded}
use Rattle.probing.specs.Calls.{call_turn, call_bytes}

-- G prints the state's numbers, H the hash of the whole buffer
abbrev pub numbers_said : Line → Option Said
numbers_said line = formed_said (eqb line.count 0) Numbers

abbrev pub hash_said : List ℕ → Line → Option Said
hash_said buffer line = formed_said (eqb line.count 0) (Hash (hash_of buffer))

-- by its letter; one of another letter is a call
unfoldable pub turn_of : State → ℕ → List ℕ → Moduli → Line → Turn
turn_of st lent buffer table line =
    choose line.letter
    ((code "L", shown st (lend_said (length buffer) line))
    ∷ (code "Y", shown st (byte_said (length buffer) line))
    ∷ (code "U", shown st (word_said (length buffer) line))
    ∷ (code "T", number_turn st line)
    ∷ (code "O", pending_turn st line)
    ∷ (code "Q", line_byte_turn st line)
    ∷ (code "m", shown st (modulus_said line))
    ∷ (code "k", shown st (count_said line))
    ∷ (code "l", shown st (load_said st (take lent buffer) buffer line))
    ∷ (code "G", shown st (numbers_said line))
    ∷ (code "H", shown st (hash_said buffer line))
    ∷ [])
    (call_turn st (take lent buffer) table line)

-- Y and U set bytes; of the other letters only a call can change the bytes lent
unfoldable pub buffer_after : State → ℕ → List ℕ → Line → List ℕ
buffer_after st lent buffer line =
    choose line.letter
    ((code "Y", byte_set buffer line) ∷ (code "U", word_set buffer line) ∷ [])
    (call_bytes st (take lent buffer) line ++ drop lent buffer)

-- the moduli after it
unfoldable pub table_after : State → ℕ → List ℕ → Moduli → Line → Moduli
table_after st lent buffer table line =
    choose line.letter
    ((code "m", modulus_set table line)
    ∷ (code "k", count_set table line)
    ∷ (code "l", table_loaded st (take lent buffer) buffer table line)
    ∷ [])
    table

-- L alone changes what is lent of `size` bytes
abbrev pub lent_after : ℕ → ℕ → Line → ℕ
lent_after lent size line = cond (eqb line.letter (code "L")) (lent_by lent size line) lent
