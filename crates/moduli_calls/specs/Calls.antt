-- The lines that make a call with moduli: K, an event that is lent them, and l, a load that gives them (PROBE.md).
use Rattle.std.specs.Prelude.{ℕ, ◌+◌, Bool, ◌&&◌, cond, List, leb, eqb, length, get_or, Option}
use Rattle.words.specs.Words.{part, bytes_of}
use Rattle.state.specs.State.{State}
use Rattle.refinement.specs.Calls.{event_of, Loading, load_of}
use Rattle.text.specs.declared.Line.{Line}
use Rattle.number_text.specs.Text.{each}
use Rattle.hashing.specs.Hash.{hash_of}
use Rattle.workbench.specs.Turns.{Turn, arg, formed, called, formed_said, hashed_said}
use Rattle.workbench.specs.Moduli.{all_lent, lent_moduli}
use Rattle.workbench.specs.declared.moduli.Moduli.{Moduli}
use Rattle.workbench.specs.declared.Said.{Said}

-- ---- K,kind,meter,amount

abbrev pub event_turn : State → List ℕ → Moduli → Line → Turn
event_turn st img table line =
    formed (eqb line.count 3) st (called (event_of st img (lent_moduli table) (arg line 0) (arg line 1) (arg line 2)))

-- ---- l,at,n: the text is the n bytes of the buffer from at on, whatever is lent

abbrev pub load_form : ℕ → Line → Bool
load_form size line = eqb line.count 2 && leb (arg line 0 + arg line 1) size

abbrev pub loading : State → List ℕ → List ℕ → Line → Loading
loading st img buffer line = load_of st img (part buffer (arg line 0) (arg line 1))

-- 24 moduli, each as 8 bytes
abbrev pub moduli_bytes : List ℕ → List ℕ
moduli_bytes moduli = each 24 (λ m. bytes_of 8 (get_or moduli m 0))

abbrev pub loaded_said : Loading → Said
loaded_said r = hashed_said r.number (hash_of (moduli_bytes r.moduli))

abbrev pub load_said : State → List ℕ → List ℕ → Line → Option Said
load_said st img buffer line = formed_said (load_form (length buffer) line) (loaded_said (loading st img buffer line))

-- a taken one replaces the table
abbrev pub table_by : Moduli → Loading → Moduli
table_by table r = cond (eqb r.number 0) (all_lent r.moduli) table

abbrev pub table_loaded : State → List ℕ → List ℕ → Moduli → Line → Moduli
table_loaded st img buffer table line = cond (load_form (length buffer) line) (table_by table (loading st img buffer line)) table
