-- The lines that make a call on the whole image: F, M, S, N and n of PROBE.md. Each is the call's own definition.
use Rattle.std.specs.Prelude.{ℕ, Bool, ◌||◌, cond, List, eqb, Option}
use Rattle.layout.specs.declared.Sizes.{Sizes}
use Rattle.state.specs.State.{State}
use Rattle.refinement.specs.Calls.{step_of, step_bytes, step_row, run_of, run_bytes}
use Rattle.refinement.specs.Mount.{mount_call, format_of}
use Rattle.text.specs.declared.Line.{Line}
use Rattle.workbench.specs.Turns.{Turn, arg, formed_said, formed, called, replacing}
use Rattle.workbench.specs.declared.Said.TheVariants.{Answered, Store}
use Rattle.workbench.specs.declared.Said.{Said}
use Rattle.call_step.specs.NextStore.{next_store_of}

-- ---- format, mount

-- F,P,S,J,L, or without L, which then is 0
abbrev pub format_form : Line → Bool
format_form line = eqb line.count 3 || eqb line.count 4

abbrev pub sizes_in : Line → Sizes
sizes_in line = record { pages = arg line 0; slots = arg line 1; places = arg line 2; entries = cond (eqb line.count 4) (arg line 3) 0 }

-- it is asked for, and changes no byte
abbrev pub format_turn : State → List ℕ → Line → Turn
format_turn st img line = formed (format_form line) st (replacing st (format_of (sizes_in line) img))

abbrev pub mount_turn : State → List ℕ → Line → Turn
mount_turn st img line = formed (eqb line.count 0) st (replacing st (mount_call img))

-- ---- step, run

abbrev pub step_turn : State → List ℕ → Line → Turn
step_turn st img line = formed (eqb line.count 0) st (called (step_of st img))

abbrev pub stepped_bytes : State → List ℕ → Line → List ℕ
stepped_bytes st img line = cond (eqb line.count 0) (step_bytes st img) img

abbrev pub run_turn : State → List ℕ → Line → Turn
run_turn st img line = formed (eqb line.count 1) st (called (run_of st img (arg line 0)))

abbrev pub ran_bytes : State → List ℕ → Line → List ℕ
ran_bytes st img line = cond (eqb line.count 1) (run_bytes st img (arg line 0)) img

-- ---- the next store: the word that it goes to and whether it decides, or the row

abbrev pub store_said : State → List ℕ → Said
store_said st img =
    cond (eqb (step_row st img) 0) (Store (next_store_of st img).at (next_store_of st img).decides) (Answered (step_row st img) 0)

abbrev pub next_said : State → List ℕ → Line → Option Said
next_said st img line = formed_said (eqb line.count 0) (store_said st img)
