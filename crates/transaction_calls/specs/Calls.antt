-- The lines that begin, abort and withdraw, and those that ask for an operation: B, A, V, Z, C, D, X, P, I, J and W of PROBE.md, and in place b, a, v, c, d, p
-- and w. Each is the call's own definition.
use Rattle.std.specs.Prelude.{ℕ, Bool, List, eqb}
use Rattle.state.specs.State.{State}
use Rattle.refinement.specs.Calls.{begin_of, begin_wide_of, abort_of, commit_of, prepare_of, confirm_of, withdraw_of, consolidate_of, free_of, checkpoint_of}
use Rattle.text.specs.declared.Line.{Line}
use Rattle.calling.specs.WriteLine.{has_data, write_by}
use Rattle.workbench.specs.Turns.{Turn, arg, formed, called}
use Rattle.call_turns.specs.InPlace.{call_by, bytes_by}

-- ---- calls that make no store: B,w and b,w; V,w and v,w; A,w and a,w; Z,w

abbrev pub begin_turn : State → Line → Turn
begin_turn st line = formed (eqb line.count 1) st (called (begin_of st (arg line 0)))

abbrev pub begin_wide_turn : State → Line → Turn
begin_wide_turn st line = formed (eqb line.count 1) st (called (begin_wide_of st (arg line 0)))

abbrev pub abort_turn : State → Line → Turn
abort_turn st line = formed (eqb line.count 1) st (called (abort_of st (arg line 0)))

abbrev pub withdraw_turn : State → List ℕ → Line → Turn
withdraw_turn st img line = formed (eqb line.count 1) st (called (withdraw_of st img (arg line 0)))

-- ---- asked for, or with the whole of it in place: C,w and c,w; D,p and d,p; P and p; W and w with a write's numbers

abbrev pub commit_turn : Bool → State → List ℕ → Line → Turn
commit_turn whole st img line = call_by (eqb line.count 1) whole st (commit_of st img (arg line 0)) img

abbrev pub commit_bytes : Bool → State → List ℕ → Line → List ℕ
commit_bytes whole st img line = bytes_by (eqb line.count 1) whole (commit_of st img (arg line 0)) img

abbrev pub consolidate_turn : Bool → State → List ℕ → Line → Turn
consolidate_turn whole st img line = call_by (eqb line.count 1) whole st (consolidate_of st img (arg line 0)) img

abbrev pub consolidate_bytes : Bool → State → List ℕ → Line → List ℕ
consolidate_bytes whole st img line = bytes_by (eqb line.count 1) whole (consolidate_of st img (arg line 0)) img

abbrev pub checkpoint_turn : Bool → State → List ℕ → Line → Turn
checkpoint_turn whole st img line = call_by (eqb line.count 0) whole st (checkpoint_of st img) img

abbrev pub checkpoint_bytes : Bool → State → List ℕ → Line → List ℕ
checkpoint_bytes whole st img line = bytes_by (eqb line.count 0) whole (checkpoint_of st img) img

-- writer, page, line, offset, length, then at most 64 bytes
abbrev pub write_turn : Bool → State → List ℕ → Line → Turn
write_turn whole st img line =
    call_by (has_data line.count line.numbers) whole st (write_by st img line.count line.numbers) img

abbrev pub write_bytes : Bool → State → List ℕ → Line → List ℕ
write_bytes whole st img line = bytes_by (has_data line.count line.numbers) whole (write_by st img line.count line.numbers) img

-- ---- asked for only, so no byte changes: X; I,w; J,w

abbrev pub free_turn : State → List ℕ → Line → Turn
free_turn st img line = formed (eqb line.count 0) st (called (free_of st img))

abbrev pub prepare_turn : State → List ℕ → Line → Turn
prepare_turn st img line = formed (eqb line.count 1) st (called (prepare_of st img (arg line 0)))

abbrev pub confirm_turn : State → List ℕ → Line → Turn
confirm_turn st img line = formed (eqb line.count 1) st (called (confirm_of st img (arg line 0)))
