-- The lines that make a call, on the bytes lent, by their letters.
use Rattle.std.specs.Prelude.{ℕ, true, false, List, [], ◌∷◌, None}
use Prim.Native.Char.{code}
use Rattle.state.specs.State.{State}
use Rattle.text.specs.declared.Line.{Line}
use Rattle.workbench.specs.Turns.{Turn, shown, choose}
use Rattle.workbench.specs.declared.moduli.Moduli.{Moduli}
use Rattle.transaction_calls.specs.Calls.{begin_turn, begin_wide_turn, abort_turn, withdraw_turn, commit_turn, commit_bytes, consolidate_turn, consolidate_bytes}
use Rattle.transaction_calls.specs.Calls.{checkpoint_turn, checkpoint_bytes, write_turn, write_bytes, free_turn, prepare_turn, confirm_turn}
use Rattle.image_calls.specs.Calls.{format_turn, mount_turn, step_turn, stepped_bytes, run_turn, ran_bytes, next_said}
use Rattle.line_calls.specs.Calls.{read_said, recall_said}
use Rattle.moduli_calls.specs.Calls.{event_turn}

-- ---- in place

unfoldable pub place_turn : State → List ℕ → Line → Turn
place_turn st img line =
    choose line.letter
    ((code "b", begin_turn st line)
    ∷ (code "a", abort_turn st line)
    ∷ (code "v", begin_wide_turn st line)
    ∷ (code "w", write_turn true st img line)
    ∷ (code "c", commit_turn true st img line)
    ∷ (code "d", consolidate_turn true st img line)
    ∷ (code "p", checkpoint_turn true st img line)
    ∷ [])
    (shown st None)

unfoldable pub place_bytes : State → List ℕ → Line → List ℕ
place_bytes st img line =
    choose line.letter
    ((code "w", write_bytes true st img line)
    ∷ (code "c", commit_bytes true st img line)
    ∷ (code "d", consolidate_bytes true st img line)
    ∷ (code "p", checkpoint_bytes true st img line)
    ∷ [])
    img

-- ---- of a transaction, or an operation that is asked for: none of these changes a byte

unfoldable pub ask_turn : State → List ℕ → Moduli → Line → Turn
ask_turn st img table line =
    choose line.letter
    ((code "B", begin_turn st line)
    ∷ (code "A", abort_turn st line)
    ∷ (code "V", begin_wide_turn st line)
    ∷ (code "W", write_turn false st img line)
    ∷ (code "C", commit_turn false st img line)
    ∷ (code "D", consolidate_turn false st img line)
    ∷ (code "X", free_turn st img line)
    ∷ (code "P", checkpoint_turn false st img line)
    ∷ (code "I", prepare_turn st img line)
    ∷ (code "J", confirm_turn st img line)
    ∷ (code "Z", withdraw_turn st img line)
    ∷ (code "K", event_turn st img table line)
    ∷ [])
    (place_turn st img line)

-- ---- any call

unfoldable pub call_turn : State → List ℕ → Moduli → Line → Turn
call_turn st img table line =
    choose line.letter
    ((code "F", format_turn st img line)
    ∷ (code "M", mount_turn st img line)
    ∷ (code "S", step_turn st img line)
    ∷ (code "N", run_turn st img line)
    ∷ (code "n", shown st (next_said st img line))
    ∷ (code "R", shown st (read_said st img line))
    ∷ (code "E", shown st (recall_said img line))
    ∷ [])
    (ask_turn st img table line)

-- the bytes lent after it: step, run and the calls in place write
unfoldable pub call_bytes : State → List ℕ → Line → List ℕ
call_bytes st img line = choose line.letter ((code "S", stepped_bytes st img line) ∷ (code "N", ran_bytes st img line) ∷ []) (place_bytes st img line)
