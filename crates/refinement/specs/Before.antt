-- Document 02, L3, its last sentence: for the same calls and cuts, each taken operation run to its end before the next, a player's recalled screen is the
-- same as before this change.
use Rattle.std.specs.Prelude.{ℕ, ◌≤◌, true, List, [], ◌∷◌, ◌≡◌, length}
use Rattle.bounded.specs.Rows.{refusal}
use Rattle.words.specs.Words.{Bytes}
use Rattle.layout.specs.declared.Sizes.{Sizes}
use Rattle.layout.specs.Layout.{sizes_ok, image_length}
use Rattle.state.specs.State.{State}
use Rattle.refinement.specs.Outcome.{Outcome}
use Rattle.refinement.specs.Stores.{World}
use Rattle.refinement.specs.Calls.{asked, finished_line, write_op, write_call_rows}
use Rattle.refinement.specs.Run.{Call, Result, mount, checkpoint, free, step, begin, begin_wide, abort, commit, prepare, confirm, withdraw}
use Rattle.refinement.specs.Run.{consolidate, run, write, read, recall, event, load, result, exec, formatted_world}
use Rattle.refinement.specs.Statement.{Lent}

-- the write before this change: every taken one needs its stores
unfoldable pub write_before : State → List ℕ → ℕ → ℕ → ℕ → ℕ → ℕ → List ℕ → Outcome
write_before st img w p l o n bytes =
    asked (refusal (write_call_rows st img w p l o n bytes)) st (write_op st w p l o n) (finished_line st img w p l o n bytes)

-- the calls before this change
unfoldable pub exec_before : Call → World → Result
exec_before (write w p l o n bytes) v = result (write_before v.st v.image w p l o n bytes) v.image
exec_before mount v = exec mount v
exec_before checkpoint v = exec checkpoint v
exec_before free v = exec free v
exec_before step v = exec step v
exec_before (begin w) v = exec (begin w) v
exec_before (begin_wide w) v = exec (begin_wide w) v
exec_before (abort w) v = exec (abort w) v
exec_before (commit w) v = exec (commit w) v
exec_before (prepare w) v = exec (prepare w) v
exec_before (confirm w) v = exec (confirm w) v
exec_before (withdraw w) v = exec (withdraw w) v
exec_before (consolidate p) v = exec (consolidate p) v
exec_before (run k) v = exec (run k) v
exec_before (read w p l target) v = exec (read w p l target) v
exec_before (recall p l target) v = exec (recall p l target) v
exec_before (event ms k m a) v = exec (event ms k m a) v
exec_before (load text) v = exec (load text) v

-- a call with a run to its end behind it; or cut after k stores, or after all that it needs if they are fewer: a mount stands for the cut. A call that
-- needs no stores leaves nothing to run: the run is turned back and changes nothing
pub data Whole : Type 0 where
  through : Call → Whole
  cut : Call → ℕ → Whole

abbrev pub call_of : Whole → Call
call_of (through c) = c
call_of (cut c k) = c

-- the world after one of them, and after a list, by calls e
abbrev pub plays : (Call → World → Result) → Whole → World → World
plays e (through c) v = (e (run (e c v).stores) (e c v).world).world
plays e (cut c k) v = (e mount (e (run k) (e c v).world).world).world

unfoldable pub played : (Call → World → Result) → List Whole → World → World
played e [] v = v
played e (x ∷ xs) v = played e xs (plays e x v)

-- written data are bytes
unfoldable pub AllBytes : List Whole → Type 0
AllBytes [] = Unit
AllBytes (x ∷ xs) = Lent (call_of x) × AllBytes xs

-- state and image are those of the calls before this change, and so is what any recall then answers and shows
pub record SameAsBefore (xs : List Whole) (v : World) : Type 0 where
  pub world : played exec xs v ≡ played exec_before xs v
  pub screen : (p l : ℕ) (target : List ℕ) → exec (recall p l target) (played exec xs v) ≡ exec_before (recall p l target) (played exec_before xs v)

-- of every list on a freshly formatted buffer
abbrev pub AsBefore : Type 0
AsBefore =
    (z : Sizes) → sizes_ok z ≡ true → (buffer : List ℕ) → Bytes buffer → image_length z ≤ length buffer
    → (xs : List Whole) → AllBytes xs → SameAsBefore xs (formatted_world z buffer)
