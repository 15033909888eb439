-- The call that a line asks for, and what it comes to: one that needs stores makes them, all or under a K at most k, and then mounts.
use Rattle.std.specs.Prelude.{ℕ, Bool, true, cond, List, [], eqb, Option, None, Some}
use Rattle.state.specs.State.{State}
use Rattle.refinement.specs.Stores.{World}
use Rattle.refinement.specs.Calls.{world_of}
use Rattle.refinement.specs.Run.{Call, Result, mount, checkpoint, begin, abort, commit, consolidate, run, write, result, exec}
use Rattle.answers.specs.Answers.{Answer}
use Rattle.answers.specs.Answers.{answered_at}
use Rattle.state_words.specs.Decoded.{decoded}
use Rattle.calling.specs.WriteLine.{num, data_of}
use Rattle.forms.specs.declared.Ask.{Ask}
use Rattle.forms.specs.declared.Ask.TheVariants.{Begin, Commit, Abort, Write, Consolidate, Checkpoint, Mount}
use Rattle.printing.specs.declared.Output.{Output}
use Rattle.printing.specs.declared.Output.TheVariants.{Answered}
use Rattle.executing.specs.declared.Mode.{Mode}
use Rattle.executing.specs.declared.Turned.{Turned}

-- the call that a line of `count` numbers asks for
abbrev pub call_of : Ask → ℕ → List ℕ → Call
call_of Begin count numbers = begin (num numbers 0)
call_of Commit count numbers = commit (num numbers 0)
call_of Abort count numbers = abort (num numbers 0)
call_of Write count numbers = let n = num numbers in write (n 0) (n 1) (n 2) (n 3) (n 4) (data_of count numbers)
call_of Consolidate count numbers = consolidate (num numbers 0)
call_of Checkpoint count numbers = checkpoint
call_of Mount count numbers = mount

-- the program between two lines. Until a format is taken it obeys nothing else; a K waits for the next taken operation that needs stores
pub record Machine : Type 0 where
  pub st : State
  pub formatted : Bool
  pub cut : Option ℕ

-- the machine after a line, what the line prints, and the buffer after it
pub record Turn : Type 0 where
  pub machine : Machine
  pub output : Output
  pub image : List ℕ

abbrev pub turn : Machine → Output → List ℕ → Turn
turn m output img = record { machine = m; output = output; image = img }

abbrev pub ready : State → Option ℕ → Machine
ready st cut = record { st = st; formatted = true; cut = cut }

-- a K lets at most k of the stores needed be made, and then mounts: the number is the mount's
abbrev pub budget : Option ℕ → ℕ → ℕ
budget None needed = needed
budget (Some k) needed = k

abbrev pub after_cut : Option ℕ → ℕ → World → Result
after_cut None number v = record { number = number; stores = 0; world = v; target = [] }
after_cut (Some k) number v = exec mount v

-- what a call came to: one that needs stores makes them, and a K is used up. Where its mount is turned back, only a format is obeyed from then on
unfoldable pub finished : ℕ → Option ℕ → Result → Turn
finished letter cut d =
    let e = exec (run (budget cut d.stores)) d.world in
    let f = after_cut cut d.number e.world in
    cond (eqb d.stores 0)
    (turn (ready d.world.st cut) (Answered letter d.number 0) d.world.image)
    (turn (record { st = f.world.st; formatted = eqb f.number 0; cut = None }) (Answered letter f.number e.stores) e.world.image)

-- ---- the same of the code, which keeps the state as words beside its mode

abbrev pub machine_at : Mode → List ℕ → Machine
machine_at m words = record { st = decoded words; formatted = m.formatted; cut = m.cut }

abbrev pub world_at : List ℕ → List ℕ → World
world_at words img = world_of (decoded words) img

abbrev pub result_at : Answer → List ℕ → List ℕ → Result
result_at a words img = result (answered_at a (decoded words)) img

abbrev pub turn_at : Turned → List ℕ → List ℕ → Turn
turn_at r words img = turn (machine_at r.mode words) r.output img
