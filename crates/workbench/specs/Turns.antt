-- A line's turn: the state that it leaves, and what it prints.
use Rattle.std.specs.Prelude.{ℕ, Bool, false, cond, List, [], ◌∷◌, Option, Some, None, eqb, get_or, take, replicate}
use Rattle.replay.specs.declared.Table.{Table}
use Rattle.state.specs.State.{State}
use Rattle.state.specs.Wide.{no_wide}
use Rattle.state.specs.Held.{no_writer}
use Rattle.refinement.specs.Settled.{no_pending}
use Rattle.refinement.specs.Outcome.{Outcome}
use Rattle.answers.specs.Answers.{Answer}
use Rattle.answers.specs.Answers.{number_of, stores_of}
use Rattle.text.specs.declared.Line.{Line}
use Rattle.state_words.specs.Decoded.{decoded}
use Rattle.workbench.specs.declared.Said.TheVariants.{Answered, Hash}
use Rattle.workbench.specs.declared.Said.{Said}

-- at first every number is 0, last positions and the map's entries too
abbrev pub first_table : Table
first_table = record { page = replicate 16 0; original = replicate 16 0; spare = replicate 16 0; bitmap = replicate 16 0; last = replicate 16 0 }

abbrev pub first_state : State
first_state =
    record {
      sizes = record { pages = 0; slots = 0; places = 0; entries = 0 };
      head = 0;
      tail = 0;
      next = 0;
      table = first_table;
      map = replicate 1024 0;
      writers = record { opened = replicate 4 false; held = replicate 64 0; prepared = no_writer };
      wide = no_wide;
      pending = no_pending;
    }

-- what a line leaves and prints; nothing is said of a line of another form
pub record Turn : Type 0 where
  pub st : State
  pub said : Option Said

-- the code's: it prints `said` and leaves these words
abbrev pub turn_at : Option Said → List ℕ → Turn
turn_at said words = record { st = decoded words; said = said }

-- number i of a line
abbrev pub arg : Line → ℕ → ℕ
arg line i = get_or line.numbers i 0

-- the numbers of a line that has n
abbrev pub numbers_of : ℕ → Line → Option (List ℕ)
numbers_of n line = cond (eqb line.count n) (Some (take n line.numbers)) None

-- an edit has answer 0 and count 0
abbrev pub done : Said
done = Answered 0 0

abbrev pub edited : State → Turn
edited st = record { st = st; said = Some done }

-- a line that prints and leaves the state as it was
abbrev pub shown : State → Option Said → Turn
shown st s = record { st = st; said = s }

-- what a line prints that has its letter's form; one of another form says so and leaves all as it was
abbrev pub formed_said : Bool → Said → Option Said
formed_said ok s = cond ok (Some s) None

abbrev pub formed : Bool → State → Turn → Turn
formed ok st t = cond ok t (shown st None)

-- the entry for a letter, and d where there is none
abbrev pub choose : {A : Type 0} → ℕ → List (ℕ × A) → A → A
choose letter [] d = d
choose letter (r ∷ rs) d = cond (eqb letter r.0) r.1 (choose letter rs d)

-- a call's answer and its stores, and the state that it leaves
abbrev pub answer_said : Answer → Said
answer_said a = Answered (number_of a) (stores_of a)

abbrev pub called : Outcome → Turn
called o = record { st = o.state; said = Some (Answered o.number o.stores) }

-- format and mount: a taken one replaces the state
abbrev pub replacing : State → Outcome → Turn
replacing st o = record { st = cond (eqb o.number 0) o.state st; said = Some (Answered o.number o.stores) }

-- a call that reads, with row 0 where it is taken: the hash of what it read, or its row
abbrev pub hashed_said : ℕ → ℕ → Said
hashed_said row h = cond (eqb row 0) (Hash h) (Answered row 0)
