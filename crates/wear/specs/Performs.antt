-- A line of powerhit's script performed, and what it adds to the 22 numbers counted. The code's counts are machine words.
use Rattle.std.specs.Prelude.{◌≡◌, ℕ, ◌+◌, ◌%◌, ◌^◌, ◌<◌, true, List, slice_index}
use Rattle.state.specs.State.{State}
use Rattle.state.specs.Held.{no_writer}
use Rattle.executing.specs.Called.{Machine, Turn}

-- that counts are these sums
abbrev pub Counts : List ℕ → (ℕ → ℕ) → Type 0
Counts counts worn = (k : ℕ) → k < 22 → slice_index counts k ≡ worn k % 2 ^ 64

-- that what is more has been added to them
pub record Adds (counts : List ℕ) (more : ℕ → ℕ) (counts' : List ℕ) : Type 0 where
  pub sums : (worn : ℕ → ℕ) → Counts counts worn → Counts counts' (λ k. worn k + more k)

-- that a turn has been taken, and what it adds counted
pub record Performs (t : Turn) (more : ℕ → ℕ) (counts : List ℕ) (m : Machine) (img counts' : List ℕ) : Type 0 where
  pub machine : m ≡ t.machine
  pub image : img ≡ t.image
  pub adds : Adds counts more counts'

-- no writer is wide: powerhit has no line that begins a wide transaction
abbrev pub Narrow : State → Type 0
Narrow st = st.wide.writer ≡ no_writer

-- of a machine between two lines; before a taken format no line looks at the state
abbrev pub NarrowMachine : Machine → Type 0
NarrowMachine m = m.formatted ≡ true → Narrow m.st
