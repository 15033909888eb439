-- What a call from C leaves: it returns its number alone, so the number, the state that the words then are, and the bytes are told apart.
use Rattle.std.specs.Prelude.{ℕ, ◌/◌, ◌%◌, cond, List, ◌≡◌, eqb}
use Rattle.state.specs.State.{State}
use Rattle.layout.specs.declared.Sizes.{Sizes}
use Rattle.refinement.specs.Outcome.{Outcome}
use Rattle.call_round.specs.declared.Room.{Room}
use Rattle.call_round.specs.Round.{Played}
use Rattle.op_stores.specs.declared.Until.{Until}
use Rattle.op_stores.specs.declared.Until.TheVariants.{Asked, Fence, End}
use Rattle.op_stores.specs.Started.{started_of, started_bytes}

-- of a call without stores, o being what comes of it
abbrev pub Leaves : ℕ → State → Outcome → Type 0
Leaves r after o = (r ≡ o.number) × (after ≡ o.state)

-- of a call that asks for an operation and goes on with it
abbrev pub Starts : ℕ → State → List ℕ → Outcome → List ℕ → Until → Type 0
Starts r after bytes o image u = (r ≡ o.number) × (after ≡ (started_of o image u).state) × (bytes ≡ started_bytes o image u)

-- a refused call changes no word
abbrev pub Keeps : ℕ → List ℕ → List ℕ → Type 0
Keeps r after before = (r ≡ 0 → ⊥) → after ≡ before

-- how far an operation is taken, by its number
abbrev pub until_by : ℕ → Until
until_by n = cond (eqb n 0) Asked (cond (eqb n 1) Fence End)

-- 1,000 times the major number, and the minor number
abbrev pub version : ℕ
version = 2000

abbrev pub sizes_by : ℕ → ℕ → ℕ → ℕ → Sizes
sizes_by p s j l = record { pages = p; slots = s; places = j; entries = l }

-- of a round in one call: its number, and which call gave it
abbrev pub Plays : ℕ → State → List ℕ → ℕ → Played → Type 0
Plays r after bytes call t = (r ≡ t.number) × (after ≡ t.world.st) × (bytes ≡ t.world.image) × (call ≡ t.call)

-- what is done for want of room, by its number
abbrev pub room_by : ℕ → Room
room_by n = record { checkpoint = eqb (n % 2) 1; free = eqb (n / 2 % 2) 1 }
