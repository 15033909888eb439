-- The lines that writers hold, as masks.
use Rattle.std.specs.Prelude.{ℕ, ◌+◌, ◌*◌, Bool, false, ◌&&◌, ◌||◌, not, List, ltb, eqb, get_or, set}
use Rattle.bounded.specs.Below.{all_below, some_below, those, up_to}
use Rattle.layout.specs.declared.Sizes.{Sizes}
use Rattle.masks.specs.Lines.{in_mask, disjoint}
use Rattle.state.specs.Slots.{free_at}

abbrev pub is_open : List Bool → ℕ → Bool
is_open opened w = get_or opened w false

-- the number that stands for no writer, where one would be prepared; any above 3 does
abbrev pub no_writer : ℕ
no_writer = 4

-- whether a writer is prepared
abbrev pub some_prepared : ℕ → Bool
some_prepared prepared = ltb prepared 4

-- the lines of slot s that writer w holds
abbrev pub held_at : List ℕ → ℕ → ℕ → ℕ
held_at held w s = get_or held (16 * w + s) 0

-- the held lines with writer w's let go
abbrev pub let_go : Sizes → List ℕ → ℕ → List ℕ
let_go z held w = up_to z.slots (λ s h. set h (16 * w + s) 0) held

-- row 8: what a writer holds of a slot is nothing; or no writer below holds a line of it too, the writer is open and
-- the slot is not free
abbrev pub holder_ok : List Bool → List ℕ → Bool → ℕ → ℕ → Bool
holder_ok opened held free s w =
    eqb (held_at held w s) 0 || (all_below w (λ v. disjoint (held_at held w s) (held_at held v s)) && (is_open opened w && not free))

unfoldable pub held_ok : Sizes → List ℕ → List Bool → List ℕ → Bool
held_ok z page opened held = all_below z.slots (λ s. all_below 4 (holder_ok opened held (free_at page s) s))

-- whether a writer other than w holds line l of slot s; whether any holds a line of it
unfoldable pub others_hold : List ℕ → ℕ → ℕ → ℕ → Bool
others_hold held w s l = some_below 4 (λ v. not (eqb v w) && in_mask (held_at held v s) l)

unfoldable pub some_hold : List ℕ → ℕ → Bool
some_hold held s = some_below 4 (λ v. not (eqb (held_at held v s) 0))

-- the slots that writer w holds lines of, rising
unfoldable pub held_slots : Sizes → List ℕ → ℕ → List ℕ
held_slots z held w = those z.slots (λ s. not (eqb (held_at held w s) 0))
