-- Format and mount: the state that they return. The map is the homes of the pages. No writer is open or prepared, next slot is 0. Nothing is pending; but
-- where a mount finds entries that are counted, their copying is, from the first entry on, with the store of their count made and without a writer
-- (document 02, L14).
use Rattle.std.specs.Prelude.{ℕ, Bool, false, cond, List, eqb, replicate}
use Rattle.layout.specs.declared.Sizes.{Sizes}
use Rattle.replay.specs.declared.Table.{Table}
use Rattle.fresh.specs.Fresh.{fresh_table, fresh_map, format_row}
use Rattle.mount.specs.Mount.{Mounted, no_sizes, mount_of}
use Rattle.replay.specs.Table.{empty_table}
use Rattle.replay.specs.Map.{map_from}
use Rattle.state.specs.State.{State, Writers}
use Rattle.state.specs.declared.Pending.{Pending}
use Rattle.state.specs.declared.Op.TheVariants.{Copy, Format}
use Rattle.state.specs.Held.{no_writer}
use Rattle.state.specs.Wide.{wide_of, no_wide}
use Rattle.operations.specs.Operations.{format_needs}
use Rattle.refinement.specs.Settled.{no_pending, with_pending}
use Rattle.refinement.specs.Outcome.{Outcome, answered}

abbrev pub all_closed : Writers
all_closed = record { opened = replicate 4 false; held = replicate 64 0; prepared = no_writer }

abbrev pub quiet_state : Sizes → ℕ → ℕ → Table → List ℕ → State
quiet_state z head tail t map =
    record { sizes = z; head = head; tail = tail; next = 0; table = t; map = map; writers = all_closed; wide = no_wide; pending = no_pending }

-- with a wide commit of n entries pending
abbrev pub copying : Pending
copying = record { op = Copy; made = 1; line = replicate 8 0; second = replicate 8 0 }

abbrev pub copying_state : Sizes → ℕ → ℕ → Table → List ℕ → ℕ → List ℕ → State
copying_state z head tail t map n keys =
    record { sizes = z; head = head; tail = tail; next = 0; table = t; map = map; writers = all_closed; wide = wide_of no_writer n keys; pending = copying }

-- what a refused format or mount returns: a state with nothing in it, which row 8 turns back
abbrev pub no_state : State
no_state = quiet_state no_sizes 0 0 empty_table (map_from 0 (λ p. 0))

abbrev pub mounted_state : Mounted → State
mounted_state m =
    cond (eqb m.count 0) (quiet_state m.sizes m.head m.tail m.table m.map)
    (copying_state m.sizes m.head m.tail m.table m.map m.count m.keys)

unfoldable pub mount_call : List ℕ → Outcome
mount_call img = let m = mount_of img in answered m.row no_state 0 (mounted_state m)

abbrev pub fresh_state : Sizes → State
fresh_state z = quiet_state z 0 0 (fresh_table z) (fresh_map z)

-- a format asked for (document 02, L6): rows 3 and 4, then the fresh state with it pending. Asking changes no byte
unfoldable pub format_of : Sizes → List ℕ → Outcome
format_of z buffer = answered (format_row z buffer) no_state (format_needs z) (with_pending (fresh_state z) Format (replicate 8 0))

-- and when all its stores are made
unfoldable pub format_call : Sizes → List ℕ → Outcome
format_call z buffer = answered (format_row z buffer) no_state 0 (fresh_state z)
