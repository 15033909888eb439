-- How many finished lines an operation has: a write and a wide write one, an event two (PROBE.md, Q and G).
use Rattle.std.specs.Prelude.{ℕ}
use Rattle.state.specs.declared.Op.TheVariants.{Idle, Write, Commit, Consolidate, Checkpoint, Event, Prepare, Confirm, Log, Copy, Format}
use Rattle.state.specs.declared.Op.{Op}

abbrev pub finished_lines : Op → ℕ
finished_lines Idle = 0
finished_lines (Write w p l o n) = 1
finished_lines (Commit w) = 0
finished_lines (Consolidate p) = 0
finished_lines Checkpoint = 0
finished_lines (Event k m a) = 2
finished_lines (Prepare w) = 0
finished_lines (Confirm w) = 0
finished_lines (Log p l o n) = 1
finished_lines Copy = 0
finished_lines Format = 0
