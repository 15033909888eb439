-- Runs and steps add up, on any state and any bytes: two runs one after the other leave what one run of both counts leaves, and a step is a run of one
-- store. So what is said of one run cut anywhere, as of a format (CutFormat.antt), holds of steps and runs in any mix.
use Rattle.std.specs.Prelude.{ℕ, ◌+◌, ◌≡◌}
use Rattle.refinement.specs.Stores.{World}
use Rattle.refinement.specs.Run.{step, run, exec}

pub record AddsUp (v : World) : Type 0 where
  pub two_runs : (a b : ℕ) → (exec (run b) (exec (run a) v).world).world ≡ (exec (run (a + b)) v).world
  pub one-step : (exec step v).world ≡ (exec (run 1) v).world

abbrev pub RunsAddUp : Type 0
RunsAddUp = (v : World) → AddsUp v
