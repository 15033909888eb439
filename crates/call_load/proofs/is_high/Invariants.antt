use mathlib.Core.Bool.{false}
use mathlib.Core.Path.{◌≡◌}
use Rattle.bounded.specs.Below.{some_below}
use Rattle.call_load.specs.Loaded.{meter_high}
use Rattle.state_words.specs.Decoded.{decoded}
use Rattle.call_load.proofs.is_high.Given as goal

abbrev pub invariant-loop-m : goal.invariant-loop-m
invariant-loop-m l = some_below l.m (meter_high l.z l.image (decoded l.words) l.moduli) ≡ false
