use Rattle.bounded.specs.Tab.{filled}
use mathlib.Core.Path.{◌≡◌}
use Rattle.call_mount.proofs.filling.put_numbers.Given as goal

abbrev pub invariant-loop-p : goal.invariant-loop-p
invariant-loop-p l = l.entries ≡ filled l.p (λ q. q) l.initial.entries
