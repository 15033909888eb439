use mathlib.Core.Path.{◌≡◌}
use mathlib.Core.Bool.{true}
use Rattle.bounded.specs.Below.{all_below}
use Rattle.replay.specs.Table.{page_apart}
use Rattle.replay.proofs.pages_apart.Given as goal

-- After s turns no page is twice among the first s slots.
abbrev pub invariant-loop-s : goal.invariant-loop-s
invariant-loop-s l = all_below l.s (page_apart l.page) ≡ true
