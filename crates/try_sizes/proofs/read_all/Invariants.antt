use mathlib.Core.Path.{◌≡◌}
use lib.ListN.{length}
use Rattle.try_sizes.specs.Program.{TakesSome}
use Rattle.try_sizes.proofs.read_all.Given as goal

-- At each turn the bytes read so far have brought the program there.
abbrev pub invariant-loop-turn : goal.invariant-loop-turn
invariant-loop-turn l =
    (length l.image ≡ length l.initial.image) × (length l.line ≡ length l.initial.line) × (length l.input ≡ length l.initial.input)
    × TakesSome l.initial.s l.initial.words l.initial.image l.initial.line l.s l.words l.image l.line
