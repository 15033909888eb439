use Rattle.std.proofs.Common.{◌≡◌, length}
use Rattle.powerhit.specs.Program.{TakesSome}
use Rattle.powerhit.proofs.read_all.Given as goal

-- At each turn the bytes read so far have brought the session there.
abbrev pub invariant-loop-turn : goal.invariant-loop-turn
invariant-loop-turn l =
    let o = l.initial in
    (length l.image ≡ length o.image) × (length l.input ≡ length o.input) × TakesSome o.s o.words o.image o.line o.out l.s l.words l.image l.line l.out
