use Prim.Native.Nat.{◌-◌}
use mathlib.Core.Path.{refl, ◌∙◌}
use native.Mathlib.Omega.{arith}
use lib.ListN.{length-set}
use Rattle.sequence_runs.proofs.Performed.{reached-more, reached-end}
use Rattle.sequence_runs.proofs.turns.perform.Goals as goal

pub loop-i-init : goal.loop-i-init
loop-i-init c = (omega arith, refl, refl, refl)

pub loop-i-preserved : goal.loop-i-preserved
loop-i-preserved c =
    let some = c.loop-i-test.true in (
      omega (arith, some),
      c.turn-t.auto.image ∙ c.loop-i.invariant.1,
      length-set c.loop-i.answers c.loop-i.i c.turn-t.result.number ∙ c.loop-i.invariant.2,
      reached-more c.args.k c.args.numbers.now c.loop-i.i c.loop-i.answers c.loop-i.needed c.loop-i.words c.loop-i.image _ c.turn-t.result _ _
          some (omega (arith, some, c.loop-i.invariant.2, c.requires)) c.turn-t.ensures c.loop-i.invariant.3,
    )

pub returns : goal.returns
returns c =
    let h = c.loop-i in
    let all = reached-end c.args.k c.args.numbers.now h.i h.answers h.needed h.words h.image _
    (omega (arith, c.loop-i-test.false)) (h.invariant.2 ∙ c.requires) h.invariant.3 in
    record { needed = all.0; bytes = all.1.0; answers = all.1.1 }
