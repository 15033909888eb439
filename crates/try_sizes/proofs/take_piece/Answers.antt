use Prim.Native.Nat.{◌-◌}
use mathlib.Core.Path.{refl, ◌∙◌}
use native.Mathlib.Omega.{arith}
use Rattle.try_sizes.proofs.Going.{takes_none, takes-next, takes_all}
use Rattle.try_sizes.proofs.take_piece.Goals as goal

pub loop-b-init : goal.loop-b-init
loop-b-init c = (omega arith, refl, refl, takes_none c.requires.kept_bound)

pub take_byte-s-requires : goal.take_byte-s-requires
take_byte-s-requires c =
    let inv = c.loop-b.invariant in
    record {
      kept_bound = inv.3.fits;
      line_len = inv.2 ∙ c.requires.line_len;
    }

pub loop-b-preserved : goal.loop-b-preserved
loop-b-preserved c =
    let taken = c.take_byte-s in
    let head = c.loop-b in
    let some = c.loop-b-test.true in
    let piece = c.args.piece.now in (
      omega (arith, some),
      taken.auto.image ∙ head.invariant.1,
      taken.auto.line ∙ head.invariant.2,
      takes-next piece head.b-index head.invariant.3 some taken.ensures,
    )

pub returns : goal.returns
returns c =
    let head = c.loop-b in
    takes_all c.args.piece.now head.b-index head.invariant.3 c.loop-b-test.false
