use mathlib.Core.Path.{sym}
use native.Mathlib.Omega.{arith}
use lib.Seq.{length-take-le}
use Rattle.wear_by_frame.proofs.main.Goals as goal

pub slice_bounds-write_all-end : goal.slice_bounds-write_all-end
slice_bounds-write_all-end c =
    let kept = c.respond-n.auto.out in
    sym (length-take-le _ _ (omega (arith, kept, c.if-n-le462.true)))
