use mathlib.Core.Path.{sym}
use lib.ListN.{replicate}
use lib.Seq.{length-take-le}
use Rattle.reasons.proofs.Printable.{inside-told}
use Rattle.reasons_shown.proofs.samples.show.Goals as goal

-- What is composed lies in the target.
pub slice_bounds-target-end : goal.slice_bounds-target-end
slice_bounds-target-end c = (inside-told c.args.reason (replicate 200 126) c.compose-2.ensures.value c.compose-2.ensures.target_after).fits _ c.in-Ok.is

pub slice_bounds-text-end : goal.slice_bounds-text-end
slice_bounds-text-end c =
    sym (length-take-le _ _ ((inside-told c.args.reason (replicate 200 126) c.compose-2.ensures.value c.compose-2.ensures.target_after).fits _ c.in-Ok.is))
