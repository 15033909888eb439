use mathlib.Core.Path.{sym}
use lib.ListN.{replicate}
use lib.Seq.{length-take-le}
use Rattle.reasons.proofs.Printable.{inside-told}
use Rattle.reasons_shown.proofs.met.tell.Goals as goal

-- What is composed lies in the target.
pub slice_bounds-target-end : goal.slice_bounds-target-end
slice_bounds-target-end c = (inside-told c.met-reason.result (replicate 200 0) c.compose.ensures.value c.compose.ensures.target_after).fits _ c.in-Ok.is

pub slice_bounds-write_both-end : goal.slice_bounds-write_both-end
slice_bounds-write_both-end c =
    sym (length-take-le _ _ ((inside-told c.met-reason.result (replicate 200 0) c.compose.ensures.value c.compose.ensures.target_after).fits _ c.in-Ok.is))
