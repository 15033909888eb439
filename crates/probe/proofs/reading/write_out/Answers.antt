use Rattle.std.proofs.Common.{sym, length-take-le}
use Rattle.probe.proofs.reading.write_out.Goals as goal

pub slice_bounds-write_all-end : goal.slice_bounds-write_all-end
slice_bounds-write_all-end c = sym (length-take-le _ _ c.if-n-out.false)
