use Rattle.cutting.specs.Feeding.{fed}
use Rattle.probe.proofs.reading.read_piece.Goals as goal

pub returns-then-n-eq0 : goal.returns-then-n-eq0
unfolding fed
returns-then-n-eq0 c =
    (0, λ f h. record { bench = h.bench; buffer = h.buffer; lines = h.lines; waiting = h.waiting; begun = h.begun; unwritten = h.unwritten })

pub returns : goal.returns
returns c = (c.read_some-n.result, c.perform_piece.ensures)
