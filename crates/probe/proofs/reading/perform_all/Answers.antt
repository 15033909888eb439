use Rattle.probe.proofs.reading.perform_all.Goals as goal

pub returns : goal.returns
returns c =
    let (bytes, takes) = c.read_all-s.ensures in
    let a = c.args in
    let state = c.put_first.ensures in
    let shows = c.started.ensures a.buffer.now _ a.line.now a.out.now _ state c.first.ensures in
    (bytes, c.perform_last.ensures _ (takes _ shows))
