use mathlib.Core.Path.{◌∙◌}
use Rattle.wear_by_frame.proofs.Going.{responds}
use Rattle.wear_by_frame.proofs.respond.Goals as goal

pub take_last-requires : goal.take_last-requires
take_last-requires c =
    let read = c.read_all-read in
    record {
      sound = read.ensures.goes.sound;
      counts_len = (read.auto.counts, read.auto.line ∙ c.requires.line_len);
    }

pub put_response-requires : goal.put_response-requires
put_response-requires c =
    let last = c.take_last in
    let read = c.read_all-read in
    (last.auto.counts ∙ read.auto.counts, c.requires.in_bounds)

pub returns : goal.returns
returns c =
    let put = c.put_response in
    let last = c.take_last in
    let read = c.read_all-read in
    let first = c.begin-first in
    responds (first.ensures.shows c.args.line.now) read.ensures last.ensures put.ensures
