use mathlib.Core.Path.{◌∙◌}
use Rattle.try_sizes.proofs.Going.{responds}
use Rattle.try_sizes.proofs.respond.Goals as goal

pub read_all-read-requires : goal.read_all-read-requires
read_all-read-requires c =
    let first = c.begin-first in
    let size = c.requires.line_len in
    record {
      kept_bound = first.ensures.fits;
      line_len = first.auto.line ∙ size;
    }

pub take_last-last-requires : goal.take_last-last-requires
take_last-last-requires c =
    let read = c.read_all-read in
    let first = c.begin-first in
    let size = c.requires.line_len in
    record {
      kept_bound = read.ensures.goes.fits;
      line_len = read.auto.line ∙ (first.auto.line ∙ size);
    }

pub put_response-requires : goal.put_response-requires
put_response-requires c = c.requires.in_bounds

pub returns : goal.returns
returns c =
    let image = c.args.image.now in
    let first = c.begin-first in
    let read = c.read_all-read in
    let last = c.take_last-last in
    responds (first.ensures.shows image) read.ensures last.ensures c.put_response.ensures
