use mathlib.Core.Bool.{Bool, ◌&&◌}
use mathlib.Core.Path.{ap}
use lib.Dec.{ltb}
use Rattle.try_sizes.proofs.Going.{takes-more}
use Rattle.try_sizes.proofs.read_piece.Goals as goal

pub take_piece-next-requires : goal.take_piece-next-requires
take_piece-next-requires c =
    record {
      kept_bound = c.requires.kept_bound;
      line_len = c.requires.line_len;
    }

pub returns : goal.returns
returns c =
    let n = c.read_some-n.result in
    let taken = c.take_piece-next in
    record { count = n; goes = takes-more _ taken.ensures; more = ap (λ (b : Bool). ltb 0 n && b) c.reads_on.ensures }
