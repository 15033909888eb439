use mathlib.Core.Path.{refl}
use Rattle.wear_by_frame.proofs.Going.{takes-more}
use Rattle.wear_by_frame.proofs.read_piece.Goals as goal

pub take_piece-next-requires : goal.take_piece-next-requires
take_piece-next-requires c =
    record {
      sound = c.requires.sound;
      counts_len = c.requires.counts_len;
    }

pub returns : goal.returns
returns c =
    let taken = c.take_piece-next in
    let n = c.read_some-n.result in
    record { count = n; goes = takes-more _ taken.ensures; more = refl }
