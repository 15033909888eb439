use Rattle.std.proofs.Common.{refl}
use Rattle.powerhit.proofs.Going.{goes-more}
use Rattle.powerhit.proofs.read_piece.Goals as goal

pub returns : goal.returns
returns c =
    record { count = c.read_some-n.result; goes = goes-more _ c.perform_piece-next.ensures; more = refl }
