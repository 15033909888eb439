use Rattle.badgerdross.proofs.Leaving.{plays}
use Rattle.badgerdross.proofs.whole.badgerdross_round.Goals as goal

pub returns : goal.returns
returns c =
    let s = c.args in
    record { round = plays c.play-played.result _ _ _ _ s.writer s.writes.now s.«data».now _ c.room_of.ensures c.play-played.ensures }
