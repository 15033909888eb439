use Rattle.refinement.specs.Calls.{event_of}
use Rattle.state_words.specs.Decoded.{decoded}
use Rattle.badgerdross.proofs.Leaving.{starts, keeps}
use Rattle.badgerdross.proofs.events.badgerdross_event.Goals as goal

pub returns : goal.returns
returns c =
    let s = c.args in
    let a = c.event.result in
    let h = c.event.ensures in
    let n = c.number_of.ensures in
    let o = event_of (decoded s.words.now) s.image.now s.moduli.now s.kind s.meter s.amount in
    record {
      state = starts a _ n _ _ o s.image.now _ _ c.until_of-u.ensures h.started;
      words = keeps a _ n _ _ h.words;
    }
