use Rattle.refinement.specs.Calls.{free_of}
use Rattle.state_words.specs.Decoded.{decoded}
use Rattle.badgerdross.proofs.Leaving.{starts, keeps}
use Rattle.badgerdross.proofs.room.badgerdross_free_slot.Goals as goal

pub returns : goal.returns
returns c =
    let s = c.args in
    let a = c.free_slot.result in
    let h = c.free_slot.ensures in
    let n = c.number_of.ensures in
    let o = free_of (decoded s.words.now) s.image.now in
    record {
      state = starts a _ n _ _ o s.image.now _ _ c.until_of-u.ensures h.started;
      words = keeps a _ n _ _ h.words;
    }
