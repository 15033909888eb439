use Rattle.refinement.specs.Calls.{prepare_of}
use Rattle.state_words.specs.Decoded.{decoded}
use Rattle.badgerdross.proofs.Leaving.{starts, keeps}
use Rattle.badgerdross.proofs.round.badgerdross_prepare.Goals as goal

pub returns : goal.returns
returns c =
    let s = c.args in
    let a = c.prepare.result in
    let h = c.prepare.ensures in
    let n = c.number_of.ensures in
    let o = prepare_of (decoded s.words.now) s.image.now s.writer in
    record {
      state = starts a _ n _ _ o s.image.now _ _ c.until_of-u.ensures h.started;
      words = keeps a _ n _ _ h.words;
    }
