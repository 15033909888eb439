use Rattle.refinement.specs.Mount.{format_of}
use Rattle.state_words.specs.Decoded.{decoded}
use Rattle.call_mount.specs.Replacing.{replacing}
use Rattle.badgerdross.specs.Left.{sizes_by}
use Rattle.badgerdross.proofs.Leaving.{starts, keeps}
use Rattle.badgerdross.proofs.badgerdross_format.Goals as goal

pub returns : goal.returns
returns c =
    let s = c.args in
    let a = c.format.result in
    let h = c.format.ensures in
    let n = c.number_of.ensures in
    let o = replacing (decoded s.words.now) (format_of (sizes_by s.pages s.slots s.places s.entries) s.image.now) in
    record {
      state = starts a _ n _ _ o s.image.now _ _ c.until_of-u.ensures h.started;
      words = keeps a _ n _ _ h.words;
    }
