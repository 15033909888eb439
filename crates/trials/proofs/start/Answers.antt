use Rattle.trials.proofs.Playing.{format-told}
use Rattle.trials.proofs.start.Goals as goal

pub returns : goal.returns
returns c =
    let f = c.format_whole-answer in
    let a = c.args in
    let t = c.nothing_tried-t in
    format-told a.z f.result a.words.now a.image.now _ _ _ t.result t.ensures f.ensures.state f.ensures.bytes c.number_of.ensures
