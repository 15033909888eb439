use Rattle.state_words.specs.Decoded.{decoded}
use Rattle.calling.specs.WriteLine.{write_by}
use Rattle.calling.proofs.Asked.{asked-told}
use Rattle.calling.proofs.write.Goals as goal

pub returns : goal.returns
returns c =
    let w = c.write_until in
    let img = c.args.image.now in
    let o = write_by (decoded c.args.words.now) img c.args.count c.args.numbers.now in
    let h = asked-told w.result _ _ o img w.ensures.started in
    record { state = h.0; bytes = h.1; words = w.ensures.words }
