use Rattle.sequence_runs.proofs.Performed.{played}
use Rattle.sequence_runs.proofs.play.Goals as goal

pub returns : goal.returns
returns c =
    let a = c.args in
    let p = c.perform-needed.ensures in
    let both = played a.k a.numbers.now c.format_whole.result _ _ c.blank-image.result _ _ _ _ _ _
    c.blank-image.ensures c.format_whole.ensures.state c.format_whole.ensures.bytes (p.needed, (p.bytes, p.answers))
    c.first_byte.ensures c.first_byte-2.ensures in
    record { played = both.0; answers = both.1 }
