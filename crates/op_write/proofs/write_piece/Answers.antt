use Rattle.state_words.specs.Decoded.{decoded}
use Rattle.op_write.proofs.Held.{write-next}
use Rattle.op_write.proofs.write_piece.Goals as goal

pub returns : goal.returns
returns c =
    let q = c.line_piece.ensures in
    λ img. write-next (decoded c.args.words.now) c.args.p c.args.l c.args.i img c.args.z c.args.next _ _ c.requires.0 c.requires.1 c.line_in-line.ensures c.requires.7 q.piece q.inside
