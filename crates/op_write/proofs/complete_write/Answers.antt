use Rattle.state_words.specs.Decoded.{decoded}
use Rattle.op_write.proofs.Held.{write_is_done}
use Rattle.op_write.proofs.complete_write.Goals as goal

pub returns : goal.returns
returns c =
    write_is_done (decoded c.args.words.now) _ _ c.args.w c.args.p c.args.l c.hold_line.ensures c.put_nothing.ensures
