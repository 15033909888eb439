use Rattle.pending_edits.proofs.LineByte.{byte_put}
use Rattle.pending_edits.proofs.put_line_byte.Goals as goal

pub returns : goal.returns
returns c =
    rw c.with_byte.ensures (byte_put c.args.words.now c.requires.1 c.args.i c.args.v c.requires.0)
