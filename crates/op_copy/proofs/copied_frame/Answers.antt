use Rattle.state_words.specs.Decoded.{decoded}
use Rattle.op_copy.proofs.CopiedFrame.{copied-slotted, copied-plain}
use Rattle.state.specs.State.{own_frame}
use Rattle.op_copy.proofs.copied_frame.Goals as goal

pub returns-then-s-z : goal.returns-then-s-z
returns-then-s-z c = let st = decoded c.args.words.now in
    copied-slotted (own_frame st) c.args.z st.table c.args.key _ _ c.slot_of-s.ensures _ c.if-s-z.true c.slot_at-t.ensures c.committed_frame.ensures

pub returns : goal.returns
returns c = let st = decoded c.args.words.now in
    copied-plain (own_frame st) c.args.z st.table c.args.key _ _ c.slot_of-s.ensures c.if-s-z.false c.entry_at.ensures
