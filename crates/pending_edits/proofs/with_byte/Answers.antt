use mathlib.Core.Path.{◌∙◌}
use Rattle.pending_edits.proofs.LineByte.{line-byte}
use Rattle.pending_edits.proofs.with_byte.Goals as goal

pub returns : goal.returns
returns c = c.from_le_bytes.ensures ∙ line-byte c.to_le_bytes-bytes.result _ _ _ c.to_le_bytes-bytes.ensures
