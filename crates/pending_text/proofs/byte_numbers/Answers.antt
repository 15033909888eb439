use mathlib.Core.Path.{◌≡◌, sym, ap, ◌∙◌}
use native.Mathlib.Omega.{arith}
use lib.ListN.{get_or}
use lib.Seq.{ext_get_or}
use Rattle.std.proofs.Common.{rules}
use Rattle.words.specs.Words.{bytes_of}
use Rattle.words.proofs.Bytes.{length-bytes, to-eight}
use Rattle.pending_text.proofs.byte_numbers.Goals as goal

pub returns : goal.returns
returns c =
    let long = c.map.ensures.items.long in
    ext_get_or 0 c.map.result (bytes_of 8 c.args.v) (long ∙ sym (length-bytes 8 c.args.v))
    (λ i h.
    let at = c.map.ensures.items.at i 0 0 (omega (arith, h, long)) in
    let here : get_or c.map.result i 0 ≡ get_or c.to_le_bytes.result i 0 = (search rules) in
    here ∙ ap (λ (l : _). get_or l i 0) (c.to_le_bytes.ensures ∙ to-eight c.args.v))
