use native.Mathlib.Omega.{arith}
use Rattle.number_text.proofs.Puts.{put_then}
use Rattle.printing.proofs.Puts.{as-put}
use Rattle.state_words.specs.Decoded.{decoded}
use Rattle.state_text.proofs.Lengths.{state-text}
use Rattle.reporting.proofs.Texts.{start-text}
use Rattle.reporting.proofs.put_numbered.Goals as goal

pub put_state-next-requires : goal.put_state-next-requires
put_state-next-requires c =
    let start = c.put_start-next in
    let e = start-text c.args.n c.args.letter 0 in
    omega arith

pub put_byte-requires : goal.put_byte-requires
put_byte-requires c =
    let start = c.put_start-next in
    let last = c.put_state-next in
    let e = start-text c.args.n c.args.letter 0 in
    let d = state-text (decoded c.args.words.now) in
    omega arith

pub returns : goal.returns
returns c =
    let start = c.put_start-next in
    let last = c.put_state-next in
    let end = c.put_byte in
    let e = start-text c.args.n c.args.letter 0 in
    let d = state-text (decoded c.args.words.now) in
    put_then start.ensures (put_then last.ensures (as-put (end.ensures.target_after, end.ensures.value)) (omega arith)) (omega arith)
