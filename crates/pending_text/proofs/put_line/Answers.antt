use mathlib.Core.Path.{◌≡◌, ap, ◌∙◌}
use native.Mathlib.Omega.{arith}
use lib.ListN.{length}
use Rattle.words.proofs.Bytes.{length-bytes}
use Rattle.number_text.proofs.Puts.{each_none, each_at, each_turn, each-end}
use Rattle.pending_text.specs.Numbers.{line_bytes}
use Rattle.pending_text.proofs.Lengths.{line-bytes}
use Rattle.pending_text.proofs.put_line.Goals as goal

pub loop-word-init : goal.loop-word-init
loop-word-init c = each_none c.args.out.now c.args.at (line_bytes c.args.line)

pub put_numbers-next-requires : goal.put_numbers-next-requires
put_numbers-next-requires c =
    let l = c.loop-word in
    let eight : length c.byte_numbers-bytes.result ≡ 8 = ap length c.byte_numbers-bytes.ensures ∙ length-bytes 8 _ in
    omega (arith, c.requires, c.loop-word-test.true, l.auto.out, each_at (line_bytes c.args.line) l.word-index l.invariant 8 (line-bytes c.args.line))

pub loop-word-preserved : goal.loop-word-preserved
loop-word-preserved c =
    let l = c.loop-word in
    let f = line_bytes c.args.line in
    let here = each_at f l.word-index l.invariant 8 (line-bytes c.args.line) in
    each_turn f l.word-index l.invariant (rw c.byte_numbers-bytes.ensures at c.put_numbers-next.ensures) (omega (arith, c.requires, c.loop-word-test.true, here))

pub returns : goal.returns
returns c =
    let l = c.loop-word in
    each-end (line_bytes c.args.line) l.word-index l.invariant 8 l.auto.word-index-end c.loop-word-test.false
