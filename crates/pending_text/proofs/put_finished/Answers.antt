use mathlib.Core.List.{append-nil}
use mathlib.Core.Path.{sym, ap}
use native.Mathlib.Omega.{arith}
use borrow.Author.Tests.{ne_eqb}
use Rattle.number_text.specs.Text.{blanked}
use Rattle.number_text.proofs.Puts.{put-none, put_then, put_as, blanked-append, length-blanked}
use Rattle.pending_text.specs.Numbers.{line_numbers}
use Rattle.pending_text.proofs.Lengths.{line-long}
use Rattle.pending_text.proofs.put_finished.Goals as goal

pub returns-then-n-eq0 : goal.returns-then-n-eq0
unfolding blanked
returns-then-n-eq0 c = let a = c.args in rw c.if-n-eq0.true (put-none a.out.now a.at)

pub returns-then-n-eq1 : goal.returns-then-n-eq1
returns-then-n-eq1 c = rw (ne_eqb _ _ c.if-n-eq0.false, c.if-n-eq1.true) (put_as (ap blanked (sym (append-nil (line_numbers c.args.line)))) c.put_line-next.ensures)

pub put_line-requires : goal.put_line-requires
put_line-requires c =
    let first = c.put_line-next in
    omega (arith, length-blanked (line_numbers c.args.line), line-long c.args.line)

pub returns : goal.returns
returns c =
    let first = c.put_line-next in
    let line = line_numbers c.args.line in
    let room = length-blanked line in
    let long = line-long c.args.line in
    rw (ne_eqb _ _ c.if-n-eq0.false, ne_eqb _ _ c.if-n-eq1.false)
    (put_as (sym (blanked-append line (line_numbers c.args.second))) (put_then first.ensures c.put_line.ensures (omega arith)))
