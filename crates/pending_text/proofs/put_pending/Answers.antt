use mathlib.Core.Bool.{true, false}
use mathlib.Core.Path.{◌≡◌, sym, ap, ◌∙◌}
use native.Mathlib.Omega.{arith}
use lib.ListN.{length}
use Rattle.number_text.proofs.Puts.{put_then, put_as, blanked-append, length-blanked}
use Rattle.number_text.specs.Text.{blanked}
use Rattle.operations.specs.Operations.{is_idle}
use Rattle.pending_text.proofs.Lengths.{length-op, idle-zeros}
use Rattle.pending_text.specs.Numbers.{op_numbers, finished_numbers}
use Rattle.state.specs.State.{State}
use Rattle.state_words.specs.Decoded.{decoded}
use Rattle.workbench.specs.Finished.{finished_lines}
use Rattle.pending_text.proofs.put_pending.Lts
use Rattle.pending_text.proofs.put_pending.Tie
use Rattle.pending_text.proofs.put_pending.Reads
use Rattle.pending_text.proofs.put_pending.Goals as goal

abbrev At-Start : Type 0
At-Start = Lts.Start Tie.the-claims Reads.Pre Reads.Post

abbrev At-Else-idle_in : Type 0
At-Else-idle_in = Lts.Else1 Tie.the-claims Reads.Pre Reads.Post

abbrev At-After-op_numbers-numbers : Type 0
At-After-op_numbers-numbers = Lts.After-op_numbers Tie.the-claims Reads.Pre Reads.Post

abbrev st : At-Start → State
st s = decoded s.args.words.now

-- something is pending
busy : (c : At-Else-idle_in) → is_idle (st c.before.before.before).pending.op ≡ false
busy c = sym c.before.idle_in.ensures ∙ c.if-idle_in.false

-- the seven numbers, as the words have them
seven : (c : At-After-op_numbers-numbers) → let p = (st c.before.before.before.before.before.before).pending in c.op_numbers-numbers.result ≡ op_numbers p.op p.made
seven c = rw (c.before.before.op_in-op.ensures, c.before.made_in.ensures) at c.op_numbers-numbers.ensures

length-seven : (c : At-After-op_numbers-numbers) → length c.op_numbers-numbers.result ≡ 7
length-seven c = let p = (st c.before.before.before.before.before.before).pending in ap length (seven c) ∙ length-op p.op p.made

pub returns-then-idle_in : goal.returns-then-idle_in
returns-then-idle_in c =
    let q = (st c.before.before.before.before.before.before.before.before.before.before).pending in
    let idle : is_idle q.op ≡ true = sym c.idle_in.ensures ∙ c.if-idle_in.true in
    put_as (ap blanked (sym (idle-zeros q idle))) c.put_numbers.ensures

pub made_in-requires : goal.made_in-requires
made_in-requires c = busy c.before.before

pub line_in-line-requires : goal.line_in-line-requires
line_in-line-requires c = busy c.before.before.before.before.before.before.before.before.before

pub second_in-second-requires : goal.second_in-second-requires
second_in-second-requires c = busy c.before.before.before.before.before.before.before.before.before.before

pub put_finished-requires : goal.put_finished-requires
put_finished-requires c =
    let first = c.put_numbers-next in
    omega (arith, length-seven c.before.before.before.before.before.before.before.before.before, length-blanked c.op_numbers-numbers.result)

pub returns : goal.returns
returns c =
    let p = (st c.before.before.before.before.before.before.before.before.before.before.before.before.before.before.before.before.before.before.before).pending in
    let lines : c.finished_lines.result ≡ finished_lines p.op = rw c.op_in-op.ensures at c.finished_lines.ensures in
    let two = rw (lines, c.line_in-line.ensures, c.second_in-second.ensures) at c.put_finished.ensures in
    put_as (sym (blanked-append (op_numbers p.op p.made) (finished_numbers (finished_lines p.op) p.line p.second)))
    (put_then (rw (seven c.before.before.before.before.before.before.before.before.before.before.before.before.before) at c.put_numbers-next.ensures) two (omega (arith, length-seven c.before.before.before.before.before.before.before.before.before.before.before.before.before, length-blanked c.op_numbers-numbers.result)))
