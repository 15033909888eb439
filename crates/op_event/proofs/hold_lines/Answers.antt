use mathlib.Core.Path.{◌≡◌, sym, ap, ◌∙◌}
use native.Mathlib.Omega.{arith}
use Rattle.meters.proofs.MeterLaws.{first-low, own_range}
use Rattle.state.specs.State.{State}
use Rattle.state_words.specs.Decoded.{decoded}
use Rattle.op_write.specs.LineHeld.{line_held}
use Rattle.op_event.specs.LinesHeld.{begun}
use Rattle.op_event.proofs.Lines.{one_line, two-lines, next-held}
use Rattle.op_event.proofs.hold_lines.Lts
use Rattle.op_event.proofs.hold_lines.Tie
use Rattle.op_event.proofs.hold_lines.Reads
use Rattle.op_event.proofs.hold_lines.Goals as goal

abbrev At-After-hold_line : Type 0
At-After-hold_line = Lts.After-hold_line Tie.the-claims Reads.Pre Reads.Post Tie.handed_clauses

-- the state with the first line held
first : (c : At-After-hold_line) → decoded c.hold_line.new.words ≡ line_held (begun (decoded c.args.words.now)) 1 0 c.first_meter.result
first c = c.hold_line.ensures ∙ ap (λ (u : State). line_held u 1 0 c.first_meter.result) c.put_open.ensures.state

pub hold_line-requires : goal.hold_line-requires
hold_line-requires c =
    let e = c.put_open.ensures.state in
    (c.requires.0 ∙ sym (ap (λ (u : State). u.sizes) e), c.requires.1, rw e c.requires.2, omega arith, omega arith, omega (arith, first-low c.args.kind c.args.meter c.requires.3, c.first_meter.ensures))

pub returns-then-not-moves_credit : goal.returns-then-not-moves_credit
returns-then-not-moves_credit c =
    one_line (decoded c.args.words.now) _ c.args.kind c.args.meter _ (sym c.moves_credit.ensures ∙ c.if-not-moves_credit.true) c.first_meter.ensures (first c.before.before)

pub hold_line-requires-2 : goal.hold_line-requires-2
hold_line-requires-2 c =
    let e = first c.before.before.before.before in
    (c.requires.0 ∙ sym (ap (λ (u : State). u.sizes) e), c.requires.1, next-held (begun (decoded c.args.words.now)) _ c.args.z _ c.requires.0 c.requires.1 c.requires.2 e, omega arith, omega arith, omega (arith, (own_range c.args.kind c.args.meter c.requires.3).1, c.own_meter.ensures))

pub returns : goal.returns
returns c =
    two-lines (decoded c.args.words.now) _ _ c.args.kind c.args.meter _ _ (sym c.moves_credit.ensures ∙ c.if-not-moves_credit.false) c.first_meter.ensures c.own_meter.ensures (first c.before.before.before.before.before) c.hold_line-2.ensures
