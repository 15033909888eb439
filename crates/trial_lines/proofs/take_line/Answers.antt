use Rattle.trial_lines.specs.Lines.{work_of}
use Rattle.trial_lines.proofs.Taken.{acted-first, acted-unread, acted-round, unread-low}
use Rattle.trial_lines.proofs.take_line.Goals as goal

pub returns-then-s-eq0 : goal.returns-then-s-eq0
returns-then-s-eq0 c =
    let a = c.args in
    acted-first _ (work_of a.s a.words.now a.image.now) c.if-s-eq0.true _ c.take_setting.ensures

pub returns-then-s : goal.returns-then-s
returns-then-s c =
    let a = c.args in
    acted-unread _ (work_of a.s a.words.now a.image.now) c.if-s-eq0.false c.if-s.true

pub take_round-requires : goal.take_round-requires
take_round-requires c =
    let a = c.args in
    unread-low a.s.set a.s.lines c.if-s.false

pub returns : goal.returns
returns c =
    let a = c.args in
    let first = c.if-s-eq0.false in
    acted-round _ (work_of a.s a.words.now a.image.now) first c.if-s.false _ c.take_round.ensures
