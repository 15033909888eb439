use Rattle.trial_lines.specs.Lines.{work_of}
use Rattle.trial_lines.proofs.Taken.{setting-none, setting-given}
use Rattle.trial_lines.proofs.take_setting.Goals as goal

pub returns-then-q-ne3 : goal.returns-then-q-ne3
returns-then-q-ne3 c =
    let q = c.parse-q in
    let a = c.args in
    setting-none q.result _ (work_of a.s a.words.now a.image.now) q.ensures c.if-q-ne3.true

pub returns : goal.returns
returns c =
    let q = c.parse-q in
    let a = c.args in
    setting-given q.result _ (work_of a.s a.words.now a.image.now) q.ensures c.if-q-ne3.false _ c.start-trial.ensures
