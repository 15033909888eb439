use Rattle.trials.proofs.Playing.{round-done, round-abandoned}
use Rattle.trials.proofs.rounds.play.Goals as goal

pub returns-then-last-eq0 : goal.returns-then-last-eq0
returns-then-last-eq0 c =
    let last = c.commit_written-last in
    let written = c.put_pages-written in
    let begun = c.make-begun in
    let a = c.args in
    round-done a.pages.now a.byte _ _ _ _ begun.ensures written.ensures last.ensures c.if-last-eq0.true _ c.one_more.ensures

pub returns : goal.returns
returns c =
    let last = c.commit_written-last in
    let written = c.put_pages-written in
    let begun = c.make-begun in
    let a = c.args in
    round-abandoned a.pages.now a.byte _ _ _ _ begun.ensures written.ensures last.ensures
    c.if-last-eq0.false _ c.make-closed.ensures _ c.one_more-2.ensures
