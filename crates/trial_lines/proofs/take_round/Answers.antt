use mathlib.Core.Path.{sym}
use lib.Seq.{length-take-le}
use Rattle.trial_lines.specs.Lines.{work_of}
use Rattle.trial_lines.proofs.Taken.{round-none, round-given, few-pages, pages-room}
use Rattle.trial_lines.proofs.take_round.Goals as goal

pub returns-then-count : goal.returns-then-count
returns-then-count c =
    let q = c.parse-q in
    let a = c.args in
    let none = c.abandon-next.ensures a.words.now a.image.now in
    round-none q.result _ (work_of a.s a.words.now a.image.now) q.ensures c.if-count.true _ none

pub slice_bounds-numbers-end : goal.slice_bounds-numbers-end
slice_bounds-numbers-end c =
    let q = c.parse-q in
    few-pages _ _ c.if-count.false (pages-room _ _ q.ensures)

pub slice_bounds-play-end : goal.slice_bounds-play-end
slice_bounds-play-end c =
    let q = c.parse-q in
    sym (length-take-le _ _ (few-pages _ _ c.if-count.false (pages-room _ _ q.ensures)))

pub returns : goal.returns
returns c =
    let q = c.parse-q in
    let a = c.args in
    let some = c.if-count.false in
    round-given q.result _ (work_of a.s a.words.now a.image.now) q.ensures some _ c.play-next.ensures
