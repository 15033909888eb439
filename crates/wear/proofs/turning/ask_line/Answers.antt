use Rattle.std.proofs.Common.{sym, ◌∙◌, subst}
use Rattle.wear.specs.Shares.{Rising}
use Rattle.wear.proofs.Asked.{asked-rising}
use Rattle.wear.proofs.Performed.{call_none, call-legal, call-some}
use Rattle.wear.proofs.turning.ask_line.Goals as goal

pub returns-then-made-eq0 : goal.returns-then-made-eq0
returns-then-made-eq0 c =
    call_none c.args.words.now c.args.image.now c.requires.narrow c.args.a c.args.line c.args.m.cut c.ask-answer.result _ _ c.ask-answer.ensures c.finish-t.result _ _ c.finish-t.ensures _ c.stores_in-made.ensures c.args.counts.now c.if-made-eq0.true

pub frame_of-requires : goal.frame_of-requires
frame_of-requires c =
    call-legal c.args.words.now c.args.image.now c.requires.narrow c.args.a c.args.line c.args.m.cut c.ask-answer.result _ _ c.ask-answer.ensures c.finish-t.result _ _ c.finish-t.ensures _ c.stores_in-made.ensures c.if-made-eq0.false _ c.sizes_in-z.ensures

pub count-requires : goal.count-requires
count-requires c =
    (c.requires.counts_len, subst Rising (sym c.asked_ends-e.ensures) (asked-rising c.args.a _ _))

pub shape_of-image : goal.shape_of-image
shape_of-image c =
    c.finish-t.auto.image ∙ c.ask-answer.auto.image

pub returns : goal.returns
returns c =
    call-some c.args.words.now c.args.image.now c.requires.narrow c.args.a c.args.line c.args.m.cut c.ask-answer.result _ _ c.ask-answer.ensures c.finish-t.result _ _ c.finish-t.ensures _ c.stores_in-made.ensures c.if-made-eq0.false _ c.next_word-first.result _ _ _ _ c.args.counts.now _
    c.sizes_in-z.ensures c.next_word-first.ensures c.stores_of.ensures c.frame_of.ensures c.asked_ends-e.ensures
    c.is_write.ensures c.requires.counts_len c.count.ensures
