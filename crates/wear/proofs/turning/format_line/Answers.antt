use Rattle.std.proofs.Common.{sym, subst}
use Rattle.wear.specs.Shares.{Rising}
use Rattle.wear.proofs.Laid.{rising-format}
use Rattle.wear.proofs.Performed.{refused, sizes-legal, made}
use Rattle.wear.proofs.turning.format_line.Goals as goal

pub returns-then-number-ne0 : goal.returns-then-number-ne0
returns-then-number-ne0 c =
    refused c.args.m c.args.words.now c.args.image.now c.args.z c.format-answer.result _ _ _ c.format-answer.ensures.started c.number_of-number.ensures c.args.counts.now c.if-number-ne0.true

pub format_ends-requires : goal.format_ends-requires
format_ends-requires c =
    sizes-legal c.args.m c.args.words.now c.args.image.now c.args.z c.format-answer.result _ _ _ c.format-answer.ensures.started c.number_of-number.ensures c.if-number-ne0.false

pub count-requires : goal.count-requires
count-requires c =
    (c.requires, subst Rising (sym c.format_ends.ensures) (rising-format c.args.z (sizes-legal c.args.m c.args.words.now c.args.image.now c.args.z c.format-answer.result _ _ _ c.format-answer.ensures.started c.number_of-number.ensures c.if-number-ne0.false)))

pub returns : goal.returns
returns c =
    made c.args.m c.args.words.now c.args.image.now c.args.z c.format-answer.result _ _ _ c.format-answer.ensures.started c.number_of-number.ensures c.if-number-ne0.false c.finish-t.result _ _ c.args.counts.now _ _ _ c.finish-t.ensures c.stores_in.ensures c.requires
    c.format_ends.ensures c.count.ensures
