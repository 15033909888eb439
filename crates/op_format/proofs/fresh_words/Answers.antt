use Rattle.op_format.proofs.FormatPieces.{eight-fresh}
use Rattle.op_format.proofs.fresh_words.Goals as goal

pub returns : goal.returns
returns c =
    eight-fresh c.args.z c.args.a c.fresh_word.ensures c.fresh_word-2.ensures c.fresh_word-3.ensures c.fresh_word-4.ensures c.fresh_word-5.ensures c.fresh_word-6.ensures c.fresh_word-7.ensures c.fresh_word-8.ensures
