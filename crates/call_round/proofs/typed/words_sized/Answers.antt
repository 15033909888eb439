use Rattle.call_round.proofs.Lengths.{words-sized}
use Rattle.call_round.proofs.typed.words_sized.Goals as goal

pub returns : goal.returns
returns c = words-sized _ c.all_words.ensures c.all_low.ensures
