use Rattle.wear.proofs.shares.format_ends.Goals as goal

pub returns : goal.returns
returns c = rw (c.slot_word.ensures, c.padding_word.ensures, c.frame_word.ensures, c.entry_word-end.ensures)
