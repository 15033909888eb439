use mathlib.Core.Path.{ap, ◌∙◌}
use Rattle.words.specs.Words.{word}
use Rattle.replay.specs.Map.{page_frames}
use Rattle.names.specs.Homes.{originals_put}
use Rattle.names.proofs.Homes.{homes}
use Rattle.names.proofs.put_homes.Goals as goal

-- The originals over the page-table words are the homes, since no page is in two slots.
pub returns : goal.returns
returns c =
    let x = c.args in
    c.put_originals.ensures
    ∙ ap (originals_put x.z x.t.page x.t.original x.z.slots) c.put_words.ensures
    ∙ homes (page_frames (word x.image.now)) x.z x.t c.requires.0 c.requires.3
