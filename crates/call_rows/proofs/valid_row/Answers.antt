use Rattle.refinement.proofs.Going.{ranges-of}
use Rattle.state_words.specs.Decoded.{decoded}
use Rattle.call_rows.proofs.valid_row.Goals as goal

pub image_length-requires : goal.image_length-requires
image_length-requires c = rw c.requires.0 (ranges-of (decoded c.args.words.now) c.requires.1).legal
