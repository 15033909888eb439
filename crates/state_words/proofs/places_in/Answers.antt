use Rattle.state_words.proofs.DecodedLaws.{places-read}
use Rattle.state_words.proofs.places_in.Goals as goal

pub returns : goal.returns
returns c = places-read c.args.words.now
