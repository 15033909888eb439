use Rattle.state_words.proofs.DecodedLaws.{open-put}
use Rattle.state_words.proofs.put_open.Goals as goal

pub returns : goal.returns
returns c = record {
  state = rw c.one_if.ensures (open-put c.args.words.now c.args.w c.args.b c.requires);
  words = rw c.one_if.ensures;
}
