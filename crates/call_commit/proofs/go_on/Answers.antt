use mathlib.Core.Path.{◌∙◌}
use Rattle.state.specs.State.{State}
use Rattle.state_words.specs.Decoded.{decoded}
use Rattle.call_commit.proofs.Committing.{piece-leans, last_made, some-made}
use Rattle.call_commit.proofs.go_on.Lts
use Rattle.call_commit.proofs.go_on.Tie
use Rattle.call_commit.proofs.go_on.Reads
use Rattle.call_commit.proofs.go_on.Goals as goal

abbrev At-Start : Type 0
At-Start = Lts.Start Tie.the-claims Reads.Pre Reads.Post Tie.handed_clauses

abbrev st : At-Start → State
st s = decoded s.args.words.now

pub complete_commit-requires : goal.complete_commit-requires
complete_commit-requires c =
    let g = c.requires.0.served in
    let h = piece-leans c.args.z c.args.at (st c.before.before.before.before.before.before.before.before) c.args.w c.args.c c.requires.0 in
    let low = h.1 in
    (g.sizes, h.0, rw g.places at low, h.3)

pub returns-then-n-all : goal.returns-then-n-all
returns-then-n-all c =
    record {
      image = c.store_commit.ensures;
      words = c.complete_commit.ensures ∙ last_made c.args.z c.args.at (st c.before.before.before.before.before.before.before.before.before) c.args.w c.args.c c.requires.0 c.args.n c.args.all c.requires.1 c.if-n-all.true;
    }

pub returns : goal.returns
returns c =
    record {
      image = c.store_commit.ensures;
      words = c.put_made.ensures ∙ some-made c.args.z c.args.at (st c.before.before.before.before.before.before.before.before.before) c.args.w c.args.c c.requires.0 c.args.n c.args.all c.requires.1 c.if-n-all.false;
    }
