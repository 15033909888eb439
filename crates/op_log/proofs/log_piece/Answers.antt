use mathlib.Core.Path.{◌≡◌}
use native.Mathlib.Omega.{arith}
use Rattle.state.specs.State.{State}
use Rattle.state.specs.Wide.{entry_for}
use Rattle.state_words.specs.Decoded.{decoded}
use Rattle.op_log.proofs.LogPieces.{key-piece, line-piece}
use Rattle.op_log.proofs.log_piece.Lts
use Rattle.op_log.proofs.log_piece.Tie
use Rattle.op_log.proofs.log_piece.Reads
use Rattle.op_log.proofs.log_piece.Goals as goal

abbrev At-Start : Type 0
At-Start = Lts.Start Tie.the-claims Reads.Pre Reads.Post

abbrev At-After-find_entry-e : Type 0
At-After-find_entry-e = Lts.After-find_entry Tie.the-claims Reads.Pre Reads.Post

abbrev st : At-Start → State
st s = decoded s.args.words.now

entry : (c : At-After-find_entry-e) → c.find_entry-e.result ≡ entry_for (st c.before).wide c.before.args.p c.before.args.l
entry c = rw c.before.requires.1 at c.find_entry-e.ensures

pub entry_word-at-requires : goal.entry_word-at-requires
entry_word-at-requires c =
    (c.requires.2, omega (arith, entry c, c.requires.4))

pub returns-then-i-eq0 : goal.returns-then-i-eq0
returns-then-i-eq0 c =
    λ img. key-piece c.args.z (st c.before.before.before.before) c.args.count c.args.p c.args.l c.args.i _ _ c.requires.0 c.requires.1 c.find_entry-e.ensures c.entry_word-at.ensures c.requires.4 img _ c.if-i-eq0.true c.one.ensures

pub overflow_add-at : goal.overflow_add-at
overflow_add-at c =
    omega (arith, c.entry_word-at.ensures, entry c.before.before.before, c.requires.4, c.requires.2)

pub returns : goal.returns
returns c =
    λ img. line-piece c.args.z (st c.before.before.before.before.before.before) c.args.count c.args.p c.args.l c.args.i _ _ c.requires.0 c.requires.1 c.find_entry-e.ensures c.entry_word-at.ensures c.requires.4 img _ c.if-i-eq0.false c.requires.7 _ c.line_in-line.ensures c.of_line.ensures
