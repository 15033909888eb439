use Prim.Native.Nat.{◌≤◌}
use mathlib.Core.Path.{◌≡◌, sym, ap₂, ◌∙◌}
use native.Mathlib.Omega.{arith}
use lib.ListN.{length}
use Rattle.line_calls.proofs.Targets.{read-long}
use Rattle.line_calls.specs.Calls.{line_said}
use Rattle.refinement.specs.Calls.{read_row}
use Rattle.state_words.specs.Decoded.{decoded}
use Rattle.workbench.specs.Turns.{arg}
use Rattle.line_calls.proofs.read_into.Lts
use Rattle.line_calls.proofs.read_into.Tie
use Rattle.line_calls.proofs.read_into.Reads
use Rattle.line_calls.proofs.read_into.Goals as goal

abbrev At-After-number_of : Type 0
At-After-number_of = Lts.After-number_of Tie.the-claims Reads.Pre Reads.Post Tie.handed_clauses

abbrev At-Start : Type 0
At-Start = Lts.Start Tie.the-claims Reads.Pre Reads.Post Tie.handed_clauses

abbrev start : At-After-number_of → At-Start
start c = c.before.before.before.before.before.before.before.before.before.before

-- the number that the read answered
row : (c : At-After-number_of)
    → let a = c.before.before.before.before.before.before.before.before.before.before.args in let n = arg a.line in
    c.number_of.result ≡ read_row (decoded a.words.now) a.image.now (n 0) (n 1) (n 2) a.target.now
row c = c.number_of.ensures ∙ c.before.before.before.read-answer.ensures.number.0

-- a taken read's target has 64 bytes
long : (c : At-After-number_of) → c.number_of.result ≡ 0 → 64 ≤ length c.before.before.before.read-answer.new.target
long c z =
    let a = c.before.before.before.before.before.before.before.before.before.before.args in
    let n = arg a.line in
    let long = read-long (decoded a.words.now) a.image.now (n 0) (n 1) (n 2) a.target.now in
    let h : 64 ≤ length a.target.now = long (sym (row c) ∙ z) in
    omega (arith, c.before.before.before.read-answer.auto.target)

pub said-requires : goal.said-requires
said-requires c = long c.before

pub returns : goal.returns
returns c = c.said.ensures ∙ ap₂ line_said (row c.before.before) c.read-answer.ensures.bytes
