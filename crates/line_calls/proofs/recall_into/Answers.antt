use Prim.Native.Nat.{◌≤◌}
use mathlib.Core.Path.{◌≡◌, sym, ap₂, ◌∙◌}
use native.Mathlib.Omega.{arith}
use lib.ListN.{length}
use Rattle.line_calls.proofs.Targets.{recall-long}
use Rattle.line_calls.specs.Calls.{line_said}
use Rattle.workbench.specs.Turns.{arg}
use Rattle.line_calls.proofs.recall_into.Lts
use Rattle.line_calls.proofs.recall_into.Tie
use Rattle.line_calls.proofs.recall_into.Reads
use Rattle.line_calls.proofs.recall_into.Goals as goal

abbrev At-After-recall-number : Type 0
At-After-recall-number = Lts.After-recall Tie.the-claims Reads.Pre Reads.Post Tie.handed_clauses

-- a taken recall's target has 64 bytes
long : (c : At-After-recall-number) → c.recall-number.result ≡ 0 → 64 ≤ length c.recall-number.new.target
long c z =
    let a = c.before.before.before.before.before.before.args in
    let h : 64 ≤ length a.target.now = recall-long a.image.now (arg a.line 0) (arg a.line 1) a.target.now (sym c.recall-number.ensures.number ∙ z) in
    omega (arith, c.recall-number.auto.target)

pub said-requires : goal.said-requires
said-requires c = long c.before.before.before

pub returns : goal.returns
returns c =
    let r = c.recall-number in
    c.said.ensures ∙ ap₂ line_said r.ensures.number r.ensures.bytes
