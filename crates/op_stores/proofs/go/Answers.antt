use borrow.Author.Rules.{rules}
use Prim.Native.Nat.{◌+◌, ◌^◌, ◌<◌, ◌≤◌}
use mathlib.Core.Path.{◌∙◌}
use native.Mathlib.Omega.{arith}
use Rattle.state.specs.State.{State}
use Rattle.operations.specs.Operations.{needs as needs_of}
use Rattle.state_words.specs.Decoded.{decoded}
use Rattle.op_stores.proofs.Leaning.{needs-leans, within, after_last, after-some}
use Rattle.op_stores.proofs.go.Lts
use Rattle.op_stores.proofs.go.Tie
use Rattle.op_stores.proofs.go.Reads
use Rattle.op_stores.proofs.go.Goals as goal

abbrev At-Start : Type 0
At-Start = Lts.Start Tie.the-claims Reads.Pre Reads.Post Tie.handed_clauses

abbrev At-After-op_needs-all : Type 0
At-After-op_needs-all = Lts.After-op_needs Tie.the-claims Reads.Pre Reads.Post Tie.handed_clauses

abbrev st : At-Start → State
st s = decoded s.args.words.now

pub op_needs-all-requires : goal.op_needs-all-requires
op_needs-all-requires c =
    needs-leans c.args.z c.args.at (st c.before.before.before.before) c.requires.0 _ c.op_in-op.ensures

-- the stores that are to be made, of those that were counted
few : (c : At-After-op_needs-all) → let m = c in let s = m in
    (c.made_in-made.result + c.args.n ≤ c.op_needs-all.result) × (c.made_in-made.result + c.args.n ≤ needs_of (st c.before.before.before.before) c.op_in-op.result)
few c =
    let m = c in
    let s = m in
    within c.args.z c.args.at (st c.before.before.before.before) c.requires.0 _ _ _ c.args.n c.op_in-op.ensures c.made_in-made.ensures c.op_needs-all.ensures c.requires.1

low : (c : At-After-op_needs-all) → c.made_in-made.result + c.args.n < 2 ^ 64
low c =
    let l = few c in
    let fits : c.op_needs-all.result < 2 ^ 64 = search rules in
    omega (arith, l.0, fits)

pub make_stores-requires : goal.make_stores-requires
make_stores-requires c =
    let n = c.before in
    let m = n.before in
    let l = few c.before in
    (c.requires.0, c.op_in-op.ensures, c.made_in-made.ensures, l.1, low c.before, c.requires.2)

pub overflow_add-made : goal.overflow_add-made
overflow_add-made c = omega (arith, low c.before.before.before.before.before)

pub complete-requires : goal.complete-requires
complete-requires c =
    (c.requires.0, c.op_in-op.ensures)

pub returns-then-made-n : goal.returns-then-made-n
returns-then-made-n c =
    record {
      image = c.make_stores.ensures;
      words = c.complete.ensures ∙ after_last c.args.z c.args.at (st c.before.before.before.before.before.before.before.before.before.before.before.before) c.requires.0 _ _ _ c.args.n c.op_in-op.ensures c.made_in-made.ensures c.op_needs-all.ensures c.if-made-n.true;
    }

pub overflow_add-made-2 : goal.overflow_add-made-2
overflow_add-made-2 c = omega (arith, low c.before.before.before.before.before.before.before)

pub returns : goal.returns
returns c =
    record {
      image = c.make_stores.ensures;
      words = c.put_made.ensures ∙ after-some c.args.z c.args.at (st c.before.before.before.before.before.before.before.before.before.before.before.before) c.requires.0 _ _ _ c.args.n c.op_in-op.ensures c.made_in-made.ensures c.op_needs-all.ensures c.if-made-n.false;
    }
