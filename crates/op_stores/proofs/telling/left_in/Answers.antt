use mathlib.Core.Path.{◌≡◌, ap, ap₂, ◌∙◌}
use native.Mathlib.Omega.{arith}
use Prim.Native.Nat.{◌-◌}
use Rattle.state.specs.State.{State}
use Rattle.operations.specs.Operations.{needs as needs_of}
use Rattle.state_words.specs.Decoded.{decoded}
use Rattle.op_stores.proofs.Leaning.{needs-leans, needs-seen, made-low}
use Rattle.op_stores.proofs.telling.left_in.Lts
use Rattle.op_stores.proofs.telling.left_in.Tie
use Rattle.op_stores.proofs.telling.left_in.Reads
use Rattle.op_stores.proofs.telling.left_in.Goals as goal

abbrev At-Start : Type 0
At-Start = Lts.Start Tie.the-claims Reads.Pre Reads.Post

abbrev At-After-op_needs-all : Type 0
At-After-op_needs-all = Lts.After-op_needs Tie.the-claims Reads.Pre Reads.Post

abbrev st : At-Start → State
st s = decoded s.args.words.now

pub op_needs-all-requires : goal.op_needs-all-requires
op_needs-all-requires c = needs-leans c.args.z c.args.at (st c.before) c.requires _ c.op_in-op.ensures

-- the stores as they were counted
all : (c : At-After-op_needs-all) → let s = c.before.before in c.op_needs-all.result ≡ needs_of (st c.before.before) (st c.before.before).pending.op
all c =
    let s = c.before.before in
    c.op_needs-all.ensures ∙ needs-seen c.args.z c.args.at (st c.before.before) c.requires _ ∙ ap (needs_of (st c.before.before)) c.op_in-op.ensures

pub overflow_sub-result : goal.overflow_sub-result
overflow_sub-result c =
    omega (arith, c.made_in.ensures, all c.before, made-low c.args.z c.args.at (st c.before.before.before) c.requires)

pub returns : goal.returns
returns c = ap₂ ◌-◌ (all c.before) c.made_in.ensures
