use mathlib.Core.Path.{◌≡◌, ap, ap₂, ◌∙◌}
use Prim.Native.Nat.{ℕ}
use native.Mathlib.Omega.{arith}
use Rattle.state.specs.State.{State}
use Rattle.operations.specs.Operations.{needs as needs_of}
use Rattle.refinement.specs.Stores.{stores_made, state_after}
use Rattle.std.specs.Prelude.{Ok}
use Rattle.state_words.specs.Decoded.{decoded}
use Rattle.state_pending.specs.Put.{with_pending}
use Rattle.op_stores.specs.Started.{budget}
use Rattle.op_stores.proofs.Starting.{asks-leans, asks-needs, put-valid, put-budget, go-may}
use Rattle.op_stores.proofs.start.Lts
use Rattle.op_stores.proofs.start.Tie
use Rattle.op_stores.proofs.start.Reads
use Rattle.op_stores.proofs.start.Goals as goal

abbrev At-Start : Type 0
At-Start = Lts.Start Tie.the-claims Reads.Pre Reads.Post Tie.handed_clauses

abbrev At-After-op_needs-n : Type 0
At-After-op_needs-n = Lts.After-op_needs Tie.the-claims Reads.Pre Reads.Post Tie.handed_clauses

abbrev At-After-budget-k : Type 0
At-After-budget-k = Lts.After-budget Tie.the-claims Reads.Pre Reads.Post Tie.handed_clauses

abbrev st : At-Start → State
st s = decoded s.args.words.now

abbrev with_it : At-Start → State
with_it s = with_pending (st s) s.args.p

pub op_needs-n-requires : goal.op_needs-n-requires
op_needs-n-requires c =
    asks-leans c.args.z c.args.at (st c.before.before) c.args.image.now c.args.p c.requires

-- the stores as they were counted
all : (c : At-After-op_needs-n) → let s = c in c.op_needs-n.result ≡ needs_of (st c.before.before) c.args.p.op
all c =
    let s = c in
    asks-needs c.args.z c.args.at (st c.before.before) c.args.image.now c.args.p c.requires _ c.op_needs-n.ensures

pub put_pending-requires : goal.put_pending-requires
put_pending-requires c =
    let h = c.requires in (h.busy, h.idle, put-valid c.args.z c.args.at (st c.before.before.before.before) c.args.image.now c.args.p h)

pub budget-k-requires : goal.budget-k-requires
budget-k-requires c =
    omega (arith, all c.before.before.before, c.requires.some)

-- how many of them are to be made
how-many : (c : At-After-budget-k) → let s = c.before in c.budget-k.result ≡ budget c.args.until (with_it c.before.before.before.before.before)
how-many c =
    let n = c in
    let s = n in
    put-budget c.args.z c.args.at (st c.before.before.before.before.before) c.args.image.now c.args.p c.requires c.args.until _ _ (all c.before.before.before) c.budget-k.ensures

pub go-requires : goal.go-requires
go-requires c =
    let g = go-may c.args.z c.args.at (st c.before.before.before.before.before.before.before) c.args.image.now c.args.p c.requires _ c.args.until _ c.put_pending.ensures (how-many c.before.before) in
    (g.0, g.1, c.requires.long)

pub returns : goal.returns
returns c =
    let g = c.go.ensures in
    let e = c.put_pending.ensures in
    record {
      answer = ap Ok (all c.before.before.before.before.before.before.before.before.before);
      image = g.image ∙ ap₂ (λ (u : State) (n : ℕ). stores_made u n c.args.image.now) e (how-many c.before.before.before.before.before.before);
      words = g.words ∙ ap₂ state_after e (how-many c.before.before.before.before.before.before);
    }
