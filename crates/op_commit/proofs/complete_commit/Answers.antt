use Prim.Native.Nat.{◌*◌, ◌<◌, ◌≤◌}
use mathlib.Core.Path.{◌≡◌, ap}
use native.Mathlib.Omega.{arith}
use Rattle.state.specs.declared.Places.{Places}
use Rattle.state.proofs.Numbers.{held-le}
use Rattle.state_words.specs.Decoded.{decoded}
use Rattle.op_commit.proofs.Turns.{done-in}
use Rattle.op_commit.proofs.complete_commit.Lts
use Rattle.op_commit.proofs.complete_commit.Tie
use Rattle.op_commit.proofs.complete_commit.Reads
use Rattle.op_commit.proofs.complete_commit.Goals as goal

abbrev At-After-places_in-head : Type 0
At-After-places_in-head = Lts.After-places_in Tie.the-claims Reads.Pre Reads.Post Tie.handed_clauses

abbrev At-After-held_count-n : Type 0
At-After-held_count-n = Lts.After-held_count Tie.the-claims Reads.Pre Reads.Post Tie.handed_clauses

-- head as it was read
head : (c : At-After-places_in-head) → c.places_in-head.result.head ≡ (decoded c.args.words.now).head
head c = ap (λ (p : Places). p.head) c.places_in-head.ensures

low : (c : At-After-places_in-head) → c.places_in-head.result.head < 2 * c.args.z.places
low c = rw (head c) c.requires.2

few : (c : At-After-held_count-n) → c.held_count-n.result ≤ c.args.z.places
few c = omega (arith, held-le _ _ _ _ c.held_count-n.ensures, c.requires.1)

pub put_lasts-requires : goal.put_lasts-requires
put_lasts-requires c =
    (c.requires.1, low c.before.before.before.before, c.requires.3, few c.before.before.before)

pub position-requires : goal.position-requires
position-requires c =
    (c.requires.1, low c.before.before.before.before.before.before.before.before.before.before.before.before, few c.before.before.before.before.before.before.before.before.before.before.before)

pub returns : goal.returns
returns c =
    done-in (decoded c.args.words.now) _ _ _ _ _ _ _ c.args.z c.args.w _ _ _ c.requires.0 (head c.before.before.before.before.before.before.before.before.before.before.before.before.before.before.before.before) c.held_count-n.ensures c.put_bitmaps.ensures c.put_lasts.ensures c.let_go.ensures c.put_open.ensures.state c.put_prepared.ensures c.position.ensures c.put_head.ensures c.put_nothing.ensures
