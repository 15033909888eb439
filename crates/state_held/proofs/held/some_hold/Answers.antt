use mathlib.Core.Bool.{not}
use lib.Dec.{eqb}
use Rattle.state.specs.Held.{held_at, some_hold}
use Rattle.state_words.specs.Decoded.{decoded}
use Rattle.state_held.proofs.FourTests.{some-four}
use Rattle.state_held.proofs.held.some_hold.Goals as goal

pub returns : goal.returns
unfolding some_hold
returns c =
    let a = c.args in
    rw (c.held_at-a.ensures, c.held_at-b.ensures, c.held_at-c.ensures, c.held_at-d.ensures)
    (some-four (λ v. not (eqb (held_at (decoded a.words.now).writers.held v a.s) 0)))
