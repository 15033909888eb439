use Rattle.state.specs.Held.{is_open}
use Rattle.state.specs.Wide.{some_open}
use Rattle.state_words.specs.Decoded.{decoded}
use Rattle.state_held.proofs.FourTests.{some-four}
use Rattle.state_held.proofs.held.some_open.Goals as goal

pub returns : goal.returns
unfolding some_open
returns c =
    let a = c.args in
    rw (c.open_at-a.ensures, c.open_at-b.ensures, c.open_at-c.ensures, c.open_at-d.ensures)
    (some-four (is_open (decoded a.words.now).writers.opened))
