use Rattle.bounded.specs.Tab.{tab}
use Rattle.state_text.proofs.open_numbers.Goals as goal

pub returns : goal.returns
unfolding tab
returns c =
    rw (
      c.one_if.ensures,
      c.open_at.ensures,
      c.one_if-2.ensures,
      c.open_at-2.ensures,
      c.one_if-3.ensures,
      c.open_at-3.ensures,
      c.one_if-4.ensures,
      c.open_at-4.ensures,
    )
