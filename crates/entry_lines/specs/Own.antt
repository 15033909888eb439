-- The entry of writer w's line l of page p, which a wide writer alone has; the count of entries where it has none.
use Rattle.std.specs.Prelude.{ℕ, cond}
use Rattle.state.specs.State.{Wide}
use Rattle.state.specs.Wide.{is_wide, entry_for}

abbrev pub own_entry : Wide → ℕ → ℕ → ℕ → ℕ
own_entry d w p l = cond (is_wide d w) (entry_for d p l) d.count
