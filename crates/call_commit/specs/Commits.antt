-- What the stores of a commit lean on: it is pending with none of its stores made, and c slots are its.
use Rattle.std.specs.Prelude.{ℕ, ◌≡◌, length}
use Rattle.layout.specs.declared.Sizes.{Sizes}
use Rattle.state.specs.State.{State}
use Rattle.state.specs.declared.Places.{Places}
use Rattle.state.specs.declared.Op.TheVariants.{Commit}
use Rattle.state.specs.Held.{held_slots}
use Rattle.op_writer.specs.Served.{Served}

pub record Commits (z : Sizes) (at : Places) (st : State) (w c : ℕ) : Type 0 where
  pub served : Served z at st
  pub op : st.pending.op ≡ Commit w
  pub none_made : st.pending.made ≡ 0
  pub counted : c ≡ length (held_slots z st.writers.held w)
