-- A state with other bitmaps, or other last positions.
use Rattle.std.specs.Prelude.{ℕ, List}
use Rattle.state.specs.State.{State}
use Rattle.state_words.specs.Decoded.{with_table}

abbrev pub with_bitmaps : State → List ℕ → State
with_bitmaps st b =
    with_table st (record { page = st.table.page; original = st.table.original; spare = st.table.spare; bitmap = b; last = st.table.last })

abbrev pub with_lasts : State → List ℕ → State
with_lasts st l =
    with_table st (record { page = st.table.page; original = st.table.original; spare = st.table.spare; bitmap = st.table.bitmap; last = l })
