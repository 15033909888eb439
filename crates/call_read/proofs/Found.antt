-- What a read finds in the words is what its definition says of the state: z and at are the sizes and places as they were read, and s the slot that the code
-- found for page p.
use Prim.Native.Nat.{ℕ}
use mathlib.Core.Path.{◌≡◌, ◌∙◌}
use Rattle.layout.specs.declared.Sizes.{Sizes}
use Rattle.replay.specs.Table.{slot_in}
use Rattle.state.specs.State.{State, own_frame}
use Rattle.state.specs.declared.Places.{Places}
use Rattle.state.specs.Held.{held_at}
use Rattle.state.specs.Slots.{slot_of_page}
use Rattle.state.specs.Wide.{wide_of}
use Rattle.refinement.specs.Frames.{seen_at, seen_frame}
use Rattle.entry_lines.specs.Own.{own_entry}
use Rattle.state_words.specs.Decoded.{places_of}

pub seen-found : (st : State) (z : Sizes) (p s w l g : ℕ) → z ≡ st.sizes → s ≡ slot_of_page z st.table.page p
    → g ≡ seen_at z (slot_in st.table s) (held_at st.writers.held w s) s l (own_frame st p) → g ≡ seen_frame st w p l
unfolding seen_frame
seen-found st z p s w l g ez es e = e ∙ rw (es, ez)

pub own-found : (st : State) (at : Places) (w p l e : ℕ) → at ≡ places_of st → e ≡ own_entry (wide_of at.wide at.count st.wide.keys) w p l → e ≡ own_entry st.wide w p l
own-found st at w p l e ea h = h ∙ rw ea
