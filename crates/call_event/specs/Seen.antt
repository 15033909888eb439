-- The lines of an event as writer 1 sees them, by the slot s of page 0, S where it has none.
use Rattle.std.specs.Prelude.{ℕ, List}
use Rattle.layout.specs.declared.Sizes.{Sizes}
use Rattle.words.specs.Words.{word_at}
use Rattle.image.specs.Lines.{line_bytes}
use Rattle.meters.specs.Meters.{first_meter, own_meter}
use Rattle.replay.specs.Table.{slot_in}
use Rattle.state.specs.State.{State, own_frame}
use Rattle.state.specs.Held.{held_at}
use Rattle.refinement.specs.Frames.{seen_at}
use Rattle.call_event.specs.declared.found.Found.{Found}

-- the frame that line l is read from
abbrev pub line_from : Sizes → State → ℕ → ℕ → ℕ
line_from z st s l = seen_at z (slot_in st.table s) (held_at st.writers.held 1 s) s l (own_frame st 0)

-- the frames, and the number that the first meter's line holds
abbrev pub lines_seen : Sizes → State → List ℕ → ℕ → ℕ → ℕ → Found
lines_seen z st img s k m =
    record {
      first = line_from z st s (first_meter k m);
      own = line_from z st s (own_meter k m);
      stored = word_at (line_bytes img z (line_from z st s (first_meter k m)) (first_meter k m)) 0;
    }
