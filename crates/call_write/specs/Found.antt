-- What a write finds before it is taken: the first row that turns it back; where none does, the frame or the entry that the line is read from, and whether
-- the writer holds the line.
use Rattle.std.specs.Prelude.{ℕ, ◌<◌, Bool, true, false, ◌&&◌, cond, List, ◌∷◌, ◌≡◌, ltb, length, Result, MatchResult}
use Rattle.bounded.specs.Rows.{refusal}
use Rattle.rows.specs.declared.Refusal.{Refusal}
use Rattle.rows.specs.Numbers.{number}
use Rattle.layout.specs.declared.Sizes.{Sizes}
use Rattle.layout.specs.Layout.{frames}
use Rattle.image.specs.Lines.{line_bytes}
use Rattle.state.specs.State.{State}
use Rattle.state.specs.Wide.{is_wide, entry_for, has_entry}
use Rattle.operations.specs.Operations.{write_rows, log_rows}
use Rattle.refinement.specs.Frames.{seen_frame, holds}
use Rattle.refinement.specs.Wide.{entry_bytes}
use Rattle.refinement.specs.Calls.{write_call_rows}
use Rattle.call_write.specs.declared.found.Found.{Found}

-- all rows of a write; a wide writer holds a line as an entry, and sees that
abbrev pub WriteFound : State → List ℕ → ℕ → ℕ → ℕ → ℕ → ℕ → List ℕ → Result Found Refusal → Type 0
WriteFound st img w p l o n bytes r =
    MatchResult r
    (λ f.
    (0 ≡ refusal (write_call_rows st img w p l o n bytes))
    × (f.seen ≡ cond (is_wide st.wide w && has_entry st.wide p l) (entry_for st.wide p l) (seen_frame st w p l))
    × (f.held ≡ cond (is_wide st.wide w) (has_entry st.wide p l) (holds st w p l))
    × (f.wide ≡ is_wide st.wide w))
    (λ row. number row ≡ refusal (write_call_rows st img w p l o n bytes))

-- the rows from 11 on: a narrow writer's, and the wide one's
abbrev pub FramesFound : State → ℕ → ℕ → ℕ → ℕ → ℕ → Result Found Refusal → Type 0
FramesFound st w p l o n r =
    MatchResult r
    (λ f. (0 ≡ refusal (write_rows st w p l o n)) × (f.seen ≡ seen_frame st w p l) × (f.held ≡ holds st w p l) × (f.wide ≡ false))
    (λ row. number row ≡ refusal (write_rows st w p l o n))

abbrev pub EntryFound : State → ℕ → ℕ → ℕ → ℕ → Result Found Refusal → Type 0
EntryFound st p l o n r =
    MatchResult r
    (λ f.
    (0 ≡ refusal (log_rows st p l o n))
    × (f.seen ≡ cond (has_entry st.wide p l) (entry_for st.wide p l) (seen_frame st st.wide.writer p l))
    × (f.held ≡ has_entry st.wide p l)
    × (f.wide ≡ true))
    (λ row. number row ≡ refusal (log_rows st p l o n))

-- all but the rows that come first, none of which applies
abbrev pub FoundAfter : State → ℕ → ℕ → ℕ → ℕ → ℕ → List ℕ → Result Found Refusal → Type 0
FoundAfter st w p l o n bytes r =
    let rest = (ltb (length bytes) n, 11) ∷ cond (is_wide st.wide w) (log_rows st p l o n) (write_rows st w p l o n) in
    MatchResult r
    (λ f.
    (0 ≡ refusal rest)
    × (f.seen ≡ cond (is_wide st.wide w && has_entry st.wide p l) (entry_for st.wide p l) (seen_frame st w p l))
    × (f.held ≡ cond (is_wide st.wide w) (has_entry st.wide p l) (holds st w p l))
    × (f.wide ≡ is_wide st.wide w))
    (λ row. number row ≡ refusal rest)

-- ---- the line that was found: an entry's, or a frame's

abbrev pub as_entry : Found → Bool
as_entry r = r.wide && r.held

abbrev pub found_line : List ℕ → Sizes → Found → ℕ → List ℕ
found_line img z r l = cond (as_entry r) (entry_bytes img z r.seen) (line_bytes img z r.seen l)

abbrev pub SeenLow : Sizes → Found → Type 0
SeenLow z r = (as_entry r ≡ true → r.seen < z.entries) × (as_entry r ≡ false → r.seen < frames z)
