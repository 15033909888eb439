-- Wide transactions (document 02, L14). A line is stored as an entry: nine words rising, page × 64 + line, then the line. The commit of n lines stores n in
-- word 6, then each line, in entry order, over its committed copy, then 0 in word 6.
use Rattle.std.specs.Prelude.{ℕ, ◌+◌, ◌-◌, ◌*◌, ◌/◌, ◌%◌, Bool, true, false, ◌||◌, cond, List, ltb, eqb, get_or}
use Rattle.layout.specs.declared.Sizes.{Sizes}
use Rattle.layout.specs.Layout.{count_word, line_word, entry_word}
use Rattle.words.specs.Words.{part, word}
use Rattle.image.specs.Lines.{line_bytes}
use Rattle.entries.specs.Entries.{key_of, key_page, key_line, entry_of}
use Rattle.replay.specs.declared.Table.{Table}
use Rattle.state.specs.State.{State, Wide, own_frame}
use Rattle.state.specs.declared.Op.{Op}
use Rattle.state.specs.declared.Op.TheVariants.{Idle, Write, Commit, Consolidate, Checkpoint, Event, Prepare, Confirm, Log, Copy, Format}
use Rattle.state.specs.Wide.{no_wide, entry_for, with_entry}
use Rattle.refinement.specs.Frames.{frame_of}
use Rattle.refinement.specs.Commit.{closed_writer}
use Rattle.refinement.specs.Settled.{settled, with_wide}

-- the line of entry e
abbrev pub entry_bytes : List ℕ → Sizes → ℕ → List ℕ
entry_bytes img z e = part img (8 * (entry_word z e + 1)) 64

-- ---- what is seen

-- line l of page p as a recall shows it, h p being the page's own frame and n entries with these keys being committed and not yet copied: that of its entry,
-- else its committed copy
abbrev pub shown_line : List ℕ → (ℕ → ℕ) → Sizes → Table → ℕ → List ℕ → ℕ → ℕ → List ℕ
shown_line img h z t n keys p l =
    let e = entry_of keys n (key_of p l) in
    cond (ltb e n) (entry_bytes img z e) (line_bytes img z (frame_of h z t p l) l)

-- ---- a wide write

-- store i
abbrev pub log_at : State → ℕ → ℕ → ℕ → ℕ
log_at st p l i = entry_word st.sizes (entry_for st.wide p l) + i

abbrev pub log_value : State → ℕ → ℕ → ℕ → ℕ
log_value st p l i = cond (eqb i 0) (key_of p l) (get_or st.pending.line (i - 1) 0)

-- the state when its last store is made: the entry is the line's
abbrev pub log_done : State → ℕ → ℕ → State
log_done st p l = with_wide (settled st st.head st.tail st.next st.table st.writers) (with_entry st.wide p l)

-- ---- a wide commit

abbrev pub is_copy : Op → Bool
is_copy Copy = true
is_copy Idle = false
is_copy (Write w p l o n) = false
is_copy (Commit w) = false
is_copy (Consolidate p) = false
is_copy Checkpoint = false
is_copy (Event k m a) = false
is_copy (Prepare w) = false
is_copy (Confirm w) = false
is_copy (Log p l o n) = false
is_copy Format = false

-- the frame that the line with key k is copied to: the one of its committed copy
abbrev pub copied_frame : (ℕ → ℕ) → Sizes → Table → ℕ → ℕ
copied_frame h z t k = frame_of h z t (key_page k) (key_line k)

-- store i, of n entries with these keys
unfoldable pub copy_at_of : (ℕ → ℕ) → Sizes → Table → ℕ → List ℕ → ℕ → ℕ
copy_at_of h z t n keys i =
    let k = get_or keys ((i - 1) / 8) 0 in
    cond (eqb i 0 || ltb (8 * n) i) count_word (line_word z (copied_frame h z t k) (key_line k) + (i - 1) % 8)

unfoldable pub copy_value_of : Sizes → ℕ → List ℕ → ℕ → ℕ
copy_value_of z n img i =
    cond (eqb i 0) n (cond (ltb (8 * n) i) 0 (word img (entry_word z ((i - 1) / 8) + 1 + (i - 1) % 8)))

-- the same of a state
abbrev pub copy_at : State → ℕ → ℕ
copy_at st i = copy_at_of (own_frame st) st.sizes st.table st.wide.count st.wide.keys i

abbrev pub copy_value : State → List ℕ → ℕ → ℕ
copy_value st img i = copy_value_of st.sizes st.wide.count img i

-- the state when its last store is made: the writer, if there is one, is closed, and no entry is used
abbrev pub copy_done : State → State
copy_done st =
    with_wide (settled st st.head st.tail st.next st.table (closed_writer st.sizes st.writers st.wide.writer)) no_wide
