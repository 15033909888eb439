-- The stores of an operation by their numbers, counted from 0: they go to the parts of an image in one order, so that what they count for is told by where each
-- part ends.
use Rattle.std.specs.Prelude.{ℕ, ◌+◌, ◌-◌, ◌/◌, ◌%◌, ◌^◌, ◌≤◌, Bool, cond, not, ◌&&◌, List, ◌==◌, nat_le, nat_lt, slice_index}
use Rattle.bounded.specs.Below.{count_below}
use Rattle.bounded.specs.Tab.{filled}
use Rattle.layout.specs.declared.Sizes.{Sizes}
use Rattle.layout.specs.Layout.{slot_word, padding_word, frame_word, image_words}
use Rattle.forms.specs.declared.Ask.{Ask}
use Rattle.forms.specs.declared.Ask.TheVariants.{Begin, Commit, Abort, Write, Consolidate, Checkpoint, Mount}
use Rattle.wear.specs.declared.shares.Ends.{Ends}

-- the part that store i goes to: a format's header, tables, journal, padding; frames; then, of the others, a word of a table, a record, and head or tail. A
-- format's last store is the header's too
unfoldable pub part_at : Ends → ℕ → ℕ
part_at e i =
    cond (nat_lt i e.header) 1
    (cond (nat_lt i e.tables) 2
    (cond (nat_lt i e.journal) 3
    (cond (nat_lt i e.padding) 4
    (cond (nat_lt i e.frames) 0
    (cond (nat_lt i e.words) 2
    (cond (nat_lt i e.records) 3 1))))))

-- whether store i is the eighth of a line copy of frame f; the first one in frames is of frame `frame`
unfoldable pub copy_at : Ends → ℕ → ℕ → Bool
copy_at e f i =
    (nat_le e.padding i && nat_lt i e.frames) && (e.frame + (i - e.padding) / 512 == f && (i - e.padding) % 8 == 7)

-- whether it counts for number k of the 22
unfoldable pub wear_at : Ends → Bool → ℕ → ℕ → Bool
wear_at e by_w i k = cond (nat_lt k 15) (copy_at e k i) (cond (nat_lt k 20) (part_at e i == k - 15) (cond (k == 20) (not by_w) by_w))

-- each part ends after the one before it; the frames are no further into an image than the largest one's
pub record Rising (e : Ends) : Type 0 where
  pub tables : e.header ≤ e.tables
  pub journal : e.tables ≤ e.journal
  pub padding : e.journal ≤ e.padding
  pub frames : e.padding ≤ e.frames
  pub words : e.frames ≤ e.words
  pub records : e.words ≤ e.records
  pub low : e.padding ≤ 2 ^ 32

-- a format's, whose stores are numbered as the words are
abbrev pub format_ends : Sizes → Ends
format_ends z =
    let w = image_words z in
    record { header = 8; tables = slot_word z z.slots; journal = padding_word z; padding = frame_word z; frames = w; words = w; records = w; frame = 0 }

-- those of an operation that has none in a format's order
abbrev pub ends_at : ℕ → ℕ → ℕ → ℕ → Ends
ends_at frame frames words records =
    record { header = 0; tables = 0; journal = 0; padding = 0; frames = frames; words = words; records = records; frame = frame }

-- a call's that needs n stores. A write's go to a line. A commit's are records and head. A consolidation's are 8 c for lines, the page-table word, a record's
-- four and head. A checkpoint's are slot words and tail
abbrev pub asked_ends : Ask → ℕ → ℕ → Ends
asked_ends Begin n frame = ends_at frame 0 0 0
asked_ends Commit n frame = ends_at frame 0 0 (n - 1)
asked_ends Abort n frame = ends_at frame 0 0 0
asked_ends Write n frame = ends_at frame n n n
asked_ends Consolidate n frame = ends_at frame (n - 6) (n - 5) (n - 1)
asked_ends Checkpoint n frame = ends_at frame 0 (n - 1) (n - 1)
asked_ends Mount n frame = ends_at frame 0 0 0

-- the frame of a word
abbrev pub frame_of : Sizes → ℕ → ℕ
frame_of z a = (a - frame_word z) / 512

-- ---- the code's counts, which are machine words

-- with so many of n stores added
abbrev pub counted : Ends → Bool → ℕ → List ℕ → List ℕ
counted e by_w n counts = filled 22 (λ k. (slice_index counts k + count_below n (λ i. wear_at e by_w i k)) % 2 ^ 64) counts
