-- Wear (document 02, L12): the 22 numbers that a store counts for, by the word that it goes to; and of a line of powerhit's script what its stores count for.
use Rattle.std.specs.Prelude.{ℕ, ◌+◌, ◌-◌, ◌/◌, ◌%◌, Bool, true, false, cond, not, ◌&&◌, List, ◌==◌, nat_le, nat_lt}
use Rattle.bounded.specs.Below.{count_below}
use Rattle.layout.specs.declared.Sizes.{Sizes}
use Rattle.layout.specs.Layout.{slot_word, padding_word, frame_word}
use Rattle.refinement.specs.Stores.{World, store_at}
use Rattle.refinement.specs.Calls.{world_of}
use Rattle.refinement.specs.Mount.{format_of}
use Rattle.refinement.specs.Run.{exec}
use Rattle.call_mount.specs.Replacing.{replacing}
use Rattle.text.specs.declared.Line.{Line}
use Rattle.text.specs.Fields.{parsed}
use Rattle.forms.specs.declared.Ask.{Ask}
use Rattle.forms.specs.declared.Ask.TheVariants.{Begin, Commit, Abort, Write, Consolidate, Checkpoint, Mount}
use Rattle.forms.specs.declared.Form.{Form}
use Rattle.forms.specs.declared.Form.TheVariants.{Formats, Asks, Reads, Cuts, Other}
use Rattle.forms.specs.Forms.{form_of}
use Rattle.printing.specs.declared.Output.{Output}
use Rattle.printing.specs.declared.Output.TheVariants.{Answered, Shown, Unknown}
use Rattle.executing.specs.Called.{call_of, Machine}
use Rattle.script.specs.Turns.{sizes_in, turn_of}

-- ---- a store, by its word

-- the parts of an image (document 01, "The image"), numbered as they are printed: 0 frames, 1 header, 2 tables (the page table and the slot table),
-- 3 journal, 4 padding
unfoldable pub part_of : Sizes → ℕ → ℕ
part_of z a =
    cond (nat_lt a 8) 1 (cond (nat_lt a (slot_word z z.slots)) 2 (cond (nat_lt a (padding_word z)) 3 (cond (nat_lt a (frame_word z)) 4 0)))

-- whether word a is the last of a line of frame f. A line's eight words are stored rising, so that this is the eighth store of a copy
unfoldable pub ends_copy : Sizes → ℕ → ℕ → Bool
ends_copy z f a = nat_le (frame_word z) a && ((a - frame_word z) / 512 == f && (a - frame_word z) % 8 == 7)

-- whether a store to word a counts for number k of the 22: the copies of frames 0 to 14, the five parts, the stores not made by W lines and those that were
unfoldable pub wear_of : Sizes → Bool → ℕ → ℕ → Bool
wear_of z by_w a k = cond (nat_lt k 15) (ends_copy z k a) (cond (nat_lt k 20) (part_of z a == k - 15) (cond (k == 20) (not by_w) by_w))

-- ---- the stores that are made in a world, of the operation that is pending

-- the word that store i of them goes to
abbrev pub word_of : World → ℕ → ℕ
word_of v i = store_at v.st v.st.pending.op (v.st.pending.made + i)

-- how many of the first n count for number k: a store's part goes by the sizes of the state that makes it
unfoldable pub worn_by : World → Bool → ℕ → ℕ → ℕ
worn_by v by_w n k = count_below n (λ i. wear_of v.st.sizes by_w (word_of v i) k)

-- ---- a line of powerhit's script

-- the world in which its stores are made: what it asks for is pending. Of a format that is the fresh state of the sizes given
abbrev pub pending_by : Form → Machine → List ℕ → Line → World
pending_by Formats m img line = world_of (replacing m.st (format_of (sizes_in line.numbers) img)).state img
pending_by (Asks a) m img line = (exec (call_of a line.count line.numbers) (world_of m.st img)).world
pending_by Reads m img line = world_of m.st img
pending_by Cuts m img line = world_of m.st img
pending_by Other m img line = world_of m.st img

-- a W line's
abbrev pub is_write : Ask → Bool
is_write Begin = false
is_write Commit = false
is_write Abort = false
is_write Write = true
is_write Consolidate = false
is_write Checkpoint = false
is_write Mount = false

abbrev pub by_write : Form → Bool
by_write Formats = false
by_write (Asks a) = is_write a
by_write Reads = false
by_write Cuts = false
by_write Other = false

-- the stores made, as powerhit's listing tells them
abbrev pub stores_in : Output → ℕ
stores_in (Answered letter number stores) = stores
stores_in (Shown byte) = 0
stores_in Unknown = 0

-- what a line of this form adds to number k, and what a line does
abbrev pub worn_as : Form → Machine → List ℕ → Line → ℕ → ℕ
worn_as f m img line k = worn_by (pending_by f m img line) (by_write f) (stores_in (turn_of m img line).output) k

unfoldable pub line_wear : Machine → List ℕ → Line → ℕ → ℕ
line_wear m img line k = worn_as (form_of m.formatted line) m img line k
