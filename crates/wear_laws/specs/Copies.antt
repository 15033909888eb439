-- Line copies (document 02, L12): each that is counted is eight stores of one operation, to the eight words of one line, rising; and the other stores to
-- frames are those of copies cut short.
use Rattle.std.specs.Prelude.{ℕ, zero, suc, ◌+◌, ◌-◌, ◌*◌, ◌/◌, ◌%◌, ◌<◌, ◌≤◌, Bool, true, cond, ◌&&◌, List, ◌≡◌, leb, eqb}
use Rattle.bounded.specs.Below.{count_below}
use Rattle.layout.specs.declared.Sizes.{Sizes}
use Rattle.layout.specs.Layout.{frame_word, line_word}
use Rattle.refinement.specs.Stores.{World}
use Rattle.text.specs.declared.Line.{Line}
use Rattle.text.specs.Fields.{parsed}
use Rattle.forms.specs.Forms.{form_of}
use Rattle.executing.specs.Called.{Machine}
use Rattle.script.specs.Turns.{turn_of}
use Rattle.cutting.specs.Feeding.{fed, ended}
use Rattle.wear.specs.Wear.{ends_copy, word_of, pending_by, stores_in}
use Rattle.wear_lines.specs.Lines.{Work, first, parts, act}
use Rattle.wear_laws.specs.Inputs.{unfed, worked, number}

-- ---- the stores of a line of powerhit's script

-- the world in which they are made, how many are, and the word that each goes to
abbrev pub made_in : Machine → List ℕ → Line → World
made_in m img line = pending_by (form_of m.formatted line) m img line

abbrev pub made : Machine → List ℕ → Line → ℕ
made m img line = stores_in (turn_of m img line).output

abbrev pub sizes_at : Machine → List ℕ → Line → Sizes
sizes_at m img line = (made_in m img line).st.sizes

abbrev pub word_at : Machine → List ℕ → Line → ℕ → ℕ
word_at m img line = word_of (made_in m img line)

-- ---- each copy that is counted

-- store i is the last of eight, to the words of a line of frame f one after the other
pub record Whole (z : Sizes) (f : ℕ) (word : ℕ → ℕ) (i : ℕ) : Type 0 where
  pub line : ℕ
  pub low : line < 64
  pub enough : 7 ≤ i
  pub rising : (j : ℕ) → j < 8 → word (i - 7 + j) ≡ line_word z f line + j

-- of any line, after any bytes
abbrev pub CopiesWhole : Type 0
CopiesWhole =
    (size : ℕ) (before line : List ℕ) → let w = worked size before in
    let m = w.machine in
    let img = w.image in
    let q = parsed 9 line in
    (f i : ℕ) → i < made m img q → ends_copy (sizes_at m img q) f (word_at m img q i) ≡ true → Whole (sizes_at m img q) f (word_at m img q) i

-- ---- the other stores to frames

-- whether word a is of a frame whose number passes a test; whether it is the last of a line of such a frame
unfoldable pub in_frames : Sizes → (ℕ → Bool) → ℕ → Bool
in_frames z passes a = leb (frame_word z) a && passes ((a - frame_word z) / 512)

abbrev pub last_in_line : Sizes → (ℕ → Bool) → ℕ → Bool
last_in_line z passes a = in_frames z passes a && eqb ((a - frame_word z) % 8) 7

-- of n stores, those of a copy cut short, if it is of such a frame: the last store went to a line's word r, but not to its last, and so r + 1 to this line
unfoldable pub cut_short : Sizes → (ℕ → Bool) → (ℕ → ℕ) → ℕ → ℕ
cut_short z passes word zero = 0
cut_short z passes word (suc n) = cond (in_frames z passes (word n)) ((word n - frame_word z + 1) % 8) 0

-- of a line: its stores to such frames, its copies there, and the stores of one cut short
abbrev pub stores_to : (ℕ → Bool) → Machine → List ℕ → Line → ℕ
stores_to passes m img line = count_below (made m img line) (λ i. in_frames (sizes_at m img line) passes (word_at m img line i))

abbrev pub copies_to : (ℕ → Bool) → Machine → List ℕ → Line → ℕ
copies_to passes m img line = count_below (made m img line) (λ i. last_in_line (sizes_at m img line) passes (word_at m img line i))

abbrev pub cut_to : (ℕ → Bool) → Machine → List ℕ → Line → ℕ
cut_to passes m img line = cut_short (sizes_at m img line) passes (word_at m img line) (made m img line)

-- what all lines of an input have of something that a line has
abbrev pub adding : (Machine → List ℕ → Line → ℕ) → Work × ℕ → List ℕ → Work × ℕ
adding has w line = (act w.0 line, w.1 + cond (parts line) 0 (has w.0.machine w.0.image (parsed 9 line)))

abbrev pub summed : (Machine → List ℕ → Line → ℕ) → ℕ → List ℕ → ℕ
summed has size input = (ended (adding has) (fed (adding has) (unfed (first size, 0)) input)).1

-- f 0 + f 1 + .. + f (n - 1)
unfoldable pub sum_below : ℕ → (ℕ → ℕ) → ℕ
sum_below zero f = 0
sum_below (suc n) f = sum_below n f + f n

abbrev pub any_frame : ℕ → Bool
any_frame f = true

pub record FramesStored (size : ℕ) (input : List ℕ) : Type 0 where
  -- of each frame below 15: eight for each copy, and those of copies cut short
  pub frame : (f : ℕ) → f < 15 → summed (stores_to (λ g. eqb g f)) size input ≡ 8 * number size input f + summed (cut_to (λ g. eqb g f)) size input
  -- of all: eight for each copy counted, eight for each of a frame from 15 on, and those of copies cut short
  pub frames : number size input 15
      ≡ 8 * (sum_below 15 (number size input) + summed (copies_to (leb 15)) size input) + summed (cut_to any_frame) size input

abbrev pub StoresOfCopies : Type 0
StoresOfCopies = (size : ℕ) (input : List ℕ) → FramesStored size input
