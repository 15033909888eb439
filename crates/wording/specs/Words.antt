-- The words: a name for each call and a text for each number. Neither has a digit in it.
use Rattle.std.specs.Prelude.{ℕ, Bool, true, ◌&&◌, not, List, [], ◌∷◌, leb, eqb, get_or}
use Prim.Native.Char.{code}
use Prim.Native.String.{String, [] as end_text, ◌∷◌ as ◌then◌}
use Rattle.bounded.specs.Below.{first_below}
use Rattle.wording.specs.Calls.{call_count}

-- the bytes of a text
unfoldable pub codes : String → List ℕ
codes end_text = []
codes (c then s) = code c ∷ codes s

-- `A confirm`, since the first three letters of `Confirm` are those of `Consolidate`, and `Wide begin`, since those of `Begin wide` are those of `Begin`
unfoldable pub names : List (List ℕ)
names =
    codes "Format"
    ∷ codes "Mount"
    ∷ codes "Recall"
    ∷ codes "Begin"
    ∷ codes "Abort"
    ∷ codes "Write"
    ∷ codes "Commit"
    ∷ codes "Consolidate"
    ∷ codes "Checkpoint"
    ∷ codes "Read"
    ∷ codes "Step"
    ∷ codes "Run"
    ∷ codes "Free slot"
    ∷ codes "Event"
    ∷ codes "Prepare"
    ∷ codes "A confirm"
    ∷ codes "Withdraw"
    ∷ codes "Load"
    ∷ codes "Wide begin"
    ∷ []

-- by number, from 0 on; 0, which turns nothing back, and 16, which no row has, have none
unfoldable pub texts : List (List ℕ)
texts =
    []
    ∷ codes "the image is shorter than its header"
    ∷ codes "the layout of the image is unknown"
    ∷ codes "pages, slots, places or entries are out of range"
    ∷ codes "the buffer is shorter than the sizes need"
    ∷ codes "head or tail of the journal is out of range"
    ∷ codes "a live record or entry is damaged"
    ∷ codes "slots and page table do not name each frame once"
    ∷ codes "the state breaks its rules"
    ∷ codes "an operation is pending"
    ∷ codes "no operation is pending"
    ∷ codes "an argument is out of range"
    ∷ codes "the writer is already open"
    ∷ codes "the writer is not open"
    ∷ codes "another writer holds the line"
    ∷ codes "the page has no slot and none is free"
    ∷ []
    ∷ codes "the page has no slot"
    ∷ codes "a writer holds a line of the page"
    ∷ codes "the journal has no room for the records"
    ∷ codes "the event or its meter is unknown"
    ∷ codes "the amount or the new credit is out of range"
    ∷ codes "there is no taken slot without a held line"
    ∷ codes "a transaction is prepared"
    ∷ codes "the writer is not prepared"
    ∷ codes "a line of the table is wrong"
    ∷ codes "a modulus is out of range"
    ∷ codes "a stored meter is not below its modulus"
    ∷ codes "the image has no entries for wide rounds"
    ∷ codes "a wide transaction must be the only open one"
    ∷ codes "all entries for wide rounds are used"
    ∷ []

abbrev pub name_of : ℕ → List ℕ
name_of c = get_or names c []

abbrev pub text_of : ℕ → List ℕ
text_of n = get_or texts n []

-- the call whose name starts with three bytes, the number of calls where none does
abbrev pub starts_with : ℕ → ℕ → ℕ → ℕ → Bool
starts_with a b d c = eqb (get_or (name_of c) 0 0) a && eqb (get_or (name_of c) 1 0) b && eqb (get_or (name_of c) 2 0) d

unfoldable pub call_named : ℕ → ℕ → ℕ → ℕ
call_named a b d = first_below call_count (starts_with a b d)

-- whether a byte is a digit, and whether each byte of a text is printable, or printable and no digit
abbrev pub is_digit : ℕ → Bool
is_digit b = leb 48 b && leb b 57

unfoldable pub printable : List ℕ → Bool
printable [] = true
printable (b ∷ bs) = (leb 32 b && leb b 126) && printable bs

unfoldable pub plain : List ℕ → Bool
plain [] = true
plain (b ∷ bs) = ((leb 32 b && leb b 126) && not (is_digit b)) && plain bs
