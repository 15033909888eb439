-- Reading a sentence back (document 02, L1): what is guessed from a text, and whether its sentence is the text.
use Rattle.std.specs.Prelude.{ℕ, ◌+◌, ◌^◌, ◌<◌, Bool, true, false, cond, ◌&&◌, List, [], ◌∷◌, ◌↔◌, ◌≡◌, eqb, get_or, Option, Some, None}
use Rattle.wording.specs.Calls.{can_return, takes_writer, takes_page, takes_line, meets_writer}
use Rattle.wording.specs.Words.{call_named}
use Rattle.reasons.specs.declared.Reason.{Reason}
use Rattle.reasons.specs.Sentence.{sentence}
use Rattle.reason_reading.specs.Numbers.{numbers_in}

-- ---- a reason guessed from a text

-- the number at place k, where the sentence has it; and the place after it
abbrev pub pick : Bool → ℕ → List ℕ → ℕ
pick has k numbers = cond has (get_or numbers k 0) 0

abbrev pub after : Bool → ℕ → ℕ
after has k = cond has (k + 1) k

-- of call c, from the numbers of the text in order
unfoldable pub guess_for : ℕ → List ℕ → Reason
guess_for c numbers =
    let page = after (takes_writer c) 1 in
    let line = after (takes_page c) page in
    let holder = after (takes_line c) line in
    record {
      call = c;
      number = get_or numbers 0 0;
      writer = pick (takes_writer c) 1 numbers;
      page = pick (takes_page c) page numbers;
      line = pick (takes_line c) line numbers;
      holder = pick (meets_writer (get_or numbers 0 0)) holder numbers;
    }

-- the call is told by the first three bytes
unfoldable pub guess : List ℕ → Reason
guess text = guess_for (call_named (get_or text 0 0) (get_or text 1 0) (get_or text 2 0)) (numbers_in text)

-- ---- reading back

unfoldable pub same_text : List ℕ → List ℕ → Bool
same_text [] [] = true
same_text [] (y ∷ ys) = false
same_text (x ∷ xs) [] = false
same_text (x ∷ xs) (y ∷ ys) = eqb x y && same_text xs ys

-- the guess, if its sentence is the text
unfoldable pub read_back : List ℕ → Option Reason
read_back text =
    let r = guess text in
    cond (can_return r.call r.number && same_text text (sentence r)) (Some r) None

-- ---- the statement

-- a reason that has a sentence of its own: its call can return its number, what the call is not given and a holder that
-- it did not meet are 0, and its numbers fit a word
pub record Composable (r : Reason) : Type 0 where
  pub returns : can_return r.call r.number ≡ true
  pub no-writer : takes_writer r.call ≡ false → r.writer ≡ 0
  pub no-page : takes_page r.call ≡ false → r.page ≡ 0
  pub no_line : takes_line r.call ≡ false → r.line ≡ 0
  pub no-holder : meets_writer r.number ≡ false → r.holder ≡ 0
  pub writer-fits : r.writer < 2 ^ 64
  pub page-fits : r.page < 2 ^ 64
  pub line-fits : r.line < 2 ^ 64
  pub holder-fits : r.holder < 2 ^ 64

-- each sentence gives its reason, and any other text none
abbrev pub ReadsBack : Type 0
ReadsBack = (text : List ℕ) (r : Reason) → (read_back text ≡ Some r) ↔ ((text ≡ sentence r) × Composable r)
