-- The numbers that stand in a sentence are its number and its fields, in order.
use mathlib.Core.Path.{◌≡◌, refl, sym, ap, ◌∙◌}
use mathlib.Core.Bool.{Bool, true, false, not, ◌&&◌}
use mathlib.Core.List.{List, [], ◌∷◌, ◌++◌, append_assoc}
use Prim.Native.Nat.{ℕ, zero, suc, ◌+◌, ◌-◌, ◌*◌, ◌/◌, ◌%◌, ◌^◌, ◌<◌}
use native.Mathlib.Nat.{pow-suc, div-lt_iff_lt-mul, zero-lt-suc}
use native.Mathlib.Omega.{arith}
use lib.Dec.{eqb, leb}
use borrow.Author.Tests.{eq-eqb, eqb-true, not-true}
use Rattle.bounded.proofs.Tests.{case_on, contradicts, and_left, and_right}
use Rattle.decimals.specs.Decimal.{digits_of, decimal_of}
use Rattle.wording.specs.Calls.{takes_writer, takes_page, takes_line, meets_writer}
use Rattle.wording.specs.Words.{codes, name_of, text_of, is_digit, plain}
use Rattle.wording.proofs.Wording.{name-fits, text-fits}
use Rattle.reasons.specs.declared.Reason.{Reason}
use Rattle.reasons.specs.Sentence.{opening, field, page_label, holder_label, closing, sentence}
use Rattle.reason_reading.specs.Numbers.{goes_on, numbers_from, numbers_in}
use Rattle.reason_reading.proofs.Scanning.{is_a_digit, at-digit, at_gap, at-end}
use Rattle.reason_reading.proofs.Guessing.{given}

-- ---- what is no digit

gap : (v b : ℕ) → is_digit b ≡ false → goes_on v b ≡ false
gap v b e = rw e

-- a text without a digit has no number
pub skip : (t rest : List ℕ) → plain t ≡ true → numbers_from false 0 (t ++ rest) ≡ numbers_from false 0 rest
unfolding plain
skip [] rest e = refl
skip (b ∷ t) rest e =
    let h = and_left ((leb 32 b && leb b 126) && not (is_digit b)) (plain t) e in
    let n = not-true (is_digit b) (and_right (leb 32 b && leb b 126) (not (is_digit b)) h) in
    at_gap 0 b (t ++ rest) (gap 0 b n) ∙ skip t rest (and_right ((leb 32 b && leb b 126) && not (is_digit b)) (plain t) e)

-- a number ends before a text that starts with no digit
unfoldable pub starts : List ℕ → Bool
starts [] = false
starts (b ∷ t) = not (is_digit b)

ends : (v : ℕ) (rest : List ℕ) → starts rest ≡ true → numbers_from true v rest ≡ v ∷ numbers_from false 0 rest
unfolding starts
ends v [] e = contradicts e refl
ends v (b ∷ t) e =
    let n = not-true (is_digit b) e in
    at-end v b t (gap v b n) ∙ ap (λ (l : List ℕ). v ∷ l) (sym (at_gap 0 b t (gap 0 b n)))

pub starts_more : (t rest : List ℕ) → starts t ≡ true → starts (t ++ rest) ≡ true
unfolding starts
starts_more [] rest e = contradicts e refl
starts_more (b ∷ t) rest e = e

-- ---- decimals

-- one digit more: v is the number before it, and x the number with it
one-digit : (on : Bool) (v x : ℕ) (rest : List ℕ) → v ≡ x / 10 → x < 2 ^ 64 → numbers_from on v ((48 + x % 10) ∷ rest) ≡ numbers_from true x rest
one-digit on v x rest e h =
    let s : 10 * v + (48 + x % 10 - 48) ≡ x = omega arith in
    at-digit v (48 + x % 10) rest on (is_a_digit v (48 + x % 10) (record { low = omega arith; high = omega arith; small = omega arith }))
    ∙ ap (λ (n : ℕ). numbers_from true n rest) s

digits : (n x : ℕ) (rest : List ℕ) → x < 10 ^ suc n → x < 2 ^ 64 → numbers_from false 0 (digits_of (suc n) x ++ rest) ≡ numbers_from true x rest
unfolding digits_of
digits zero x rest f h =
    let z : x / 10 ≡ 0 = omega arith in
    rw (eq-eqb (x / 10) 0 z) (one-digit false 0 x rest (sym z) h)
digits (suc n) x rest f h =
    let f' : x < 10 ^ suc n * 10 = rw pow-suc at f in
    case_on (eqb (x / 10) 0)
    (λ t. rw t (one-digit false 0 x rest (sym (eqb-true (x / 10) 0 t)) h))
    (λ t.
    rw t
    (ap (numbers_from false 0) (append_assoc (digits_of (suc n) (x / 10)) ((48 + x % 10) ∷ []) rest)
    ∙ digits n (x / 10) ((48 + x % 10) ∷ rest) ((div-lt_iff_lt-mul (zero-lt-suc 9)).1 f') (omega arith)
    ∙ one-digit true (x / 10) x rest refl h))

pub decimal : (x : ℕ) (rest : List ℕ) → x < 2 ^ 64 → starts rest ≡ true → numbers_from false 0 (decimal_of x ++ rest) ≡ x ∷ numbers_from false 0 rest
decimal x rest h e = digits 19 x rest (omega arith) h ∙ ends x rest e

-- ---- fields

pub numbers-field : (has : Bool) (label : List ℕ) (v : ℕ) (rest : List ℕ) → plain label ≡ true → v < 2 ^ 64 → starts rest ≡ true
    → numbers_from false 0 (field has label v ++ rest) ≡ given has v ++ numbers_from false 0 rest
unfolding field
numbers-field true label v rest p h e =
    ap (numbers_from false 0) (append_assoc label (decimal_of v) rest) ∙ skip label (decimal_of v ++ rest) p ∙ decimal v rest h e
numbers-field false label v rest p h e = refl

starts-field : (has : Bool) (label : List ℕ) (v : ℕ) (rest : List ℕ) → starts label ≡ true → starts rest ≡ true → starts (field has label v ++ rest) ≡ true
unfolding field
starts-field true label v rest e f = starts_more (label ++ decimal_of v) rest (starts_more label (decimal_of v) e)
starts-field false label v rest e f = f

-- ---- the labels

-- a text that is no part of a number and has none
pub record Label (t : List ℕ) : Type 0 where
  pub clear : plain t ≡ true
  pub begins : starts t ≡ true

refused-label : Label (codes " refused (")
unfolding codes plain starts
refused-label = record { clear = refl; begins = refl }

text-label : Label (codes "): ")
unfolding codes plain starts
text-label = record { clear = refl; begins = refl }

writer-label : Label (codes ". Writer ")
unfolding codes plain starts
writer-label = record { clear = refl; begins = refl }

page-label : (later : Bool) → Label (page_label later)
unfolding codes plain starts
page-label true = record { clear = refl; begins = refl }
page-label false = record { clear = refl; begins = refl }

line-label : Label (codes ", line ")
unfolding codes plain starts
line-label = record { clear = refl; begins = refl }

holder-label : (later : Bool) → Label (holder_label later)
unfolding codes plain starts
holder-label true = record { clear = refl; begins = refl }
holder-label false = record { clear = refl; begins = refl }

dot-label : Label (codes ".")
unfolding codes plain starts
dot-label = record { clear = refl; begins = refl }

dot-none : numbers_from false 0 (codes ".") ≡ []
unfolding codes numbers_from
dot-none = refl

-- ---- a sentence

numbers-opening : (c n : ℕ) (rest : List ℕ) → n < 2 ^ 64 → numbers_from false 0 (opening c n ++ rest) ≡ n ∷ numbers_from false 0 rest
unfolding opening
numbers-opening c n rest h =
    let text = text_of n ++ rest in
    let after = codes "): " ++ text in
    ap (numbers_from false 0) (simp append_assoc)
    ∙ skip (name_of c) (codes " refused (" ++ (decimal_of n ++ after)) (name-fits c).clear
    ∙ skip (codes " refused (") (decimal_of n ++ after) refused-label.clear
    ∙ decimal n after h (starts_more (codes "): ") text text-label.begins)
    ∙ ap (λ (l : List ℕ). n ∷ l) (skip (codes "): ") text text-label.clear ∙ skip (text_of n) rest (text-fits n).clear)

-- the numbers of the fields
abbrev pub fields_of : Reason → List ℕ
fields_of r =
    given (takes_writer r.call) r.writer
    ++ (given (takes_page r.call) r.page ++ (given (takes_line r.call) r.line ++ (given (meets_writer r.number) r.holder ++ [])))

pub record Small (r : Reason) : Type 0 where
  pub number : r.number < 2 ^ 64
  pub writer : r.writer < 2 ^ 64
  pub page : r.page < 2 ^ 64
  pub line : r.line < 2 ^ 64
  pub holder : r.holder < 2 ^ 64

module _ (r : Reason) (s : Small r) where
  abbrev has-writer : Bool
  has-writer = takes_writer r.call

  abbrev has-page : Bool
  has-page = takes_page r.call

  abbrev after-holder : List ℕ
  after-holder = codes "."

  abbrev after_line : List ℕ
  after_line = field (meets_writer r.number) (holder_label has-page) r.holder ++ after-holder

  abbrev after-page : List ℕ
  after-page = field (takes_line r.call) (codes ", line ") r.line ++ after_line

  abbrev after-writer : List ℕ
  after-writer = field has-page (page_label has-writer) r.page ++ after-page

  starts-line : starts after_line ≡ true
  starts-line = starts-field (meets_writer r.number) (holder_label has-page) r.holder after-holder (holder-label has-page).begins dot-label.begins

  starts-page : starts after-page ≡ true
  starts-page = starts-field (takes_line r.call) (codes ", line ") r.line after_line line-label.begins starts-line

  starts-writer : starts after-writer ≡ true
  starts-writer = starts-field has-page (page_label has-writer) r.page after-page (page-label has-writer).begins starts-page

  numbers-closing : numbers_from false 0 (closing r) ≡ fields_of r
  unfolding closing
  numbers-closing =
      numbers-field has-writer (codes ". Writer ") r.writer after-writer writer-label.clear s.writer starts-writer
      ∙ ap (λ (l : List ℕ). given has-writer r.writer ++ l)
      (numbers-field has-page (page_label has-writer) r.page after-page (page-label has-writer).clear s.page starts-page
      ∙ ap (λ (l : List ℕ). given has-page r.page ++ l)
      (numbers-field (takes_line r.call) (codes ", line ") r.line after_line line-label.clear s.line starts-line
      ∙ ap (λ (l : List ℕ). given (takes_line r.call) r.line ++ l)
      (numbers-field (meets_writer r.number) (holder_label has-page) r.holder after-holder (holder-label has-page).clear s.holder dot-label.begins
      ∙ ap (λ (l : List ℕ). given (meets_writer r.number) r.holder ++ l) dot-none)))

  pub numbers-sentence : numbers_in (sentence r) ≡ r.number ∷ fields_of r
  unfolding sentence
  numbers-sentence = numbers-opening r.call r.number (closing r) s.number ∙ ap (λ (l : List ℕ). r.number ∷ l) numbers-closing
