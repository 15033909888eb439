-- A sentence has at most 200 bytes, and each is printable.
use mathlib.Core.Path.{◌≡◌, refl}
use mathlib.Core.Bool.{Bool, true, false}
use mathlib.Core.List.{List, [], ◌∷◌, ◌++◌}
use Prim.Native.Nat.{ℕ, zero, suc, ◌+◌, ◌/◌, ◌%◌, ◌<◌, ◌≤◌}
use native.Mathlib.Nat.{mod-lt}
use native.Mathlib.Omega.{arith}
use lib.Dec.{eqb, ltb}
use lib.ListN.{length, length-append}
use borrow.Author.Tests.{le-leb, ltb-false}
use Rattle.bounded.proofs.Tests.{case_on}
use Rattle.words.proofs.Parts.{length_over}
use Rattle.decimals.specs.Decimal.{digits_of, decimal_of}
use Rattle.wording.specs.Calls.{can_return, takes_writer, takes_page, takes_line, meets_writer}
use Rattle.wording.specs.Words.{codes, name_of, text_of, printable}
use Rattle.std.specs.Prelude.{Result, Ok}
use Rattle.rows.specs.declared.Refusal.{Refusal}
use Rattle.reasons.proofs.Composing.{composed-by}
use Rattle.wording.proofs.Returns.{known}
use Rattle.wording.proofs.Wording.{name-fits, text-fits, plain-printable, printable-append}
use Rattle.reasons.specs.declared.Reason.{Reason}
use Rattle.reasons.specs.Sentence.{opening, field, page_label, holder_label, closing, sentence, compose_row, composed, composed_in}
use Rattle.reasons.proofs.Lengths.{opening-le, field-le, page-le, holder-le}

-- ---- how long

closing-le : (r : Reason) → length (closing r) ≤ 121
unfolding closing codes
closing-le r =
    let w = field (takes_writer r.call) (codes ". Writer ") r.writer in
    let p = field (takes_page r.call) (page_label (takes_writer r.call)) r.page in
    let l = field (takes_line r.call) (codes ", line ") r.line in
    let h = field (meets_writer r.number) (holder_label (takes_page r.call)) r.holder in
    omega (
      arith,
      field-le (takes_writer r.call) (codes ". Writer ") r.writer,
      page-le (takes_page r.call) (takes_writer r.call) r.page,
      field-le (takes_line r.call) (codes ", line ") r.line,
      holder-le (meets_writer r.number) (takes_page r.call) r.holder,
      length-append w (p ++ (l ++ (h ++ codes "."))),
      length-append p (l ++ (h ++ codes ".")),
      length-append l (h ++ codes "."),
      length-append h (codes "."),
    )

-- ---- printable

digit-printable : (v : ℕ) → printable ((48 + v % 10) ∷ []) ≡ true
unfolding printable
digit-printable v =
    let h : v % 10 < 10 = mod-lt v (omega arith) in
    rw (le-leb 32 (48 + v % 10) (omega arith), le-leb (48 + v % 10) 126 (omega arith))

digits-printable : (n v : ℕ) → printable (digits_of n v) ≡ true
unfolding digits_of printable
digits-printable zero v = refl
digits-printable (suc n) v =
    case_on (eqb (v / 10) 0)
    (λ t. rw t (digit-printable v))
    (λ t. rw t (printable-append (digits_of n (v / 10)) ((48 + v % 10) ∷ []) (digits-printable n (v / 10)) (digit-printable v)))

field-printable : (has : Bool) (label : List ℕ) (v : ℕ) → printable label ≡ true → printable (field has label v) ≡ true
unfolding field printable
field-printable true label v e = printable-append label (decimal_of v) e (digits-printable 20 v)
field-printable false label v e = refl

page-printable : (later : Bool) → printable (page_label later) ≡ true
unfolding codes printable
page-printable true = refl
page-printable false = refl

holder-printable : (later : Bool) → printable (holder_label later) ≡ true
unfolding codes printable
holder-printable true = refl
holder-printable false = refl

opening-printable : (c n : ℕ) → printable (opening c n) ≡ true
unfolding opening codes printable
opening-printable c n =
    let after = codes "): " ++ text_of n in
    let number = decimal_of n ++ after in
    let text = plain-printable (text_of n) (text-fits n).clear in
    printable-append (name_of c) (codes " refused (" ++ number) (plain-printable (name_of c) (name-fits c).clear)
    (printable-append (codes " refused (") number refl
    (printable-append (decimal_of n) after (digits-printable 20 n) (printable-append (codes "): ") (text_of n) refl text)))

-- a field before what is printable
before-printable : (has : Bool) (label : List ℕ) (v : ℕ) (rest : List ℕ) → printable label ≡ true → printable rest ≡ true
    → printable (field has label v ++ rest) ≡ true
before-printable has label v rest e f = printable-append (field has label v) rest (field-printable has label v e) f

closing-printable : (r : Reason) → printable (closing r) ≡ true
unfolding closing codes printable
closing-printable r =
    let holder = field (meets_writer r.number) (holder_label (takes_page r.call)) r.holder ++ codes "." in
    let line = field (takes_line r.call) (codes ", line ") r.line ++ holder in
    let page = field (takes_page r.call) (page_label (takes_writer r.call)) r.page ++ line in
    before-printable (takes_writer r.call) (codes ". Writer ") r.writer page refl
    (before-printable (takes_page r.call) (page_label (takes_writer r.call)) r.page line (page-printable (takes_writer r.call))
    (before-printable (takes_line r.call) (codes ", line ") r.line holder refl
    (before-printable (meets_writer r.number) (holder_label (takes_page r.call)) r.holder (codes ".") (holder-printable (takes_page r.call)) refl)))

-- ---- both, of each sentence that can be composed

pub record Shown (text : List ℕ) : Type 0 where
  pub short : length text ≤ 200
  pub clear : printable text ≡ true

pub shown : (r : Reason) → can_return r.call r.number ≡ true → Shown (sentence r)
unfolding sentence
shown r e =
    let k = known r.call r.number e in
    record {
      short = omega (arith, length-append (opening r.call r.number) (closing r), opening-le r.call r.number k.number, closing-le r);
      clear = printable-append (opening r.call r.number) (closing r) (opening-printable r.call r.number) (closing-printable r);
    }

-- what is composed lies in the target, whose length stays, also where composing is turned back
pub record Inside (target : List ℕ) (d : Result ℕ Refusal) (out : List ℕ) : Type 0 where
  pub same : length out ≡ length target
  pub fits : (n : ℕ) → d ≡ Ok n → n ≤ length out

length-kept : (r : Reason) (target : List ℕ) → length (composed_in r target) ≡ length target
unfolding composed_in compose_row
length-kept r target =
    case_on (ltb (length target) 200)
    (λ t. rw t refl)
    (λ t.
    case_on (can_return r.call r.number)
    (λ e. rw (t, e) (length_over target 0 (sentence r) (omega (arith, ltb-false (length target) 200 t, (shown r e).short))))
    (λ e. rw (t, e) refl))

pub inside : (r : Reason) (target : List ℕ) → Inside target (composed r (length target)) (composed_in r target)
inside r target =
    record {
      same = length-kept r target;
      fits = λ n e.
          let k = composed-by r target e in
          omega (arith, length-kept r target, k.count, k.long, (shown r k.can).short);
    }

-- the same of a result and a target that are told to be these
pub inside-told : (r : Reason) (target : List ℕ) {d : Result ℕ Refusal} {out : List ℕ}
    → d ≡ composed r (length target) → out ≡ composed_in r target → Inside target d out
inside-told r target v o = rw (v, o) (inside r target)
