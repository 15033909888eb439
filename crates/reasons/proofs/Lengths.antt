-- How long the parts of a sentence are, and what decimals promises of a text, as a text put.
use mathlib.Core.Path.{◌≡◌, refl, ap}
use mathlib.Core.Bool.{Bool, true, false, cond}
use mathlib.Core.List.{List, ◌++◌}
use Prim.Native.Nat.{ℕ, ◌+◌, ◌<◌, ◌≤◌}
use native.Mathlib.Omega.{arith}
use lib.Dec.{leb}
use lib.ListN.{length, length-append}
use borrow.Author.Tests.{leb-true}
use Rattle.bounded.specs.Below.{all_below}
use Rattle.bounded.proofs.Below.{all-at}
use Rattle.words.specs.Words.{over}
use Rattle.decimals.specs.Decimal.{digits_of, decimal_of}
use Rattle.decimals.proofs.Printing.{decimal-le}
use Rattle.number_text.specs.Text.{Put}
use Rattle.wording.specs.Calls.{number_count}
use Rattle.wording.specs.Words.{codes, name_of, text_of}
use Rattle.wording.proofs.Wording.{name-fits, text-fits}
use Rattle.reasons.specs.Sentence.{opening, field, page_label, holder_label}

pub as-put : {l xs m : List ℕ} {a b : ℕ} → (m ≡ over l a xs) × (b ≡ a + length xs) → Put l a xs m b
as-put h = record { laid = h.0; place = h.1 }

-- a number of the table has at most two digits
pub two_digits : (n : ℕ) → n < number_count → length (decimal_of n) ≤ 2
unfolding all_below digits_of
two_digits n h = leb-true (length (decimal_of n)) 2 (all-at (λ k. leb (length (decimal_of k)) 2) number_count n h refl)

pub opening-le : (c n : ℕ) → n < number_count → length (opening c n) ≤ 74
unfolding opening codes
opening-le c n h =
    let text = text_of n in
    let after = codes "): " ++ text in
    let number = decimal_of n ++ after in
    let rest = codes " refused (" ++ number in
    omega (
      arith,
      (name-fits c).short,
      two_digits n h,
      (text-fits n).short,
      length-append (name_of c) rest,
      length-append (codes " refused (") number,
      length-append (decimal_of n) after,
      length-append (codes "): ") text,
    )

pub field-le : (has : Bool) (label : List ℕ) (v : ℕ) → length (field has label v) ≤ length label + 20
unfolding field
field-le true label v = omega (arith, length-append label (decimal_of v), decimal-le v)
field-le false label v = omega arith

pub joined-le : (has later : Bool) (label first : List ℕ) (v n : ℕ) → length label ≡ n → length first ≡ n
    → length (field has (cond later label first) v) ≤ n + 20
joined-le has true label first v n e f = omega (arith, field-le has label v, e)
joined-le has false label first v n e f = omega (arith, field-le has first v, f)

pub page-le : (has later : Bool) (v : ℕ) → length (field has (page_label later) v) ≤ 27
unfolding codes
page-le has later v = joined-le has later (codes ", page ") (codes ". Page ") v 7 refl refl

pub holder-le : (has later : Bool) (v : ℕ) → length (field has (holder_label later) v) ≤ 37
unfolding codes
holder-le has later v = joined-le has later (codes ", held by writer ") (codes ". Held by writer ") v 17 refl refl

-- where a field that was put ends
pub field_end : {l m : List ℕ} {a b : ℕ} (has : Bool) (label : List ℕ) (v : ℕ) → Put l a (field has label v) m b → b ≤ a + (length label + 20)
field_end has label v p = omega (arith, p.place, field-le has label v)

-- how long the labels are of which there are two
pub page-label : {label : List ℕ} (later : Bool) → label ≡ page_label later → length label ≡ 7
unfolding codes
page-label true e = ap length e
page-label false e = ap length e

pub holder-label : {label : List ℕ} (later : Bool) → label ≡ holder_label later → length label ≡ 17
unfolding codes
holder-label true e = ap length e
holder-label false e = ap length e
