-- Laws of a text of moduli: which line decides, and that a table that is read is one of 24 moduli in the range.
use Prim.Native.Nat.{ℕ, zero, suc, ◌+◌, ◌-◌, ◌<◌, ◌≤◌}
use mathlib.Core.Bool.{true, false, ◌||◌, not, cond}
use mathlib.Core.List.{List, [], ◌∷◌}
use mathlib.Core.Path.{◌≡◌, refl, sym, ap, ap₂, ◌∙◌, subst}
use native.Mathlib.Numerals.{add-one}
use native.Mathlib.Omega.{arith}
use lib.Dec.{ltb, leb, eqb}
use lib.ListN.{length, get_or, take, drop, set, replicate, length-drop}
use lib.Seq.{take_all, ext_get_or}
use Rattle.std.proofs.lemmas.List.{drop-drop}
use borrow.Author.Tests.{eqb-true, eqb-false, eq-eqb, ne_eqb, lt-ltb, le-ltb, le-leb, lt-leb}
use Rattle.bounded.specs.Below.{all_below}
use Rattle.bounded.specs.Rows.{Row, refusal}
use Rattle.bounded.specs.Tab.{tab, filled}
use Rattle.bounded.proofs.Below.{split_below, all_made}
use Rattle.bounded.proofs.Lists.{position_first, position_none}
use Rattle.bounded.proofs.Rows.{none-apply}
use Rattle.bounded.proofs.Tab.{length-tab, get_or-tab, filled_none, filled-turn, length-filled, get_or-filled}
use Rattle.bounded.proofs.Tests.{case_on, contradicts, row-yes, row-no, row_keeps}
use Rattle.meters.specs.Meters.{modulus_bad, moduli_ok}
use Rattle.std.proofs.Common.{Ok, Err, Some, None}
use Rattle.std.specs.List.{position}
use Rattle.rows.specs.declared.Refusal.{Refusal}
use Rattle.rows.specs.declared.Refusal.TheVariants.{BadTableLine}
use Rattle.rows.specs.Numbers.{number}
use Rattle.rows.proofs.Numbers.{number-some}
use Rattle.moduli_text.specs.Text.{place_of, modulus_in, line_rows, first_line, first_rows, line_start, from_line, lines_row, text_row, moduli_in, read_of, Reading, Decides, Reads}

-- ---- the text from byte a on

pub from_byte : (a : ℕ) (l : List ℕ) → take (length l - a) (drop a l) ≡ drop a l
from_byte a l = take_all (length l - a) (drop a l) (omega (arith, length-drop a l))

-- ---- the numbers of a line

abbrev Known : ℕ → Type 0
Known n = eqb n 0 || (eqb n 25 || eqb n 26) ≡ true

abbrev AllKnown : List Row → Type 0
AllKnown [] = Unit {0}
AllKnown (r ∷ rs) = Known r.1 × AllKnown rs

rows-known : (rs : List Row) → AllKnown rs → Known (refusal rs)
rows-known [] k = refl
rows-known (r ∷ rs) k = row_keeps Known r.0 r.1 (refusal rs) k.0 (rows-known rs k.1)

module _ (text : List ℕ) where
  abbrev row : ℕ → ℕ
  row m = refusal (first_rows m (from_line text m))

  -- where the lines before it are right, line m decides
  pub lines-on : (m : ℕ) → lines_row text m ≡ 0 → lines_row text (m + 1) ≡ row m
  unfolding lines_row
  lines-on m e = rw add-one (sym (row-yes (eqb (lines_row text m) 0) (row m) (lines_row text m) (eq-eqb (lines_row text m) 0 e)))

  -- and where it is turned back, it decides for all
  lines-stop : (n m r : ℕ) → m < n → lines_row text m ≡ 0 → r ≡ row m → (r ≡ 0 → ⊥) → r ≡ lines_row text n
  unfolding lines_row
  lines-stop zero m r l e q z = absurd (omega arith)
  lines-stop (suc n) m r l e q z =
      split_below l
      (λ h. subst (λ (k : ℕ). r ≡ lines_row text (suc k)) h (q ∙ row-yes (eqb (lines_row text m) 0) (row m) (lines_row text m) (eq-eqb (lines_row text m) 0 e)))
      (λ h. let p = lines-stop n m r h e q z in row-no (eqb (lines_row text n) 0) (row n) (lines_row text n) r (ne_eqb (lines_row text n) 0 (λ x. z (p ∙ x))) p)

  pub text-stop : (m r : ℕ) → m < 24 → lines_row text m ≡ 0 → r ≡ row m → (r ≡ 0 → ⊥) → r ≡ text_row text
  unfolding text_row
  text-stop m r l e q z =
      let p = lines-stop 24 m r l e q z in
      row-no (eqb (lines_row text 24) 0) (cond (ltb (line_start text 24) (length text)) 25 0) (lines_row text 24) r (ne_eqb (lines_row text 24) 0 (λ x. z (p ∙ x))) p

  pub text-end : lines_row text 24 ≡ 0 → cond (ltb (line_start text 24) (length text)) 25 0 ≡ text_row text
  unfolding text_row
  text-end e = row-yes (eqb (lines_row text 24) 0) (cond (ltb (line_start text 24) (length text)) 25 0) (lines_row text 24) (eq-eqb (lines_row text 24) 0 e)

  -- ---- the numbers are 25 and 26

  row-known : (m : ℕ) → Known (row m)
  row-known m = rows-known (first_rows m (from_line text m)) (refl, (refl, (refl, (refl, (refl, (refl, tt))))))

  lines-known : (n : ℕ) → Known (lines_row text n)
  unfolding lines_row
  lines-known zero = refl
  lines-known (suc n) = row_keeps Known (eqb (lines_row text n) 0) (row n) (lines_row text n) (row-known n) (lines-known n)

  text-known : Known (text_row text)
  unfolding text_row
  text-known = row_keeps Known (eqb (lines_row text 24) 0) _ (lines_row text 24) (row_keeps Known (ltb (line_start text 24) (length text)) 25 0 refl refl) (lines-known 24)

  pub text-taken : eqb (text_row text) 25 ≡ false → eqb (text_row text) 26 ≡ false → text_row text ≡ 0
  text-taken e f =
      case_on (eqb (text_row text) 0)
      (λ t. eqb-true (text_row text) 0 t)
      (λ t. let h : eqb (text_row text) 0 || (eqb (text_row text) 25 || eqb (text_row text) 26) ≡ true = text-known in contradicts {b = false} (rw (t, e, f) at h) refl)

  -- ---- a table that is read

  each_row : (n m : ℕ) → m < n → lines_row text n ≡ 0 → row m ≡ 0
  unfolding lines_row
  each_row zero m l e = absurd (omega arith)
  each_row (suc n) m l e =
      case_on (eqb (lines_row text n) 0)
      (λ t.
      let here : row n ≡ 0 = rw t at e in
      split_below l (λ h. subst (λ (k : ℕ). row k ≡ 0) (sym h) here) (λ h. each_row n m h (eqb-true (lines_row text n) 0 t)))
      (λ t. absurd (eqb-false (lines_row text n) 0 t (rw t at e)))

  lines-taken : text_row text ≡ 0 → lines_row text 24 ≡ 0
  unfolding text_row
  lines-taken e =
      case_on (eqb (lines_row text 24) 0) (λ t. eqb-true (lines_row text 24) 0 t) (λ t. absurd (eqb-false (lines_row text 24) 0 t (rw t at e)))

  abbrev entry : ℕ → ℕ
  entry m = modulus_in (first_line (from_line text m))

  pub moduli-ok : text_row text ≡ 0 → moduli_ok (moduli_in text) ≡ true
  unfolding moduli_ok moduli_in
  moduli-ok e =
      let each : all_below 24 (λ m. not (modulus_bad (get_or (tab 24 entry) m 0))) ≡ true =
      all_made (λ m. not (modulus_bad (get_or (tab 24 entry) m 0))) 24
      (λ m l.
      ap (λ (x : ℕ). not (modulus_bad x)) (get_or-tab 24 entry m 0 l)
      ∙ ap not (none-apply (first_rows m (from_line text m)) (omega arith) (each_row 24 m l (lines-taken e))).1.1.1.1.1.0) in
      rw (length-tab 24 entry, each)

-- ---- the lines one after the other: the first m are read, and rest is the text after them

pub record Going (text moduli rest : List ℕ) (m : ℕ) : Type 0 where
  pub inside : line_start text m ≤ length text
  pub start : rest ≡ from_line text m
  pub right : lines_row text m ≡ 0
  pub so_far : moduli ≡ filled m (entry text) (replicate 24 0)

pub going-first : (text : List ℕ) → Going text (replicate 24 0) text 0
unfolding line_start lines_row
going-first text = record { inside = omega arith; start = refl; right = refl; so_far = filled_none (entry text) (replicate 24 0) }

-- a row that turns the text back
refused : (text : List ℕ) (r : Refusal) → number r ≡ text_row text → Reads (Err r) (read_of text)
unfolding read_of
refused text r e = rw (← e, ne_eqb (number r) 0 (number-some r))

module _ (text moduli rest : List ℕ) (m : ℕ) (g : Going text moduli rest m) (l : m < 24) where
  row-here : refusal (first_rows m rest) ≡ row text m
  row-here = ap (λ (t : List ℕ). refusal (first_rows m t)) g.start

  stopped : (r : Refusal) → number r ≡ refusal (first_rows m rest) → Reads (Err r) (read_of text)
  stopped r e = refused text r (text-stop text m (number r) l g.right (e ∙ row-here) (number-some r))

  -- line m has no end
  pub unended : length rest ≡ place_of 10 rest → Reads (Err BadTableLine) (read_of text)
  unended e = stopped BadTableLine (row-yes (leb (length rest) (place_of 10 rest)) 25 (refusal (line_rows m (first_line rest))) (le-leb (length rest) (place_of 10 rest) (omega (arith, e))))

  module _ (line : List ℕ) (e : line ≡ first_line rest) (inside : place_of 10 rest < length rest) where
    row_line : refusal (line_rows m line) ≡ refusal (first_rows m rest)
    row_line =
        ap (λ (t : List ℕ). refusal (line_rows m t)) e
        ∙ row-no (leb (length rest) (place_of 10 rest)) 25 (refusal (line_rows m (first_line rest))) _ (lt-leb (length rest) (place_of 10 rest) inside) refl

    pub going-stops : (r : Refusal) → Decides (Err r) (line_rows m line) (modulus_in line) → Reads (Err r) (read_of text)
    going-stops r h = stopped r (h ∙ row_line)

    pub going_on : (v : ℕ) → Decides (Ok v) (line_rows m line) (modulus_in line) → (after : List ℕ) → after ≡ drop (place_of 10 rest + 1) rest → Going text (set moduli m v) after (m + 1)
    unfolding line_start
    going_on v h after q =
        let n : place_of 10 rest ≡ place_of 10 (from_line text m) = ap (place_of 10) g.start in
        let size : length rest ≡ length text - line_start text m = ap (λ (t : List ℕ). length t) g.start ∙ length-drop (line_start text m) text in
        let next : line_start text (m + 1) ≡ line_start text m + (place_of 10 (from_line text m) + 1) = rw add-one refl in
        record {
          inside = omega (arith, next, n, size, inside, g.inside);
          start = q ∙ ap₂ (λ (k : ℕ) (t : List ℕ). drop (k + 1) t) n g.start ∙ drop-drop (place_of 10 (from_line text m) + 1) (line_start text m) text ∙ ap (λ (k : ℕ). drop k text) (sym next);
          right = lines-on text m g.right ∙ sym row-here ∙ sym row_line ∙ sym h.0;
          so_far = filled-turn (entry text) (replicate 24 0) moduli m v g.so_far (h.1 ∙ ap modulus_in e ∙ ap (λ (t : List ℕ). modulus_in (first_line t)) g.start);
        }

module _ (text moduli rest : List ℕ) (m : ℕ) (low : m ≤ 24) (high : 24 ≤ m) (so : Going text moduli rest m) where
  g : Going text moduli rest 24
  g = let e : m ≡ 24 = omega arith in subst (λ (k : ℕ). Going text moduli rest k) e so

  row_ends : cond (ltb (line_start text 24) (length text)) 25 0 ≡ text_row text
  row_ends = text-end text g.right

  size_left : length rest ≡ length text - line_start text 24
  size_left = ap (λ (t : List ℕ). length t) g.start ∙ length-drop (line_start text 24) text

  pub more_left : (length rest ≡ 0 → ⊥) → Reads (Err BadTableLine) (read_of text)
  more_left n =
      refused text BadTableLine
      (row-yes (ltb (line_start text 24) (length text)) 25 0 (lt-ltb (line_start text 24) (length text) (omega (arith, size_left, n))) ∙ row_ends)

  pub nothing_left : length rest ≡ 0 → Reads (Ok moduli) (read_of text)
  unfolding moduli_in read_of
  nothing_left n =
      let none : 0 ≡ text_row text = row-no (ltb (line_start text 24) (length text)) 25 0 0 (le-ltb (line_start text 24) (length text) (omega (arith, size_left, n))) refl ∙ row_ends in
      let all : moduli ≡ tab 24 (entry text) = g.so_far ∙ filled_is in
      rw (← none, all)
    where
      filled_is : filled 24 (entry text) (replicate 24 0) ≡ tab 24 (entry text)
      filled_is =
          ext_get_or 0 (filled 24 (entry text) (replicate 24 0)) (tab 24 (entry text)) (length-filled 24 (entry text) (replicate 24 0) ∙ sym (length-tab 24 (entry text)))
          (λ i b.
          let k : i < 24 = omega (arith, b, length-filled 24 (entry text) (replicate 24 0)) in
          get_or-filled 24 (entry text) (replicate 24 0) i 0 k (omega arith) ∙ sym (get_or-tab 24 (entry text) i 0 k))

-- ---- what a reading gives, of each result

module _ (text : List ℕ) where
  pub read-row : (r : Refusal) → Reads (Err r) (read_of text) → number r ≡ text_row text
  unfolding read_of
  read-row r h = ap (λ (x : Reading). x.row) h

  pub read_taken : (ms : List ℕ) → Reads (Ok ms) (read_of text) → (0 ≡ text_row text) × (ms ≡ moduli_in text)
  unfolding read_of
  read_taken ms h =
      let e : 0 ≡ text_row text = ap (λ (x : Reading). x.row) h in
      (e, ap (λ (x : Reading). x.moduli) h ∙ sym (row-yes (eqb (text_row text) 0) (moduli_in text) (replicate 24 0) (eq-eqb (text_row text) 0 (sym e))))

-- ---- the parts that a line is cut into

pub split-found : (b i : ℕ) (s : List ℕ) → position (λ (x : ℕ). eqb x b) s ≡ Some i
    → (place_of b s < length s) × (take i s ≡ take (place_of b s) s) × (take (length s - (i + 1)) (drop (i + 1) s) ≡ drop (place_of b s + 1) s)
unfolding place_of
split-found b i s e =
    let h = position_first (λ (x : ℕ). eqb x b) s 0 i e in
    let q : i ≡ place_of b s = h.1 in
    (omega (arith, h.0, q), ap (λ (k : ℕ). take k s) q, from_byte (i + 1) s ∙ ap (λ (k : ℕ). drop (k + 1) s) q)

pub split-none : (b : ℕ) (s : List ℕ) → position (λ (x : ℕ). eqb x b) s ≡ None → length s ≡ place_of b s
unfolding place_of
split-none b s e = sym (position_none (λ (x : ℕ). eqb x b) s 0 e)
