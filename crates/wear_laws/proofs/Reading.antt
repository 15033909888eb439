-- What a line of a listing tells is the stores that it was printed with.
use Prim.Native.Nat.{ℕ, ◌+◌, ◌≤◌}
use mathlib.Core.Bool.{Bool, true, false, not, ◌&&◌}
use mathlib.Core.List.{List, [], ◌∷◌, ◌++◌, append_assoc, append-nil}
use mathlib.Core.Path.{◌≡◌, refl, ap, ◌∙◌}
use native.Mathlib.Omega.{arith}
use lib.Dec.{leb, eqb}
use lib.ListN.{get_or}
use borrow.Author.Tests.{leb-true, ne_eqb, not-true}
use Rattle.bounded.proofs.Tests.{and_left, and_right, every_held}
use Rattle.cutting.specs.Feeding.{fed_byte, fed}
use Rattle.cutting.proofs.Feeding.{fed-append}
use Rattle.decimals.specs.Decimal.{decimal_of}
use Rattle.text.specs.Fields.{with_byte, fields, all_digits}
use Rattle.text.proofs.Again.{are_all_digits, decimal-value}
use Rattle.printing.specs.declared.Output.{Output}
use Rattle.printing.specs.declared.Output.TheVariants.{Answered, Shown, Unknown}
use Rattle.printing.specs.Output.{commas, fields_of, output_line}
use Rattle.wear.specs.Wear.{stores_in}
use Rattle.wear_laws.specs.Inputs.{unfed}
use Rattle.wear_laws.specs.Listings.{number_in, told, tells}
use Rattle.wear_laws.proofs.Turned.{plain_byte, Readable}

-- ---- fields

abbrev plain : List ℕ → Bool
plain [] = true
plain (b ∷ bs) = plain_byte b && plain bs

digits-plain : (l : List ℕ) → all_digits l ≡ true → plain l ≡ true
unfolding all_digits
digits-plain [] e = refl
digits-plain (b ∷ l) e =
    let p = every_held (leb 48 b ∷ leb b 57 ∷ all_digits l ∷ []) e in
    let low = leb-true 48 b p.0 in
    rw (ne_eqb b 10 (λ q. omega arith), ne_eqb b 44 (λ q. omega arith)) (digits-plain l p.1.1.0)

decimal-plain : (v : ℕ) → plain (decimal_of v) ≡ true
decimal-plain v = digits-plain (decimal_of v) (are_all_digits 20 v)

-- fields after the first, each after its comma
abbrev joined : List (List ℕ) → List ℕ
joined [] = []
joined (f ∷ fs) = 44 ∷ (f ++ joined fs)

abbrev all_plain : List (List ℕ) → Bool
all_plain [] = true
all_plain (f ∷ fs) = plain f && all_plain fs

module _ (b : ℕ) (l : List ℕ) (e : plain (b ∷ l) ≡ true) where
  here : plain_byte b ≡ true
  here = and_left (plain_byte b) (plain l) e

  rest : plain l ≡ true
  rest = and_right (plain_byte b) (plain l) e

  no-newline : eqb b 10 ≡ false
  no-newline = not-true (eqb b 10) (and_left (not (eqb b 10)) (not (eqb b 44)) here)

  no-comma : eqb b 44 ≡ false
  no-comma = not-true (eqb b 44) (and_right (not (eqb b 10)) (not (eqb b 44)) here)

fields-last : (a : List ℕ) → plain a ≡ true → fields a ≡ a ∷ []
unfolding fields with_byte
fields-last [] e = refl
fields-last (b ∷ a) e = rw (no-comma b a e, fields-last a (rest b a e))

fields-more : (a r : List ℕ) → plain a ≡ true → fields (a ++ (44 ∷ r)) ≡ a ∷ fields r
unfolding fields with_byte
fields-more [] r e = refl
fields-more (b ∷ a) r e = rw (no-comma b a e, fields-more a r (rest b a e))

fields-joined : (a : List ℕ) (fs : List (List ℕ)) → plain a ≡ true → all_plain fs ≡ true → fields (a ++ joined fs) ≡ a ∷ fs
fields-joined a [] e h = rw append-nil (fields-last a e)
fields-joined a (f ∷ fs) e h =
    fields-more a (f ++ joined fs) e
    ∙ ap (λ (x : List (List ℕ)). a ∷ x) (fields-joined f fs (and_left (plain f) (all_plain fs) h) (and_right (plain f) (all_plain fs) h))

commas-joined : (fs : List (List ℕ)) → commas fs ≡ joined fs ++ (10 ∷ [])
commas-joined [] = refl
commas-joined (f ∷ fs) = rw (commas-joined fs, append_assoc)

-- ---- a line of a text

-- no newline
abbrev pub one_line : List ℕ → Bool
one_line [] = true
one_line (b ∷ l) = not (eqb b 10) && one_line l

pub one-line-more : (l : List ℕ) (b : ℕ) → one_line l ≡ true → eqb b 10 ≡ false → one_line (l ++ (b ∷ [])) ≡ true
one-line-more [] b e h = rw h
one-line-more (c ∷ l) b e h =
    rw (not-true (eqb c 10) (and_left (not (eqb c 10)) (one_line l) e)) (one-line-more l b (and_right (not (eqb c 10)) (one_line l) e) h)

plain-one : (a r : List ℕ) → plain a ≡ true → one_line r ≡ true → one_line (a ++ r) ≡ true
plain-one [] r e h = h
plain-one (b ∷ a) r e h = rw (no-newline b a e) (plain-one a r (rest b a e) h)

joined-one : (fs : List (List ℕ)) → all_plain fs ≡ true → one_line (joined fs) ≡ true
joined-one [] h = refl
joined-one (f ∷ fs) h = plain-one f (joined fs) (and_left (plain f) (all_plain fs) h) (joined-one fs (and_right (plain f) (all_plain fs) h))

module _ {W : Type 0} (act : W → List ℕ → W) where
  -- what has come of a line
  pub fed-part : (w : W) (begun t : List ℕ) → one_line t ≡ true
      → fed act (record { done = w; begun = begun }) t ≡ record { done = w; begun = begun ++ t }
  unfolding fed fed_byte
  fed-part w begun [] e = rw append-nil
  fed-part w begun (b ∷ t) e =
      let n = not-true (eqb b 10) (and_left (not (eqb b 10)) (one_line t) e) in
      rw n (fed-part w (begun ++ (b ∷ [])) t (and_right (not (eqb b 10)) (one_line t) e) ∙ rw append_assoc)

  -- and its newline
  pub fed-whole : (w : W) (t : List ℕ) → one_line t ≡ true → fed act (unfed w) (t ++ (10 ∷ [])) ≡ unfed (act w t)
  unfolding fed fed_byte
  fed-whole w t e = fed-append act (unfed w) t (10 ∷ []) ∙ rw (fed-part w [] t e)

-- ---- what it tells

number-in : (v : ℕ) → v ≤ 535161 → number_in (decimal_of v) ≡ v
number-in v h = rw (are_all_digits 20 v) (decimal-value v (omega arith))

output-plain : (o : Output) → Readable o → all_plain (fields_of o) ≡ true
output-plain (Answered letter number stores) h = rw (h.0, decimal-plain number, decimal-plain stores)
output-plain (Shown byte) h = rw (decimal-plain 0, decimal-plain byte)
output-plain Unknown h = rw (decimal-plain 0)

field_told : (n : ℕ) (o : Output) → Readable o → number_in (get_or (decimal_of n ∷ fields_of o) 3 []) ≡ stores_in o
field_told n (Answered letter number stores) h = number-in stores h.1
field_told n (Shown byte) h = number-in 0 (omega arith)
field_told n Unknown h = number-in 0 (omega arith)

pub line-told : (s n : ℕ) (o : Output) → Readable o → fed tells (unfed s) (output_line n o) ≡ unfed (s + stores_in o)
unfolding output_line
line-told s n o h =
    let fs = fields_of o in
    let ok = output-plain o h in
    let t = decimal_of n ++ joined fs in
    let e : decimal_of n ++ commas fs ≡ t ++ (10 ∷ []) = rw (commas-joined fs, append_assoc) in
    let one = plain-one (decimal_of n) (joined fs) (decimal-plain n) (joined-one fs ok) in
    let fields-are = fields-joined (decimal_of n) fs (decimal-plain n) ok in
    let reads : told t ≡ stores_in o = ap (λ (x : List (List ℕ)). number_in (get_or x 3 [])) fields-are ∙ field_told n o h in
    ap (fed tells (unfed s)) e ∙ fed-whole tells s t one ∙ ap (λ (x : ℕ). unfed (s + x)) reads
