use mathlib.Core.Bool.{true, false}
use mathlib.Core.Path.{◌≡◌, sym, ◌∙◌}
use lib.Dec.{eqb}
use lib.ListN.{length, get_or}
use borrow.Author.Tests.{eq-eqb, ne_eqb, lt-ltb, le-ltb}
use Rattle.bounded.specs.Below.{all_below}
use Rattle.bounded.proofs.Lists.{all_list}
use Rattle.moduli_text.specs.Text.{plain_decimal, is_digit}
use Rattle.moduli_text.proofs.is_plain.Goals as goal
use Rattle.moduli_text.proofs.is_plain.Goals.{else-s-gt1-via-then-s-gt1+else-s-eq48, else-s-gt1-via-else-s-gt1}

pub returns-then-is_empty : goal.returns-then-is_empty
unfolding plain_decimal
returns-then-is_empty c = let e : eqb (length c.args.s.now) 0 ≡ true = sym c.is_empty.ensures ∙ c.if-is_empty.true in rw e

pub returns-then-s-eq48 : goal.returns-then-s-eq48
unfolding plain_decimal
returns-then-s-eq48 c =
    let l = c.args.s.now in
    let e : eqb (length l) 0 ≡ false = sym c.is_empty.ensures ∙ c.if-is_empty.false in
    rw (e, lt-ltb 1 (length l) c.if-s-gt1.true, eq-eqb (get_or l 0 0) 48 c.if-s-eq48.true)

pub returns : goal.returns
unfolding plain_decimal
returns c =
    let l = c.args.s.now in
    let e : eqb (length l) 0 ≡ false = sym c.is_empty.ensures ∙ c.if-is_empty.false in
    let d : c.are_digits.result ≡ all_below (length l) (λ k. is_digit (get_or l k 0)) = c.are_digits.ensures ∙ all_list is_digit l 0 in
    elim c.else-s-gt1.branch [
      | else-s-gt1-via-then-s-gt1+else-s-eq48 w ↦ rw (e, lt-ltb 1 (length l) w.if-s-gt1.true, ne_eqb (get_or l 0 0) 48 w.if-s-eq48.false) d
      | else-s-gt1-via-else-s-gt1 w ↦ rw (e, le-ltb 1 (length l) w.if-s-gt1.false) d
    ]
