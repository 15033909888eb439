use mathlib.Core.Path.{sym, ap, ◌∙◌}
use mathlib.Core.List.{List, [], ◌∷◌}
use Prim.Native.Nat.{ℕ, ◌-◌}
use native.Mathlib.Omega.{arith}
use lib.ListN.{length, get_or, drop, length-drop}
use lib.Seq.{take_all}
use Rattle.text.specs.Fields.{fields, line_of}
use Rattle.text.proofs.Starts.{parsed-empty, parsed-comma, parsed-letter, parsed-name, parsed-numbers}
use Rattle.text.proofs.parse.parse.Goals as goal

-- By how the line starts.
pub returns-then-line-eq0 : goal.returns-then-line-eq0
returns-then-line-eq0 c =
    let x = c.args in
    c.other_form.ensures ∙ sym (parsed-empty x.digits x.line.now c.if-line-eq0.true)

pub returns-then-letter-eq44 : goal.returns-then-letter-eq44
returns-then-letter-eq44 c =
    let x = c.args in
    c.other_form-then-letter-eq44.ensures ∙ sym (parsed-comma x.digits x.line.now (omega arith) c.if-letter-eq44.true)

pub returns-then-line-eq1 : goal.returns-then-line-eq1
returns-then-line-eq1 c =
    let x = c.args in
    sym (parsed-letter x.digits x.line.now c.if-line-eq1.true c.if-letter-eq44.false)

pub returns-then-line-ne44 : goal.returns-then-line-ne44
returns-then-line-ne44 c =
    let x = c.args in
    c.other_form-then-line-ne44.ensures ∙ sym (parsed-name x.digits x.line.now (omega arith) c.if-letter-eq44.false c.if-line-ne44.true)

pub returns : goal.returns
returns c =
    let x = c.args in
    let l = x.line.now in
    c.numbers.ensures
    ∙ ap (λ (t : List ℕ). line_of x.digits ((get_or l 0 0 ∷ []) ∷ fields t)) (take_all (length l - 2) (drop 2 l) (omega (arith, length-drop 2 l)))
    ∙ sym (parsed-numbers x.digits l (omega arith) c.if-letter-eq44.false c.if-line-ne44.false)
