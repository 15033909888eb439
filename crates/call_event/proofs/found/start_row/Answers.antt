use borrow.Author.Rules.{rules}
use mathlib.Core.Bool.{Bool, false, not}
use mathlib.Core.List.{List, [], ◌∷◌}
use mathlib.Core.Path.{◌≡◌, refl, sym, ap, ◌∙◌}
use borrow.Author.Tests.{lt-ltb, le-ltb}
use Rattle.std.specs.Prelude.{ℕ, Err}
use Rattle.bounded.specs.Rows.{Row, refusal}
use Rattle.bounded.proofs.Rows.{rows-first, rows_then}
use Rattle.bounded.proofs.Tests.{row-yes, row-no}
use Rattle.meters.specs.Meters.{moduli_ok, event_known}
use Rattle.rows.specs.Numbers.{number}
use Rattle.rows.proofs.Numbers.{number-some}
use Rattle.state.specs.State.{State}
use Rattle.state.specs.declared.Places.{Places}
use Rattle.state.specs.Wide.{some_wide}
use Rattle.refinement.specs.Calls.{quiet_rows}
use Rattle.refinement.proofs.Quiet.{quiet}
use Rattle.state_words.specs.Decoded.{decoded}
use Rattle.call_event.specs.Found.{start_rows}
use Rattle.call_event.proofs.found.start_row.Goals as goal

abbrev three : State → List ℕ → ℕ → ℕ → List Row
three st ms k m = (some_wide st.wide.writer, 29) ∷ (not (event_known k m), 20) ∷ (not (moduli_ok ms), 26) ∷ []

-- past the rows that come first
then-row : (st : State) (n : ℕ) (ms : List ℕ) (k m row : ℕ) → 0 ≡ refusal (quiet_rows st n) → row ≡ refusal (three st ms k m) → row ≡ refusal (start_rows st n ms k m)
then-row st n ms k m row e h = rows_then (quiet_rows st n) (three st ms k m) row (quiet st n 0 e refl).past h

-- The tests stand in the table's order.
pub returns-in_err-quiet_row : goal.returns-in_err-quiet_row
returns-in_err-quiet_row c =
    let a = c.args in
    let st = decoded a.words.now in
    let r = c.in_err-quiet_row.field-0.0 in
    let same : c.from_residual.result ≡ Err r = search rules in
    rw same (rows-first (quiet_rows st a.n) (three st a.moduli.now a.kind a.meter) (number r) c.in_err-quiet_row.ensures (number-some r))

pub returns-then-at-lt4 : goal.returns-then-at-lt4
returns-then-at-lt4 c =
    let a = c.args in
    let st = decoded a.words.now in
    let wide = ap (λ (p : Places). p.wide) c.requires.1 in
    then-row st a.n a.moduli.now a.kind a.meter 29 c.in_ok-quiet_row.ensures (row-yes (some_wide st.wide.writer) 29 _ (lt-ltb _ _ (rw wide at c.if-at-lt4.true)))

pub returns-then-not-is_known : goal.returns-then-not-is_known
returns-then-not-is_known c =
    let a = c.args in
    let st = decoded a.words.now in
    let wide = ap (λ (p : Places). p.wide) c.requires.1 in
    let narrow : some_wide st.wide.writer ≡ false = le-ltb _ _ (rw wide at c.if-at-lt4.false) in
    then-row st a.n a.moduli.now a.kind a.meter 20 c.in_ok-quiet_row.ensures
    (row-no (some_wide st.wide.writer) 29 _ 20 narrow (row-yes (not (event_known a.kind a.meter)) 20 _ (sym (ap not c.is_known.ensures) ∙ ap not c.if-not-is_known.true)))

pub returns-then-not-moduli_ok : goal.returns-then-not-moduli_ok
returns-then-not-moduli_ok c =
    let a = c.args in
    let st = decoded a.words.now in
    let wide = ap (λ (p : Places). p.wide) c.requires.1 in
    let narrow : some_wide st.wide.writer ≡ false = le-ltb _ _ (rw wide at c.if-at-lt4.false) in
    let known = sym (ap not c.is_known.ensures) ∙ ap not c.if-not-is_known.false in
    then-row st a.n a.moduli.now a.kind a.meter 26 c.in_ok-quiet_row.ensures
    (row-no (some_wide st.wide.writer) 29 _ 26 narrow
    (row-no (not (event_known a.kind a.meter)) 20 _ 26 known (row-yes (not (moduli_ok a.moduli.now)) 26 0 (sym (ap not c.moduli_ok.ensures) ∙ ap not c.if-not-moduli_ok.true))))

pub returns : goal.returns
returns c =
    let a = c.args in
    let st = decoded a.words.now in
    let wide = ap (λ (p : Places). p.wide) c.requires.1 in
    let narrow : some_wide st.wide.writer ≡ false = le-ltb _ _ (rw wide at c.if-at-lt4.false) in
    let known = sym (ap not c.is_known.ensures) ∙ ap not c.if-not-is_known.false in
    then-row st a.n a.moduli.now a.kind a.meter 0 c.in_ok-quiet_row.ensures
    (row-no (some_wide st.wide.writer) 29 _ 0 narrow
    (row-no (not (event_known a.kind a.meter)) 20 _ 0 known (row-no (not (moduli_ok a.moduli.now)) 26 0 0 (sym (ap not c.moduli_ok.ensures) ∙ ap not c.if-not-moduli_ok.false) refl)))
