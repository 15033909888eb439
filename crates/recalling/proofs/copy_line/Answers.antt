use mathlib.Core.Path.{◌≡◌, ◌∙◌}
use borrow.Author.Rules.{rules}
use Rattle.std.specs.Prelude.{Err}
use Rattle.rows.proofs.Numbers.{number-some}
use native.Mathlib.Omega.{arith}
use Rattle.recalling.proofs.Recalled.{recalled, recall-unmounted, recall-bad, recall-kept}
use Rattle.recalling.proofs.copy_line.Goals as goal

-- Mount's row comes first, then row 11; past both, the frame is one of the F because row 7 holds, and its line goes to the target.
pub returns-in_err-m : goal.returns-in_err-m
returns-in_err-m c =
    let e = c.in_err-m.field-0.0 in
    let q : c.from_residual.result ≡ Err e = search rules in
    let n = recall-unmounted _ _ _ _ _ c.in_err-m.ensures (number-some e) in record {
      number = rw q n;
      bytes = recall-kept _ _ _ _ _ n (number-some e);
    }

pub returns-then-page-m : goal.returns-then-page-m
returns-then-page-m c =
    let n = recall-bad _ _ _ _ _ c.in_ok-m.ensures.0 c.in_ok-m.ensures.1 c.if-page-m.true in record {
      number = n;
      bytes = recall-kept _ _ _ _ 11 n (λ e. omega arith);
    }

pub overflow_mul-page : goal.overflow_mul-page
overflow_mul-page c = let h = recalled _ _ _ _ _ c.in_ok-m.ensures.0 c.in_ok-m.ensures.1 c.if-page-m.false in omega (arith, h.page-low, h.legal.pages-high)

pub overflow_add-page : goal.overflow_add-page
overflow_add-page c = let h = recalled _ _ _ _ _ c.in_ok-m.ensures.0 c.in_ok-m.ensures.1 c.if-page-m.false in omega (arith, h.page-low, h.line_low, h.legal.pages-high)

pub find_entry-e-requires : goal.find_entry-e-requires
find_entry-e-requires c = let h = recalled _ _ _ _ _ c.in_ok-m.ensures.0 c.in_ok-m.ensures.1 c.if-page-m.false in omega (arith, h.few, h.legal.entries-high)

-- the line has an entry
pub read_entry-requires : goal.read_entry-requires
read_entry-requires c =
    let h = recalled _ _ _ _ _ c.in_ok-m.ensures.0 c.in_ok-m.ensures.1 c.if-page-m.false in
    (h.legal, omega (arith, h.few, c.if-e-m.true), h.fits, h.target-long)

pub returns-then-e-m : goal.returns-then-e-m
returns-then-e-m c =
    let h = recalled _ _ _ _ _ c.in_ok-m.ensures.0 c.in_ok-m.ensures.1 c.if-page-m.false in record {
      number = h.answer;
      bytes = c.read_entry.ensures ∙ h.entry _ c.find_entry-e.ensures c.if-e-m.true;
    }

-- and where it has none
pub recall_frame-f-requires : goal.recall_frame-f-requires
recall_frame-f-requires c = let h = recalled _ _ _ _ _ c.in_ok-m.ensures.0 c.in_ok-m.ensures.1 c.if-page-m.false in (h.legal, h.page-low, h.line_low, h.fits)

pub read_line-requires : goal.read_line-requires
read_line-requires c =
    let h = recalled _ _ _ _ _ c.in_ok-m.ensures.0 c.in_ok-m.ensures.1 c.if-page-m.false in
    (h.legal, h.low _ c.recall_frame-f.ensures, h.line_low, h.fits, h.target-long)

pub returns : goal.returns
returns c =
    let h = recalled _ _ _ _ _ c.in_ok-m.ensures.0 c.in_ok-m.ensures.1 c.if-page-m.false in record {
      number = h.answer;
      bytes = c.read_line.ensures ∙ h.line _ _ c.find_entry-e.ensures c.if-e-m.false c.recall_frame-f.ensures;
    }
