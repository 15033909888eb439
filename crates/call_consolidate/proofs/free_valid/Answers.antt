use borrow.Author.Rules.{rules}
use mathlib.Core.Path.{◌≡◌, refl, ap}
use native.Mathlib.Omega.{arith}
use lib.ListN.{length}
use Rattle.std.specs.Prelude.{Err}
use Rattle.layout.specs.Layout.{Legal}
use Rattle.refinement.specs.Calls.{free_call_rows, free_of}
use Rattle.answers.specs.Answers.{number_of}
use Rattle.asked.proofs.Rows.{first-ranges}
use Rattle.op_stores.proofs.Starting.{started-refused}
use Rattle.state_words.specs.Decoded.{decoded}
use Rattle.call_consolidate.proofs.Freeing.{slot-low, first-row, next_row, may_free, freed}
use Rattle.call_consolidate.proofs.free_valid.Goals as goal

pub returns-in_err-valid_row : goal.returns-in_err-valid_row
unfolding free_of
returns-in_err-valid_row c =
    let st = decoded c.args.words.now in
    let e = first-row _ _ st c.args.image.now c.requires.0 c.requires.1 _ c.in_err-valid_row.ensures in
    let same : c.from_residual.result ≡ Err c.in_err-valid_row.field-0.0 = search rules in
    record {
      started = rw same (started-refused st c.args.image.now c.args.until (free_call_rows st c.args.image.now) _ e _ _);
      words = λ n. refl;
    }

-- the sizes and places as they were read are right
pub slot_to_free-s-requires : goal.slot_to_free-s-requires
slot_to_free-s-requires c =
    let h = first-ranges (decoded c.args.words.now) (length c.args.image.now) 0 c.in_ok-valid_row.ensures refl in
    rw c.requires.0 h.0

pub free_row-requires : goal.free_row-requires
free_row-requires c =
    let h = first-ranges (decoded c.args.words.now) (length c.args.image.now) 0 c.in_ok-valid_row.ensures refl in
    rw (c.requires.0, c.requires.1) (h.0, h.1, h.2, h.3, h.4)

pub returns-in_err-free_row : goal.returns-in_err-free_row
unfolding free_of
returns-in_err-free_row c =
    let st = decoded c.args.words.now in
    let e = next_row _ _ st c.args.image.now c.requires.0 c.requires.1 c.in_ok-valid_row.ensures _ c.slot_to_free-s.ensures _ c.in_err-free_row.ensures in
    let same : c.from_residual-in_err-free_row.result ≡ Err c.in_err-free_row.field-0.0 = search rules in
    record {
      started = rw same (started-refused st c.args.image.now c.args.until (free_call_rows st c.args.image.now) _ e _ _);
      words = λ n. refl;
    }

pub page_at-page-requires : goal.page_at-page-requires
page_at-page-requires c =
    let h = first-ranges (decoded c.args.words.now) (length c.args.image.now) 0 c.in_ok-valid_row.ensures refl in
    let legal : Legal c.args.z = rw c.requires.0 h.0 in
    omega (arith, slot-low c.args.z c.args.at c.slot_to_free-s.result c.in_ok-free_row.ensures, legal)

pub ask-requires : goal.ask-requires
ask-requires c =
    may_free _ _ (decoded c.args.words.now) c.args.image.now c.requires.0 c.requires.1 c.in_ok-valid_row.ensures _ c.slot_to_free-s.ensures c.in_ok-free_row.ensures _ c.page_at-page.ensures

pub returns : goal.returns
returns c =
    let g = c.ask.ensures in
    record {
      started = freed _ _ (decoded c.args.words.now) c.args.image.now c.requires.0 c.requires.1 c.in_ok-valid_row.ensures _ c.slot_to_free-s.ensures c.in_ok-free_row.ensures _ c.page_at-page.ensures c.ask.result _ _ c.args.until g.started;
      words = λ n. absurd (n (ap number_of g.answer));
    }
