use borrow.Author.Rules.{rules}
use Prim.Native.Nat.{ℕ, ◌<◌, ◌≤◌}
use mathlib.Core.Path.{◌≡◌, refl, sym, ap, subst, ◌∙◌}
use native.Mathlib.Omega.{arith}
use lib.ListN.{length}
use Rattle.std.specs.Prelude.{Err}
use Rattle.bounded.specs.Below.{some_below}
use Rattle.layout.specs.declared.Sizes.{Sizes}
use Rattle.layout.specs.Layout.{Legal, frames, image_length}
use Rattle.rows.specs.declared.Refusal.TheVariants.{MeterNotBelow}
use Rattle.rows.specs.Numbers.{number}
use Rattle.rows.proofs.Numbers.{number-some}
use Rattle.state.specs.State.{own_frame}
use Rattle.moduli_text.proofs.TextLaws.{read-row, read_taken}
use Rattle.refinement.proofs.Going.{ranges-of}
use Rattle.refinement.proofs.Quiet.{quiet}
use Rattle.refinement.proofs.Valid.{copy-low}
use Rattle.refinement.specs.Frames.{frame_of}
use Rattle.call_load.specs.Loaded.{meter_high}
use Rattle.call_load.proofs.Loads.{row-quiet, row-text, row-high, row_low, load-refused, load-taken}
use Rattle.state_words.specs.Decoded.{decoded}
use Rattle.call_load.proofs.load.Goals as goal

-- The rows stand in the table's order.
pub returns-in_err-quiet_row : goal.returns-in_err-quiet_row
returns-in_err-quiet_row c =
    let a = c.args in
    let r = c.in_err-quiet_row.field-0.0 in
    let same : c.from_residual.result ≡ Err r = search rules in
    rw same (load-refused (decoded a.words.now) a.image.now a.text.now r (row-quiet (decoded a.words.now) a.image.now a.text.now (number r) c.in_err-quiet_row.ensures (number-some r)))

pub returns-in_err-moduli : goal.returns-in_err-moduli
returns-in_err-moduli c =
    let a = c.args in
    let st = decoded a.words.now in
    let r = c.in_err-moduli.field-0.0 in
    let q = quiet st (length a.image.now) 0 c.in_ok-quiet_row.ensures refl in
    let same : c.from_residual-in_err-moduli.result ≡ Err r = search rules in
    rw same (load-refused st a.image.now a.text.now r (row-text st a.image.now a.text.now q (number r) (read-row a.text.now r c.in_err-moduli.ensures) (number-some r)))

pub is_high-requires : goal.is_high-requires
is_high-requires c =
    let st = decoded c.args.words.now in
    let q = quiet st (length c.args.image.now) 0 c.in_ok-quiet_row.ensures refl in
    let g = (ranges-of st q.ok).legal in
    subst (λ (z : Sizes). Legal z × (image_length z ≤ length c.args.image.now) × ((l : ℕ) → frame_of (own_frame st) z st.table 0 l < frames z)) (sym c.sizes_in-z.ensures)
    (g, q.long, λ l. copy-low st q.ok 0 l (omega (arith, g.pages-low)))

pub returns-then-is_high : goal.returns-then-is_high
returns-then-is_high c =
    let a = c.args in
    let st = decoded a.words.now in
    let q = quiet st (length a.image.now) 0 c.in_ok-quiet_row.ensures refl in
    let read = read_taken a.text.now _ c.in_ok-moduli.ensures in
    let high = rw c.sizes_in-z.ensures at c.is_high.ensures in
    load-refused st a.image.now a.text.now MeterNotBelow (row-high st a.image.now a.text.now q 27 read.0 _ read.1 _ high c.if-is_high.true refl)

pub returns : goal.returns
returns c =
    let a = c.args in
    let st = decoded a.words.now in
    let q = quiet st (length a.image.now) 0 c.in_ok-quiet_row.ensures refl in
    let read = read_taken a.text.now _ c.in_ok-moduli.ensures in
    let high = rw c.sizes_in-z.ensures at c.is_high.ensures in
    load-taken st a.image.now a.text.now _ (row_low st a.image.now a.text.now q 0 read.0 _ read.1 _ high c.if-is_high.false refl) read.1
