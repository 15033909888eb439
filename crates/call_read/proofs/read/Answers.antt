use Prim.Native.Nat.{ℕ, ◌<◌, ◌≤◌}
use mathlib.Core.Bool.{◌||◌}
use mathlib.Core.List.{[], ◌∷◌}
use lib.Dec.{ltb, leb}
use mathlib.Core.Path.{◌≡◌, ap, ◌∙◌}
use native.Mathlib.Omega.{arith}
use borrow.Author.Rules.{rules}
use lib.ListN.{length}
use Rattle.std.specs.Prelude.{Err}
use Rattle.bounded.proofs.Rows.{rows-first}
use Rattle.layout.specs.declared.Sizes.{Sizes}
use Rattle.image.specs.Lines.{line_bytes}
use Rattle.words.specs.Words.{over}
use Rattle.rows.specs.Numbers.{number}
use Rattle.rows.proofs.Numbers.{number-some}
use Rattle.rows.specs.declared.Refusal.TheVariants.{BadArgument}
use Rattle.state.specs.declared.Places.{Places}
use Rattle.refinement.specs.Wide.{entry_bytes}
use Rattle.refinement.specs.Calls.{quiet_rows}
use Rattle.state_words.specs.Decoded.{decoded}
use Rattle.call_read.proofs.ReadLaws.{read-refused, own_line, frame-line, read_done, legal1, long1, row-11, asking2, none2, page-low1, count-low, entry-low, frame-low}
use Rattle.call_read.proofs.Found.{seen-found, own-found}
use Rattle.call_read.proofs.read.Goals as goal

pub returns-in_err-quiet_row : goal.returns-in_err-quiet_row
returns-in_err-quiet_row c =
    let a = c.args in
    let st = decoded a.words.now in
    let row = c.in_err-quiet_row.field-0.0 in
    let same : c.from_residual.result ≡ Err row = search rules in
    let first = quiet_rows st (length a.image.now) in
    let h = rows-first first ((ltb 3 a.writer || leb st.sizes.pages a.page || ltb 63 a.line || ltb (length a.target.now) 64, 11) ∷ []) (number row) c.in_err-quiet_row.ensures (number-some row) in
    let both = read-refused st a.image.now a.writer a.page a.line a.target.now row h in
    rw same (record { number = both.0; bytes = both.1 })

pub returns-then-writer-page : goal.returns-then-writer-page
returns-then-writer-page c =
    let a = c.args in
    let st = decoded a.words.now in
    let h = row-11 st a.image.now a.writer a.page a.line a.target.now c.sizes_in-z.result c.places_in-at.result c.sizes_in-z.ensures c.places_in-at.ensures c.in_ok-quiet_row.ensures c.if-writer-page.true in
    let both = read-refused st a.image.now a.writer a.page a.line a.target.now BadArgument h in
    record { number = both.0; bytes = both.1 }

pub own_entry-e-requires : goal.own_entry-e-requires
own_entry-e-requires c =
    let a = c.args in
    let st = decoded a.words.now in
    let z = c.sizes_in-z in
    let at = c.places_in-at in
    let q = c.in_ok-quiet_row.ensures in
    let good = c.if-writer-page.false in (
      count-low st a.image.now a.writer a.page a.line a.target.now z.result at.result z.ensures at.ensures q good,
      page-low1 st a.image.now a.writer a.page a.line a.target.now z.result at.result z.ensures at.ensures q good,
      (asking2 st a.image.now a.writer a.page a.line a.target.now z.result at.result z.ensures at.ensures q good).line_low,
    )

pub read_entry-requires : goal.read_entry-requires
read_entry-requires c =
    let a = c.args in
    let st = decoded a.words.now in
    let z = c.sizes_in-z in
    let at = c.places_in-at in
    let q = c.in_ok-quiet_row.ensures in
    let good = c.if-writer-page.false in (
      legal1 st a.image.now a.writer a.page a.line a.target.now z.result at.result z.ensures at.ensures q,
      entry-low st a.image.now a.writer a.page a.line a.target.now z.result at.result z.ensures at.ensures q good c.own_entry-e.result c.if-e-at.true,
      long1 st a.image.now a.writer a.page a.line a.target.now z.result at.result z.ensures at.ensures q,
      (asking2 st a.image.now a.writer a.page a.line a.target.now z.result at.result z.ensures at.ensures q good).target-long,
    )

pub returns-then-e-at : goal.returns-then-e-at
returns-then-e-at c =
    let a = c.args in
    let st = decoded a.words.now in
    let z = c.sizes_in-z in
    let at = c.places_in-at in
    let e = c.own_entry-e.result in
    let own = own-found st at.result a.writer a.page a.line e at.ensures c.own_entry-e.ensures in
    let low : e < st.wide.count = omega (arith, c.if-e-at.true, ap (λ (p : Places). p.count) at.ensures) in
    let both = read_done st a.image.now a.writer a.page a.line a.target.now _ _ (none2 st a.image.now a.writer a.page a.line a.target.now z.result at.result z.ensures at.ensures c.in_ok-quiet_row.ensures c.if-writer-page.false)
    (own_line st a.image.now a.writer a.page a.line a.target.now e own low)
    (c.read_entry.ensures ∙ ap (λ (y : Sizes). over a.target.now 0 (entry_bytes a.image.now y e)) z.ensures) in
    record { number = both.0; bytes = both.1 }

pub slot_of-s-requires : goal.slot_of-s-requires
slot_of-s-requires c =
    let a = c.args in
    legal1 (decoded a.words.now) a.image.now a.writer a.page a.line a.target.now c.sizes_in-z.result c.places_in-at.result c.sizes_in-z.ensures c.places_in-at.ensures c.in_ok-quiet_row.ensures

pub seen_frame-seen-requires : goal.seen_frame-seen-requires
seen_frame-seen-requires c =
    let a = c.args in
    let st = decoded a.words.now in
    let z = c.sizes_in-z in
    let at = c.places_in-at in
    let q = c.in_ok-quiet_row.ensures in
    let asks = asking2 st a.image.now a.writer a.page a.line a.target.now z.result at.result z.ensures at.ensures q c.if-writer-page.false in (
      legal1 st a.image.now a.writer a.page a.line a.target.now z.result at.result z.ensures at.ensures q,
      asks.writer-low,
      page-low1 st a.image.now a.writer a.page a.line a.target.now z.result at.result z.ensures at.ensures q c.if-writer-page.false,
      asks.line_low,
    )

pub read_line-requires : goal.read_line-requires
read_line-requires c =
    let a = c.args in
    let st = decoded a.words.now in
    let z = c.sizes_in-z in
    let at = c.places_in-at in
    let q = c.in_ok-quiet_row.ensures in
    let asks = asking2 st a.image.now a.writer a.page a.line a.target.now z.result at.result z.ensures at.ensures q c.if-writer-page.false in
    let seen = seen-found st z.result a.page c.slot_of-s.result a.writer a.line c.seen_frame-seen.result z.ensures c.slot_of-s.ensures c.seen_frame-seen.ensures in (
      legal1 st a.image.now a.writer a.page a.line a.target.now z.result at.result z.ensures at.ensures q,
      frame-low st a.image.now a.writer a.page a.line a.target.now z.result at.result z.ensures at.ensures q c.if-writer-page.false c.seen_frame-seen.result seen,
      asks.line_low,
      long1 st a.image.now a.writer a.page a.line a.target.now z.result at.result z.ensures at.ensures q,
      asks.target-long,
    )

pub returns : goal.returns
returns c =
    let a = c.args in
    let st = decoded a.words.now in
    let z = c.sizes_in-z in
    let at = c.places_in-at in
    let e = c.own_entry-e.result in
    let own = own-found st at.result a.writer a.page a.line e at.ensures c.own_entry-e.ensures in
    let seen = seen-found st z.result a.page c.slot_of-s.result a.writer a.line c.seen_frame-seen.result z.ensures c.slot_of-s.ensures c.seen_frame-seen.ensures in
    let high : st.wide.count ≤ e = omega (arith, c.if-e-at.false, ap (λ (p : Places). p.count) at.ensures) in
    let both = read_done st a.image.now a.writer a.page a.line a.target.now _ _ (none2 st a.image.now a.writer a.page a.line a.target.now z.result at.result z.ensures at.ensures c.in_ok-quiet_row.ensures c.if-writer-page.false)
    (ap (λ (k : ℕ). line_bytes a.image.now st.sizes k a.line) seen ∙ frame-line st a.image.now a.writer a.page a.line a.target.now e own high)
    (c.read_line.ensures ∙ ap (λ (y : Sizes). over a.target.now 0 (line_bytes a.image.now y c.seen_frame-seen.result a.line)) z.ensures) in
    record { number = both.0; bytes = both.1 }
