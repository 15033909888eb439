use borrow.Author.Rules.{rules}
use Prim.Native.Nat.{min}
use mathlib.Core.Path.{◌≡◌, refl, ap, ◌∙◌}
use native.Mathlib.Omega.{arith}
use Rattle.std.specs.Prelude.{Err}
use Rattle.state_words.specs.Decoded.{decoded}
use Rattle.call_step.proofs.Running.{run-refused, run-may, run-made}
use Rattle.call_step.proofs.run.Goals as goal

pub returns-in_err-busy_row : goal.returns-in_err-busy_row
returns-in_err-busy_row c =
    let same : c.from_residual.result ≡ Err c.in_err-busy_row.field-0.0 = search rules in
    let h = run-refused (decoded c.args.words.now) c.args.image.now _ c.in_err-busy_row.ensures c.args.k in
    record { outcome = rw same h.0; bytes = h.1; words = λ n. refl }

pub left_in-requires : goal.left_in-requires
left_in-requires c =
    (run-may (decoded c.args.words.now) c.args.image.now c.in_ok-busy_row.ensures _ _ c.sizes_in-z.ensures c.places_in-at.ensures).0

pub go-requires : goal.go-requires
go-requires c =
    let h = run-may (decoded c.args.words.now) c.args.image.now c.in_ok-busy_row.ensures _ _ c.sizes_in-z.ensures c.places_in-at.ensures in
    (h.0, omega (arith, c.smaller-n.ensures, c.left_in.ensures), h.1)

pub returns : goal.returns
returns c =
    let h = run-made (decoded c.args.words.now) c.args.image.now c.in_ok-busy_row.ensures c.args.k _ _ _ (c.smaller-n.ensures ∙ ap (min c.args.k) c.left_in.ensures) c.go.ensures.image c.go.ensures.words in
    record { outcome = h.0; bytes = h.1; words = λ n. absurd (n refl) }
