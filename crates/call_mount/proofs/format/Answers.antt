use borrow.Author.Rules.{rules}
use Rattle.std.specs.Prelude.{Err}
use mathlib.Core.Path.{◌≡◌, refl, ap, ◌∙◌}
use lib.ListN.{replicate}
use Rattle.replay.specs.declared.Table.{Table}
use Rattle.refinement.specs.Mount.{quiet_state}
use Rattle.answers.specs.Answers.{number_of}
use Rattle.state_words.specs.Decoded.{decoded}
use Rattle.call_mount.proofs.Found.{format-legal}
use Rattle.call_mount.proofs.Formatting.{format-refused, long-enough, fresh-filled, format-allowed, format-started}
use Rattle.call_mount.proofs.format.Goals as goal

pub returns-in_err-format_row : goal.returns-in_err-format_row
returns-in_err-format_row c =
    let same : c.from_residual.result ≡ Err c.in_err-format_row.field-0.0 = search rules in
    record {
      started = rw same (format-refused c.args.z c.args.image.now _ c.in_err-format_row.ensures (decoded c.args.words.now) c.args.until);
      words = λ n. refl;
    }

pub fresh_table-requires : goal.fresh_table-requires
fresh_table-requires c = format-legal c.args.z c.args.image.now c.in_ok-format_row.ensures

pub put_own-requires : goal.put_own-requires
put_own-requires c = format-legal c.args.z c.args.image.now c.in_ok-format_row.ensures

pub ask-requires : goal.ask-requires
ask-requires c =
    let none = c.in_ok-format_row.ensures in
    let quiet = c.put_quiet.ensures ∙ ap (λ (u : Table). quiet_state c.args.z 0 0 u (replicate 1024 0)) c.fresh_table.ensures in
    let fresh = fresh-filled c.args.z c.args.image.now none _ _ quiet c.put_own.ensures in
    (format-allowed c.args.z c.args.image.now none _ fresh _ c.places_in-at.ensures, long-enough c.args.z c.args.image.now none)

pub returns : goal.returns
returns c =
    let none = c.in_ok-format_row.ensures in
    let quiet = c.put_quiet.ensures ∙ ap (λ (u : Table). quiet_state c.args.z 0 0 u (replicate 1024 0)) c.fresh_table.ensures in
    let fresh = fresh-filled c.args.z c.args.image.now none _ _ quiet c.put_own.ensures in
    let h = c.ask.ensures in
    record {
      started = format-started c.args.z c.args.image.now none (decoded c.args.words.now) _ _ _ c.ask.result c.args.until fresh h.started;
      words = λ n. absurd (n (ap number_of h.answer));
    }
