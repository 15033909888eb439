use borrow.Author.Rules.{rules}
use mathlib.Core.Path.{◌≡◌, refl, sym, ap, ◌∙◌}
use Rattle.std.specs.Prelude.{Err}
use Rattle.fresh.specs.Fresh.{format_row}
use Rattle.refinement.specs.Mount.{format_call, fresh_state}
use Rattle.refinement.specs.Outcome.{Outcome}
use Rattle.state_words.specs.Decoded.{decoded}
use Rattle.call_mount.proofs.Replaced.{replace-refused, replace-taken}
use Rattle.call_mount.proofs.Formatting.{refused-bytes, taken-bytes, end-bytes, end-state}
use Rattle.call_mount.proofs.format_whole.Goals as goal

pub returns-in_err-format_row : goal.returns-in_err-format_row
unfolding format_call
returns-in_err-format_row c =
    let e = c.in_err-format_row.ensures in
    let same : c.from_residual.result ≡ Err c.in_err-format_row.field-0.0 = search rules in
    record {
      state = rw same (replace-refused (decoded c.args.words.now) (fresh_state c.args.z) (format_row c.args.z c.args.image.now) _ e);
      bytes = refused-bytes c.args.z c.args.image.now _ e;
      words = λ n. refl;
    }

pub returns : goal.returns
unfolding format_call
returns c =
    let none = c.in_ok-format_row.ensures in
    let st = decoded c.args.words.now in
    let h = c.format.ensures.started in
    record {
      state = replace-taken st (fresh_state c.args.z) (format_row c.args.z c.args.image.now) _ (sym none) (ap (λ (o : Outcome). o.state) h.0 ∙ end-state c.args.z c.args.image.now none st);
      bytes = h.1 ∙ end-bytes c.args.z c.args.image.now none st ∙ taken-bytes c.args.z c.args.image.now none;
      words = λ n. absurd (n refl);
    }
