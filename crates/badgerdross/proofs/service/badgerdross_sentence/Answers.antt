use mathlib.Core.Path.{◌≡◌, sym, ap, ◌∙◌}
use Rattle.rows.specs.Numbers.{number}
use Rattle.reasons.proofs.Composing.{composed-by, refused-by}
use Rattle.badgerdross.proofs.service.badgerdross_sentence.Goals as goal

pub returns-in-Ok : goal.returns-in-Ok
returns-in-Ok c =
    let h = c.compose.ensures in
    let q = c.reason_met-reason.ensures in
    let t = composed-by c.reason_met-reason.result c.args.target.now (sym h.value ∙ c.in-Ok.is) in
    record {
      number = sym t.row ∙ rw q;
      bytes = h.target_after ∙ rw q;
      count = t.count ∙ rw q;
    }

pub returns-in-Err : goal.returns-in-Err
returns-in-Err c =
    let h = c.compose.ensures in
    let q = c.reason_met-reason.ensures in
    let t = refused-by c.reason_met-reason.result c.args.target.now (sym h.value ∙ c.in-Err.is) in
    let e : c.from.result ≡ 11 = c.from.ensures ∙ ap number t.1 in
    record {
      number = e ∙ sym t.0 ∙ rw q;
      bytes = h.target_after ∙ rw q;
      count = rw e;
    }
