use borrow.Author.Rules.{rules}
use Prim.Native.Nat.{ℕ}
use mathlib.Core.Path.{◌≡◌, refl, sym, ap, ◌∙◌}
use native.Mathlib.Omega.{arith}
use Rattle.std.specs.Prelude.{Err}
use Rattle.meters.specs.Meters.{amount_bad}
use Rattle.meters.proofs.MeterLaws.{first-low}
use Rattle.answers.specs.Answers.{number_of}
use Rattle.call_event.proofs.Asked.{event-pending, asked-facts}
use Rattle.state_words.specs.Decoded.{decoded}
use Rattle.call_event.proofs.Starting.{event-refused, event-lines, event-asks, event-started}
use Rattle.call_event.proofs.event.Goals as goal

pub returns-in_err-found : goal.returns-in_err-found
returns-in_err-found c =
    let a = c.args in
    let same : c.from_residual.result ≡ Err c.in_err-found.field-0.0 = search rules in
    record {
      started = rw same (event-refused (decoded a.words.now) a.image.now a.moduli.now a.kind a.meter a.amount _ c.in_err-found.ensures a.until);
      words = λ n. refl;
    }

pub first_number-v-requires : goal.first_number-v-requires
first_number-v-requires c =
    let a = c.args in
    let f = c.in_ok-found.ensures in
    let q = asked-facts (decoded a.words.now) a.image.now a.moduli.now a.kind a.meter a.amount (sym f.0) in
    (q.3, q.1.known, ap (λ (x : ℕ). amount_bad a.moduli.now a.kind a.meter x a.amount) f.3 ∙ q.2)

pub numbered_line-line-requires : goal.numbered_line-line-requires
numbered_line-line-requires c =
    let a = c.args in
    let f = c.in_ok-found.ensures in
    let q = event-lines (decoded a.words.now) a.image.now a.moduli.now a.kind a.meter a.amount _ f in
    let known = (asked-facts (decoded a.words.now) a.image.now a.moduli.now a.kind a.meter a.amount (sym f.0)).1.known in
    rw c.sizes_in-z.ensures (q.0, q.1, omega (arith, c.first_meter-l.ensures, first-low a.kind a.meter known), q.3)

pub second_line-second-requires : goal.second_line-second-requires
second_line-second-requires c =
    let a = c.args in
    let f = c.in_ok-found.ensures in
    let q = event-lines (decoded a.words.now) a.image.now a.moduli.now a.kind a.meter a.amount _ f in
    let t = asked-facts (decoded a.words.now) a.image.now a.moduli.now a.kind a.meter a.amount (sym f.0) in
    rw c.sizes_in-z.ensures (q.0, q.2, t.1.known, q.3, t.3)

-- what is then pending is the definition's
pub start-requires : goal.start-requires
start-requires c =
    let a = c.args in
    let z = c.sizes_in-z.ensures in
    let f = c.in_ok-found.ensures in
    let pending = event-pending (decoded a.words.now) a.image.now a.moduli.now a.kind a.meter a.amount _ f _ _ _ _ _ c.first_number-v.ensures c.first_meter-l.ensures (rw z at c.numbered_line-line.ensures) (rw z at c.second_line-second.ensures) refl in
    event-asks (decoded a.words.now) a.image.now a.moduli.now a.kind a.meter a.amount _ f _ pending _ _ c.sizes_in-z.ensures c.places_in-at.ensures

pub returns : goal.returns
returns c =
    let a = c.args in
    let z = c.sizes_in-z.ensures in
    let f = c.in_ok-found.ensures in
    let pending = event-pending (decoded a.words.now) a.image.now a.moduli.now a.kind a.meter a.amount _ f _ _ _ _ _ c.first_number-v.ensures c.first_meter-l.ensures (rw z at c.numbered_line-line.ensures) (rw z at c.second_line-second.ensures) refl in
    let h = c.start.ensures in
    record {
      started = event-started (decoded a.words.now) a.image.now a.moduli.now a.kind a.meter a.amount _ f _ pending _ _ c.sizes_in-z.ensures c.places_in-at.ensures a.until _ _ _ h.answer h.image h.words;
      words = λ n. absurd (n (ap number_of h.answer));
    }
