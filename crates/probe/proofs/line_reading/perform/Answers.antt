use Rattle.std.proofs.Common.{◌≡◌, ℕ, ap}
use Rattle.workbench.specs.declared.moduli.Moduli.{Moduli}
use Rattle.state.specs.State.{State}
use Rattle.workbench.specs.Turns.{Turn}
use Rattle.probe.specs.Program.{Bench}
use Rattle.probe.proofs.line_reading.perform.Goals as goal

same-bench : {x y : State} {t u : Moduli} {m n : ℕ} → x ≡ y → t ≡ u → m ≡ n
    → ◌≡◌ {A = Bench} (record { st = x; table = t; lent = m }) (record { st = y; table = u; lent = n })
same-bench e d l = cc

pub returns : goal.returns
returns c =
    let l = c.parse-l in
    let later = c.lent_after-later in
    let t = c.turn-said in
    let st = rw l.ensures at (ap (λ (x : Turn). x.st) t.ensures.turn) in
    let table = rw l.ensures at t.ensures.table in
    let lent = rw l.ensures at later.ensures in
    let printed = c.print-next.ensures in
    record {
      bench = same-bench st table lent;
      buffer = rw (← l.ensures) t.ensures.bytes;
      text = rw (← l.ensures, ← t.ensures.turn) printed;
    }
