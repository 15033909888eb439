use Prim.Native.Nat.{ℕ}
use mathlib.Core.List.{List}
use mathlib.Core.Path.{refl, sym, ap, ◌∙◌}
use lib.ListN.{get_or}
use Rattle.state_pending.specs.Put.{op_in}
use Rattle.state_pending.proofs.op_words.Goals as goal

pub returns-in-Write : goal.returns-in-Write
returns-in-Write c =
    let e = c.written.ensures in
    record {
      op = ap op_in e ∙ sym c.in-Write.is;
      made = ap (λ (l : List ℕ). get_or l 6 0) e;
    }

pub returns-in-Event : goal.returns-in-Event
returns-in-Event c = record {
  op = sym c.in-Event.is;
  made = refl;
}

pub returns-in-Log : goal.returns-in-Log
returns-in-Log c =
    let e = c.written-in-Log.ensures in
    record {
      op = ap op_in e ∙ sym c.in-Log.is;
      made = ap (λ (l : List ℕ). get_or l 6 0) e;
    }
