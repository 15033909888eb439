-- Every call, run to its end, keeps what row 8 and the types of words and bytes say.
use Rattle.std.proofs.Common.{◌≡◌, ℕ, List, sym, ap, subst}
use Rattle.refinement.specs.Stores.{World}
use Rattle.refinement.specs.Run.{Call, Result, run, exec}
use Rattle.refinement.proofs.Called.{call-good}
use Rattle.refinement.proofs.CallReached.{call-bytes}
use Rattle.call_round.specs.declared.Round.{Round}
use Rattle.call_round.specs.Kept.{Fine, FineAt}
use Rattle.call_round.specs.Round.{Played, played_of, made}

exec-fine : (c : Call) (v : World) → Fine v → Fine (exec c v).world
exec-fine c v f = record { good = call-good c v f.bytes f.good; bytes = call-bytes c v f.bytes }

pub made-fine : (c : Call) (t : Played) → Fine t.world → Fine (made c t).world
unfolding made
made-fine c t f =
    let d : Result = exec c t.world in
    exec-fine (run d.stores) d.world (exec-fine c t.world f)

-- the same of what the code tells
pub kept : (c : Call) (t : Played) (r : Round) (words img : List ℕ) → played_of r words img ≡ made c t → Fine t.world → FineAt words img
kept c t r words img e f = subst Fine (sym (ap (λ (p : Played). p.world) e)) (made-fine c t f)
