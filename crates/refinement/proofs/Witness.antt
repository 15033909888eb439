-- The premises are met, by every call and in any world.
use Prim.Native.Nat.{ℕ, zero, suc, ◌≤◌}
use mathlib.Core.List.{[], ◌∷◌}
use mathlib.Core.Path.{refl}
use native.Mathlib.Omega.{arith}
use lib.ListN.{length, length-replicate}
use Rattle.replay.proofs.Tables.{one_value}
use Rattle.words.specs.Words.{Bytes}
use Rattle.layout.specs.Layout.{image_length}
use Rattle.refinement.specs.Stores.{World}
use Rattle.refinement.specs.Totals.{AllSpare, AllLend, NoLoad}
use Rattle.refinement.specs.Before.{AllBytes}
use Rattle.refinement.specs.Witness.{sizes, buffer, EveryCall}

pub low : Bytes (165 ∷ [])
low zero = omega arith
low (suc i) = omega arith

pub bytes : Bytes buffer
unfolding buffer
bytes i = omega (arith, one_value 8448 i 0)

pub fits : image_length sizes ≤ length buffer
unfolding buffer
fits = omega (arith, length-replicate {A = ℕ} 8448 0)

pub every_call : (v : World) → EveryCall v
unfolding AllSpare AllLend NoLoad AllBytes
every_call v =
    record {
      lent = (tt, (tt, (tt, (tt, (tt, (tt, (tt, (tt, (tt, (tt, (tt, (tt, (tt, (low, (tt, (tt, (tt, (tt, tt))))))))))))))))));
      spared = (tt, (tt, (tt, (tt, (tt, (tt, (tt, (tt, (tt, (tt, (tt, (tt, (tt, ((λ n e. omega arith), (tt, (tt, (tt, (tt, tt))))))))))))))))));
      lends = (tt, (tt, (tt, (tt, (tt, (tt, (tt, (tt, (tt, (tt, (tt, (tt, (tt, (tt, (tt, (tt, ((λ e. refl), (tt, tt))))))))))))))))));
      unloaded = (refl, tt);
      bytes = (low, tt);
    }
