use Rattle.moduli_calls.proofs.Hashed.{Laid}
use Rattle.moduli_calls.proofs.loading.hash_moduli.Given as goal

abbrev pub invariant-loop-i : goal.invariant-loop-i
invariant-loop-i l = Laid l.moduli l.i l.bytes
