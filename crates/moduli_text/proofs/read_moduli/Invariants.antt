use Rattle.moduli_text.proofs.TextLaws.{Going}
use Rattle.moduli_text.proofs.read_moduli.Given as goal

abbrev pub invariant-loop-m : goal.invariant-loop-m
invariant-loop-m l = Going l.text l.moduli l.rest l.m
