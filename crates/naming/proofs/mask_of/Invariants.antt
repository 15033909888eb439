use Rattle.naming.proofs.NamingLaws.{MaskTo}
use Rattle.naming.specs.Marks.{all_low}
use lib.Dec.{ltb}
use mathlib.Core.Path.{◌≡◌}
use Rattle.naming.proofs.mask_of.Given as goal

abbrev pub invariant-loop-name : goal.invariant-loop-name
invariant-loop-name l = (ltb l.all 64 ≡ all_low l.name-index l.names) × MaskTo l.names l.name-index l.m
