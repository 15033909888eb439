use native.Mathlib.Omega.{arith}
use mathlib.Core.Path.{refl}
use Rattle.meters.specs.Meters.{modulus_of}
use Rattle.meters.proofs.MeterLaws.{moduli-length}
use Rattle.meters.proofs.modulus.Goals as goal

pub bounds-moduli-m : goal.bounds-moduli-m
bounds-moduli-m c = omega (arith, moduli-length c.args.moduli.now c.requires.0, c.requires.1)

pub returns : goal.returns
unfolding modulus_of
returns c = refl
