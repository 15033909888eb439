use mathlib.Core.Path.{ap, ◌∙◌}
use Rattle.hashing.specs.Hash.{hash_of}
use Rattle.moduli_calls.proofs.Hashed.{laid_none, laid-turn, laid_end}
use Rattle.moduli_calls.proofs.loading.hash_moduli.Goals as goal

pub loop-i-init : goal.loop-i-init
loop-i-init c = laid_none c.args.moduli

pub loop-i-preserved : goal.loop-i-preserved
loop-i-preserved c =
    let t = laid-turn c.args.moduli c.loop-i.i c.loop-i.bytes c.loop-i.invariant c.loop-i-test.true in
    rw (← c.put_word.ensures) at t

pub returns : goal.returns
returns c =
    c.hash.ensures
    ∙ ap hash_of (laid_end c.args.moduli c.loop-i.i c.loop-i.bytes c.loop-i.invariant c.loop-i.auto.i-end c.loop-i-test.false)
