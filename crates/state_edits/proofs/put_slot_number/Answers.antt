use mathlib.Core.Path.{◌≡◌}
use native.Mathlib.Omega.{arith}
use Rattle.state_words.proofs.DecodedLaws.{page-put, original-put, spare-put, bitmap-put, last-put}
use Rattle.state_edits.proofs.put_slot_number.Goals as goal

pub returns-in-6 : goal.returns-in-6
returns-in-6 c = rw c.in-6.is (page-put c.args.words.now c.args.i c.requires.2 c.args.v)

pub returns-in-7 : goal.returns-in-7
returns-in-7 c = rw c.in-7.is (original-put c.args.words.now c.args.i c.requires.2 c.args.v)

pub returns-in-8 : goal.returns-in-8
returns-in-8 c = rw c.in-8.is (spare-put c.args.words.now c.args.i c.requires.2 c.args.v)

pub returns-in-9 : goal.returns-in-9
returns-in-9 c = rw c.in-9.is (bitmap-put c.args.words.now c.args.i c.requires.2 c.args.v)

pub returns-in_default : goal.returns-in_default
returns-in_default c =
    let a = c.args in
    let e : a.f ≡ 10 = omega (arith, c.requires.0, c.requires.1) in
    rw e (last-put a.words.now a.i c.requires.2 a.v)
