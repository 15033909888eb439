use mathlib.Core.Path.{◌≡◌, refl}
use borrow.Author.Rules.{rules}
use native.Mathlib.Omega.{arith}
use Rattle.words.specs.Words.{words_at, put_words}
use Rattle.words.proofs.Runs.{puts-words, puts-copied}
use Rattle.runs.proofs.copy_words.Goals as goal

pub loop-i-init : goal.loop-i-init
unfolding put_words words_at
loop-i-init c = (refl, refl)

pub loop-i-preserved : goal.loop-i-preserved
loop-i-preserved c =
    let x = c.args in
    (search rules, cc (puts-words x.dst.now x.to x.src.now x.from c.loop-i.i))

pub returns : goal.returns
returns c =
    let x = c.args in
    let e : c.loop-i.i ≡ x.n = omega arith in
    cc (puts-copied x.dst.now x.to x.src.now x.from x.n (λ i. (c.type_inv.src i).fits) (search rules) (search rules))
