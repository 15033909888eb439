use mathlib.Core.Path.{◌≡◌, refl}
use borrow.Author.Rules.{rules}
use native.Mathlib.Omega.{arith}
use Rattle.words.specs.Words.{put_words}
use Rattle.words.proofs.Runs.{puts-replicate}
use Rattle.runs.proofs.fill_words.Goals as goal

pub loop-i-init : goal.loop-i-init
unfolding put_words
loop-i-init c = (refl, refl)

pub loop-i-preserved : goal.loop-i-preserved
loop-i-preserved c =
    let x = c.args in
    (search rules, cc (puts-replicate x.s.now x.at x.v c.loop-i.i))

pub returns : goal.returns
returns c =
    let e : c.loop-i.i ≡ c.args.n = omega arith in
    cc
