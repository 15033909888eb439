use Prim.Native.Nat.{ℕ, ◌+◌, ◌*◌}
use mathlib.Core.Path.{◌≡◌, ap, ◌∙◌}
use native.Mathlib.Omega.{arith}
use lib.ListN.{get_or}
use Rattle.bounded.proofs.Below.{up-ext}
use Rattle.words.specs.Words.{part, put_word}
use Rattle.op_writer.proofs.Back.{puts_back}
use Rattle.op_writer.proofs.put_piece.Goals as goal

-- The words put into the part that is lent are put into the image.
pub returns : goal.returns
unfolding part
returns c =
    let p = c.args.p in
    let a = 8 * p.at in
    puts_back (λ d. 8 * (p.from + d)) (λ d. get_or p.words (p.from + d) 0) c.args.image.now a (8 * p.count) (omega (arith, c.requires.next.inside)) (a + 8 * p.count) c.args.n (omega arith) c.put_words.ensures (λ d k. omega (arith, k, c.requires.inside))
    ∙ up-ext _ _ c.args.n c.args.image.now (λ d m k. let e : a + 8 * (p.from + d) ≡ 8 * (p.at + (p.from + d)) = omega arith in ap (λ (i : ℕ). put_word m i (get_or p.words (p.from + d) 0)) e)
