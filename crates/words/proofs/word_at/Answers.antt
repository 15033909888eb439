use mathlib.Core.Path.{◌≡◌, ap, ◌∙◌}
use Prim.Native.Nat.{ℕ, ◌+◌, ◌-◌}
use lib.ListN.{take, drop, length}
use native.Mathlib.Omega.{arith}
use Rattle.words.specs.Words.{le_of, word_at, part}
use Rattle.words.proofs.Bytes.{from-eight}
use Rattle.words.proofs.word_at.Goals as goal

-- The part that is read has at + 8 - at elements, which is 8.
pub returns : goal.returns
unfolding word_at part
returns c =
    let e : c.args.at + 8 - c.args.at ≡ 8 = omega arith in
    let chunk = rw c.unwrap.ensures at c.try_into.ensures.1 in
    c.from_le_bytes.ensures ∙ from-eight c.unwrap.result (ap length chunk.same ∙ chunk.long)
    ∙ ap le_of chunk.same ∙ ap (λ (n : ℕ). le_of (take n (drop c.args.at c.args.s.now))) e
