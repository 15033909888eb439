use Prim.Native.Nat.{ℕ, ◌+◌, ◌-◌}
use mathlib.Core.List.{List}
use mathlib.Core.Path.{◌≡◌, ap, ◌∙◌}
use native.Mathlib.Omega.{arith}
use lib.ListN.{take, drop}
use Rattle.words.specs.Words.{part, words_at}
use Rattle.op_pieces.specs.Pieces.{line_piece}
use Rattle.op_pieces.proofs.of_copy.Goals as goal

pub returns : goal.returns
unfolding part
returns c =
    let x = c.args in
    let e : x.o + 64 - x.o ≡ 64 = omega arith in
    ap (λ (l : List ℕ). line_piece x.at l x.k) (c.words_of-words.ensures ∙ ap (λ (n : ℕ). words_at (take n (drop x.o x.bytes.now)) 0 8) e)
