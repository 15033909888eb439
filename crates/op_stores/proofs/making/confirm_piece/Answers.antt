use Prim.Native.Nat.{ℕ}
use mathlib.Core.Path.{ap, ◌∙◌}
use native.Mathlib.Omega.{arith}
use Rattle.layout.specs.Layout.{head_word}
use Rattle.journal.specs.Records.{position}
use Rattle.state.proofs.Numbers.{held-le}
use Rattle.op_pieces.specs.Pieces.{one_piece}
use Rattle.op_stores.proofs.making.confirm_piece.Goals as goal

pub confirm_piece-requires : goal.confirm_piece-requires
confirm_piece-requires c =
    (c.requires.0, c.requires.1, omega (arith, held-le _ _ _ _ c.held_count-c.ensures, c.requires.0))

pub returns : goal.returns
returns c =
    let a = c.args in
    c.confirm_piece.ensures ∙ ap (λ (n : ℕ). one_piece head_word (position a.z a.at.head n)) c.held_count-c.ensures
