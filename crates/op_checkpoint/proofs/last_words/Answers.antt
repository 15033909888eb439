use Prim.Native.Nat.{ℕ, ◌+◌}
use mathlib.Core.Path.{ap, ◌∙◌}
use native.Mathlib.Omega.{arith}
use Rattle.layout.specs.Layout.{record_word}
use Rattle.layout.proofs.LayoutLaws.{record-end}
use Rattle.replay.specs.Table.{no_position}
use Rattle.refinement.proofs.CheckpointPlaces.{default_none}
use Rattle.state_words.specs.Decoded.{decoded}
use Rattle.op_checkpoint.proofs.CheckpointPieces.{lasts-long}
use Rattle.op_checkpoint.proofs.last_words.Goals as goal

pub overflow_add-result : goal.overflow_add-result
overflow_add-result c =
    omega (arith, c.record_word.ensures, record-end c.args.z c.requires.0 c.last_at.result, c.requires.0)

pub returns : goal.returns
returns c =
    let last = (decoded c.args.words.now).table.last in
    ap (λ (k : ℕ). k + 1) (c.record_word.ensures
    ∙ ap (record_word c.args.z) (c.last_at.ensures ∙ default_none last c.args.s 0 no_position (omega (arith, lasts-long c.args.words.now c.all_words.ensures, c.requires.1))))
