use Prim.Native.Nat.{ℕ}
use mathlib.Core.List.{List}
use mathlib.Core.Path.{ap, ◌∙◌}
use Rattle.state_words.specs.Decoded.{decoded}
use Rattle.state_pending.specs.Put.{eight}
use Rattle.state_pending.proofs.PutLaws.{pending-put}
use Rattle.state_pending.proofs.put_pending.Goals as goal

pub returns : goal.returns
returns c =
    let p = c.args.p in
    ap decoded (c.put_eight-3.ensures.words ∙ ap (λ (l : List ℕ). eight l 32 p.second) (c.put_eight-2.ensures.words ∙ ap (λ (l : List ℕ). eight l 24 p.line) c.put_eight.ensures.words))
    ∙ pending-put c.args.words.now c.op_words-numbers.result p c.all_words.ensures c.put_eight.ensures.long c.put_eight-2.ensures.long c.put_eight-3.ensures.long c.op_words-numbers.ensures.op c.op_words-numbers.ensures.made c.requires.0
