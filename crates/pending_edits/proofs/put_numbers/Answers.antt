use Prim.Native.Nat.{ℕ}
use mathlib.Core.List.{List}
use mathlib.Core.Path.{refl, ap, ◌∙◌}
use lib.ListN.{replicate}
use Rattle.pending_edits.specs.Edits.{pending_in}
use Rattle.state_pending.proofs.PutLaws.{pending-put}
use Rattle.state_pending.specs.Put.{eight}
use Rattle.state_words.specs.Decoded.{decoded}
use Rattle.pending_edits.proofs.put_numbers.Goals as goal

pub returns : goal.returns
returns c =
    let n = c.args.n in
    let none = replicate {A = ℕ} 8 0 in
    ap decoded (c.put_eight-3.ensures.words ∙ ap (λ (l : List ℕ). eight l 32 none) (c.put_eight-2.ensures.words ∙ ap (λ (l : List ℕ). eight l 24 none) c.put_eight.ensures.words))
    ∙ pending-put c.args.words.now n (pending_in n) c.all_words.ensures c.put_eight.ensures.long c.put_eight-2.ensures.long c.put_eight-3.ensures.long refl refl c.requires
