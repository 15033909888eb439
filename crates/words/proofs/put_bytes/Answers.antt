use Prim.Native.Nat.{ℕ}
use mathlib.Core.List.{List, ◌++◌, ◌∷◌, []}
use mathlib.Core.Path.{◌≡◌, ◌∙◌, sym, ap}
use native.Mathlib.Omega.{arith}
use lib.ListN.{length, get_or}
use lib.Seq.{take_all}
use Rattle.std.proofs.lemmas.List.{take_more, take_more_set}
use Rattle.words.proofs.Bytes.{to-eight}
use Rattle.words.proofs.put_bytes.Goals as goal

pub loop-i-preserved : goal.loop-i-preserved
loop-i-preserved c =
    let i = c.loop-i.i in
    let bytes = c.to_le_bytes-bytes.result in
    let size : length bytes ≡ 8 = ap (λ (l : List ℕ). length l) c.to_le_bytes-bytes.ensures in
    take_more_set c.loop-i.b i (get_or bytes i 0) (omega arith) ∙ ap (λ (l : List ℕ). l ++ get_or bytes i 0 ∷ []) c.loop-i.invariant
    ∙ sym (take_more bytes i 0 (omega arith))

pub returns : goal.returns
returns c =
    let bytes = c.to_le_bytes-bytes.result in
    let size : length bytes ≡ 8 = ap (λ (l : List ℕ). length l) c.to_le_bytes-bytes.ensures in
    sym (take_all c.loop-i.i c.loop-i.b (omega arith)) ∙ c.loop-i.invariant ∙ take_all c.loop-i.i bytes (omega arith)
    ∙ c.to_le_bytes-bytes.ensures ∙ to-eight c.args.v
