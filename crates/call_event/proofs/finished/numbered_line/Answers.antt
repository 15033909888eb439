use mathlib.Core.List.{List}
use Prim.Native.Nat.{ℕ}
use mathlib.Core.Path.{refl, ap, ◌∙◌}
use Rattle.image.specs.Lines.{line_bytes, merged, line_words}
use Rattle.call_event.proofs.Asked.{number-bytes}
use Rattle.call_event.proofs.finished.numbered_line.Goals as goal

pub returns : goal.returns
returns c =
    let a = c.args in
    c.merged_line-line.ensures.words ∙ ap (λ (d : List ℕ). line_words (merged (line_bytes a.image.now a.z a.f a.l) 0 8 d)) (number-bytes a.v _ _ refl c.put_word.ensures)
