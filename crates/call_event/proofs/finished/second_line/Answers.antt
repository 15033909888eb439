use Prim.Native.Nat.{ℕ}
use mathlib.Core.Path.{refl, sym, ap, ◌∙◌}
use native.Mathlib.Omega.{arith}
use Rattle.bounded.proofs.Tests.{row-yes, row-no}
use Rattle.words.specs.Words.{bytes_of, word_at}
use Rattle.image.specs.Lines.{line_bytes, merged, line_words}
use Rattle.lines.proofs.LineLaws.{first_word}
use Rattle.meters.specs.Meters.{moves_credit, rolled}
use Rattle.meters.proofs.MeterLaws.{own_range}
use Rattle.call_event.proofs.finished.second_line.Goals as goal

pub returns-then-not-moves_credit : goal.returns-then-not-moves_credit
returns-then-not-moves_credit c = let a = c.args in row-no (moves_credit a.kind) _ _ _ (sym c.moves_credit.ensures ∙ c.if-not-moves_credit.true) refl

pub read_line_word-stored-requires : goal.read_line_word-stored-requires
read_line_word-stored-requires c =
    (c.requires.0, c.requires.1, omega (arith, c.own_meter-o.ensures, (own_range c.args.kind c.args.meter c.requires.2).1), omega arith, c.requires.3)

pub rolled_by-v-requires : goal.rolled_by-v-requires
rolled_by-v-requires c = (c.requires.4, omega (arith, c.own_meter-o.ensures, (own_range c.args.kind c.args.meter c.requires.2).1))

pub numbered_line-requires : goal.numbered_line-requires
numbered_line-requires c =
    (c.requires.0, c.requires.1, omega (arith, c.own_meter-o.ensures, (own_range c.args.kind c.args.meter c.requires.2).1), c.requires.3)

pub returns : goal.returns
returns c =
    let a = c.args in
    let o = c.own_meter-o in
    let low = (own_range a.kind a.meter c.requires.2).1 in
    let w = first_word a.image.now a.z a.f o.result c.requires.1 (omega (arith, o.ensures, low)) c.requires.3 in
    c.numbered_line.ensures
    ∙ ap (λ (v : ℕ). line_words (merged (line_bytes a.image.now a.z a.f o.result) 0 8 (bytes_of 8 v))) (c.rolled_by-v.ensures ∙ ap (λ (x : ℕ). rolled a.moduli.now o.result x a.amount) (c.read_line_word-stored.ensures ∙ w))
    ∙ ap (λ (x : ℕ). line_words (merged (line_bytes a.image.now a.z a.f x) 0 8 (bytes_of 8 (rolled a.moduli.now x (word_at (line_bytes a.image.now a.z a.f x) 0) a.amount)))) o.ensures
    ∙ row-yes (moves_credit a.kind) _ _ (sym c.moves_credit.ensures ∙ c.if-not-moves_credit.false)
