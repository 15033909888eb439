use mathlib.Core.Path.{◌≡◌, sym, ap, ◌∙◌}
use Prim.Native.Nat.{ℕ, ◌<◌}
use borrow.Author.Tests.{lt-ltb, le-ltb}
use native.Mathlib.Omega.{arith}
use lib.Dec.{eqb}
use lib.ListN.{get_or, take}
use Rattle.std.specs.declared.option.Option.{Option}
use Rattle.std.specs.Option.{unwrap_or}
use Rattle.std.proofs.lemmas.List.{length-take-le}
use Rattle.std.proofs.lemmas.List.Quantifiers.{position-Some}
use Rattle.bounded.specs.Below.{first_below}
use Rattle.layout.proofs.Slices.{found-first}
use Rattle.words.specs.Words.{word}
use Rattle.journal.specs.declared.Slot.{Slot}
use Rattle.refinement.specs.Frames.{committed_frame}
use Rattle.recalling.proofs.recall_frame.Goals as goal

-- The slot that is found, or the page-table word that is read, is the one of the definition.
pub returns-in-Some : goal.returns-in-Some
returns-in-Some c =
    let x = c.args in
    let q = sym c.in-Some.is ∙ c.slot_of.ensures in
    let f : c.in-Some.s ≡ first_below x.z.slots (λ k. eqb (get_or x.t.now.page k 0) x.page) =
    ap (λ (o : Option ℕ). unwrap_or o x.z.slots) q ∙ found-first (λ k. eqb k x.page) x.t.now.page x.z.slots (omega arith) in
    let l : c.in-Some.s < x.z.slots =
    omega (arith, (position-Some (λ k. eqb k x.page) (take x.z.slots x.t.now.page) c.in-Some.s 0 (sym q)).0, length-take-le x.z.slots x.t.now.page (omega arith)) in
    rw (← f, lt-ltb _ _ l)
    (c.committed_frame.ensures ∙ ap (λ (t : Slot). committed_frame t x.line) c.slot_at.ensures)

pub returns-in-None : goal.returns-in-None
returns-in-None c =
    let x = c.args in
    let q = sym c.in-None.is ∙ c.slot_of.ensures in
    let f : x.z.slots ≡ first_below x.z.slots (λ k. eqb (get_or x.t.now.page k 0) x.page) =
    ap (λ (o : Option ℕ). unwrap_or o x.z.slots) q ∙ found-first (λ k. eqb k x.page) x.t.now.page x.z.slots (omega arith) in
    rw (← f, le-ltb x.z.slots x.z.slots (omega arith))
    (c.read_word.ensures ∙ ap (word x.image.now) c.page_word.ensures)
