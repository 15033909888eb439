use mathlib.Core.Path.{◌≡◌, sym, ap, ◌∙◌}
use Prim.Native.Nat.{ℕ, ◌+◌, ◌-◌, ◌*◌, ◌%◌}
use borrow.Author.Rules.{rules}
use native.Mathlib.Omega.{arith}
use Rattle.journal.specs.declared.Slot.{Slot}
use Rattle.journal.specs.Slots.{word_of_slot}
use Rattle.fresh.specs.Fresh.{fresh_word}
use Rattle.fresh.proofs.FreshWords.{fresh-header, fresh-page, fresh-slot, fresh-zero}
use Rattle.fresh.proofs.fresh_word.Goals as goal

-- By the part of the image that word a lies in.
pub returns-then-a-lt8 : goal.returns-then-a-lt8
returns-then-a-lt8 c =
    c.header_word.ensures ∙ sym (fresh-header c.args.z c.requires c.args.a c.if-a-lt8.true)

pub returns-then-p-z : goal.returns-then-p-z
returns-then-p-z c =
    let p : ℕ = c.args.a - 8 in
    let e : 8 + (c.args.a - 8) ≡ c.args.a = omega (arith, c.if-a-lt8.false) in
    sym (fresh-page c.args.z c.requires (c.args.a - 8) c.if-p-z.true) ∙ ap (fresh_word c.args.z) e

pub word_of_slot-requires : goal.word_of_slot-requires
word_of_slot-requires c = rw c.free_slot.ensures (search rules)

pub returns-then-i-z : goal.returns-then-i-z
returns-then-i-z c =
    let z = c.args.z in
    let i : ℕ = c.args.a - 8 - z.pages in
    let e : 8 + (z.pages + (c.args.a - 8 - z.pages)) ≡ c.args.a = omega arith in
    c.word_of_slot.ensures
    ∙ ap (λ (v : Slot). word_of_slot v ((c.args.a - 8 - z.pages) % 3)) c.free_slot.ensures
    ∙ sym (fresh-slot z c.requires (c.args.a - 8 - z.pages) c.if-i-z.true)
    ∙ ap (fresh_word z) e

pub returns : goal.returns
returns c =
    let z = c.args.z in
    let e : 8 + (z.pages + (3 * z.slots + (c.args.a - 8 - z.pages - 3 * z.slots))) ≡ c.args.a = omega arith in
    sym (fresh-zero z c.requires (c.args.a - 8 - z.pages - 3 * z.slots)) ∙ ap (fresh_word z) e
