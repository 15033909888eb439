use borrow.Author.Rules.{rules}
use Prim.Native.Nat.{◌-◌}
use mathlib.Core.Path.{◌≡◌, ap, ◌∙◌}
use lib.ListN.{length}
use Rattle.bounded.proofs.Below.{ends}
use Rattle.state_words.specs.Decoded.{decoded, with_table}
use Rattle.call_mount.proofs.Columns.{table_to, table_none, table-turn, table-all}
use Rattle.call_mount.proofs.filling.put_table.Goals as goal

pub loop-s-init : goal.loop-s-init
loop-s-init c = let a = c.args in table_none (decoded a.words.now) a.t

pub loop-s-preserved : goal.loop-s-preserved
loop-s-preserved c =
    let a = c.args in
    table-turn (decoded a.words.now) (decoded c.loop-s.words) _ _ a.t c.loop-s.s _ c.loop-s.invariant c.slot_in.ensures c.put_slot.ensures c.put_last.ensures

pub returns : goal.returns
returns c =
    let words = c.args.words.now in
    let t = c.args.t in
    let a : length t.page ≡ 16 = search rules in
    let b : length t.original ≡ 16 = search rules in
    let d : length t.spare ≡ 16 = search rules in
    let e : length t.bitmap ≡ 16 = search rules in
    let f : length t.last ≡ 16 = search rules in
    c.loop-s.invariant
    ∙ ap (with_table (decoded words)) (ends (λ k. table_to t k (decoded words).table) 16 c.loop-s.s c.loop-s.auto.s-end c.loop-s-test.false ∙ table-all words t c.all_words.ensures a b d e f)
