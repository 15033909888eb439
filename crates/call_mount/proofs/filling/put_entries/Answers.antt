use borrow.Author.Rules.{rules}
use Prim.Native.Nat.{◌-◌}
use mathlib.Core.Path.{◌≡◌, ap, ◌∙◌}
use lib.ListN.{length}
use Rattle.bounded.proofs.Below.{ends}
use Rattle.state.specs.State.{State}
use Rattle.state.specs.Wide.{wide_of}
use Rattle.state_words.specs.Decoded.{decoded, with_wide}
use Rattle.call_mount.proofs.Columns.{column, keys_to, keys_none, keys-turn, keys-all}
use Rattle.call_mount.proofs.filling.put_entries.Goals as goal

pub loop-e-init : goal.loop-e-init
loop-e-init c = let a = c.args in keys_none (decoded a.words.now) a.keys

pub loop-e-preserved : goal.loop-e-preserved
loop-e-preserved c =
    let a = c.args in
    keys-turn (decoded a.words.now) (decoded c.loop-e.words) _ a.keys c.loop-e.e c.loop-e.invariant c.put_key.ensures

pub returns : goal.returns
returns c =
    let st = decoded c.args.words.now in
    let long : length c.args.keys ≡ 64 = search rules in
    c.put_wide.ensures
    ∙ ap (λ (u : State). with_wide u (wide_of 4 c.args.n u.wide.keys))
    (c.loop-e.invariant
    ∙ ap (keys_to st) (ends (λ k. column c.args.keys k st.wide.keys) 64 c.loop-e.e c.loop-e.auto.e-end c.loop-e-test.false ∙ keys-all c.args.words.now c.args.keys c.all_words.ensures long))
