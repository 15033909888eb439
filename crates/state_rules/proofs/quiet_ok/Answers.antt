use Prim.Native.Nat.{ℕ}
use mathlib.Core.Bool.{Bool, true}
use mathlib.Core.Path.{◌≡◌, sym, ◌∙◌}
use Rattle.layout.specs.declared.Sizes.{Sizes}
use Rattle.state.specs.State.{State, own_frame}
use Rattle.state_words.specs.Decoded.{decoded}
use Rattle.validity.specs.Validity.{slots_ok}
use Rattle.validity.proofs.Ranged.{PositionsLow, positions-low}
use Rattle.state_rules.proofs.quiet_ok.Goals as goal

-- sizes and positions that passed the first test are in their ranges
low : (z : Sizes) (head tail : ℕ) (st : State) (r : Bool) → r ≡ slots_ok z head tail st.table (own_frame st) → r ≡ true → PositionsLow z head tail
low z head tail st r e t = positions-low z head tail st.table (own_frame st) (sym e ∙ t)

pub held_ok-requires : goal.held_ok-requires
held_ok-requires c = (low _ _ _ (decoded c.args.words.now) _ c.slots_ok.ensures c.if-not-slots_ok.false).legal

pub lasts_ok-requires : goal.lasts_ok-requires
lasts_ok-requires c = let r = low _ _ _ (decoded c.args.words.now) _ c.slots_ok.ensures c.if-not-slots_ok.false in (r.legal, r.head-low, r.tail-low)

pub prepared_ok-requires : goal.prepared_ok-requires
prepared_ok-requires c =
    let r = low _ _ _ (decoded c.args.words.now) _ c.slots_ok.ensures c.if-not-slots_ok.false in
    (r.legal, r.head-low, r.tail-low, r.live-high)

pub wide_ok-requires : goal.wide_ok-requires
wide_ok-requires c = (low _ _ _ (decoded c.args.words.now) _ c.slots_ok.ensures c.if-not-slots_ok.false).legal
