-- What row 8 says of a valid state's slots, map and sizes.
use Prim.Native.Nat.{ℕ, ◌<◌}
use mathlib.Core.Bool.{true}
use mathlib.Core.Path.{◌≡◌, subst}
use Rattle.bounded.specs.Count.{Once}
use Rattle.bounded.proofs.Pigeonhole.{once-true}
use Rattle.layout.specs.Layout.{Legal, frames}
use Rattle.replay.specs.Table.{home_of, frame_names}
use Rattle.replay.proofs.Maps.{home-own}
use Rattle.state.specs.State.{State, own_frame}
use Rattle.validity.specs.Validity.{state_ok}
use Rattle.validity.proofs.Ranged.{SlotsGood, slots-good}
use Rattle.refinement.specs.Frames.{frame_of}
use Rattle.refinement.proofs.Names.{owned-low, committed-owned}
use Rattle.refinement.proofs.NamesOnce.{home-low}
use Rattle.refinement.proofs.StateValid.{parts, valid}

module _ (st : State) (e : state_ok st ≡ true) where
  pub good : SlotsGood st.sizes st.head st.tail st.table (own_frame st)
  good = slots-good st.sizes st.head st.tail st.table (own_frame st) (parts st e).slots

  pub legal-sizes : Legal st.sizes
  legal-sizes = (valid st e).legal

  -- spares and homes by the map name each frame once; each page's entry is its home
  pub map-names : Once (frames st.sizes) (frame_names (own_frame st) st.sizes st.table)
  map-names = once-true (frames st.sizes) (frame_names (own_frame st) st.sizes st.table) good.names

  pub map-home : (p : ℕ) → p < st.sizes.pages → home_of (own_frame st) st.sizes st.table p ≡ own_frame st p
  map-home = home-own (own_frame st) st.sizes st.table legal-sizes good.kept

  -- the frames that it leads to are frames
  pub map-low : (p : ℕ) → p < st.sizes.pages → own_frame st p < frames st.sizes
  map-low p l = subst (λ (x : ℕ). x < frames st.sizes) (map-home p l) (home-low (own_frame st) st.sizes st.table map-names p l)

  pub copy-low : (p l : ℕ) → p < st.sizes.pages → frame_of (own_frame st) st.sizes st.table p l < frames st.sizes
  copy-low p l m =
      owned-low (own_frame st) st.sizes st.table legal-sizes map-names p (frame_of (own_frame st) st.sizes st.table p l) m
      (committed-owned (own_frame st) st.sizes st.table legal-sizes map-names p l)
