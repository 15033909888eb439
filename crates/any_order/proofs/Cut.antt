-- A cut: what it leaves, of images that may be mixed, is the image with leftovers replaced. So a mount of it is taken, finds the same, and is related to the reference
-- machine again.
use Prim.Native.Nat.{ℕ}
use mathlib.Core.List.{List}
use mathlib.Core.Path.{◌≡◌, refl, sym, ap, ◌∙◌, subst}
use lib.ListN.{length, drop}
use Rattle.layout.specs.declared.Sizes.{Sizes}
use Rattle.layout.specs.Layout.{image_length}
use Rattle.words.specs.Words.{word}
use Rattle.mount.proofs.View.{View, view_of, Shows}
use Rattle.mount.proofs.Verdict.{Taken}
use Rattle.state.specs.State.{State, Wide}
use Rattle.state.specs.declared.Pending.{Pending}
use Rattle.refinement.specs.Stores.{World}
use Rattle.refinement.specs.Calls.{world_of}
use Rattle.refinement.specs.Run.{Result, mount, exec}
use Rattle.refinement.specs.Reference.{Reference, turn}
use Rattle.refinement.specs.Beside.{line_of}
use Rattle.refinement.proofs.Cases.{Invariant}
use Rattle.refinement.proofs.MountCall.{mount-viewed}
use Rattle.refinement.proofs.MountReadsBack.{reached-finds}
use Rattle.refinement.proofs.Reached.{Reached, past_same}
use Rattle.refinement.proofs.Remount.{remounted}
use Rattle.leftovers.specs.Leftovers.{Replaced}
use Rattle.leftovers.proofs.AfterMount.{found_state, Found, found-invariant}
use Rattle.leftovers.proofs.Replaced.{still-shows, still-taken, still-shown, still_alike}
use Rattle.leftovers.proofs.Alike.{Alike}
use Rattle.any_order.specs.AnyOrder.{Machine, Torn, Survives}
use Rattle.any_order.proofs.Mixable.{all_map}
use Rattle.any_order.proofs.Mixed.{mixed-replaced, mixed-past}
use Rattle.any_order.proofs.Since.{Since, bytes, taken, shown, view, sizes}

module _ {z : Sizes} {past : List ℕ} (m : Machine) (h : Reached z past m.world m.reference) (s : Since z past m.world.image m.since) (image : List ℕ) (torn : Torn m image) where
  abbrev v : World
  v = m.world

  abbrev b : Reference
  b = m.reference

  abbrev x : List ℕ
  x = v.image

  -- what a mount of the stores in order finds
  abbrev found : View
  found = view_of (word x)

  abbrev u : World
  u = world_of v.st image

  T : Taken (length x) found
  T = taken v b h

  past-mixed : drop (image_length z) image ≡ past
  past-mixed =
      let e = past_same v b h in
      mixed-past m.since image torn.bytes (image_length z) x torn.as_long (all_map (λ y q. q ∙ sym e) m.since s.pasts) ∙ e

  module _ (d : Wide) (p : Pending) (F : Found found d p) where
    R : Replaced (world_of (found_state found d p) x) image
    R =
        mixed-replaced m.since image torn.bytes (world_of (found_state found d p) x) (bytes v b h) T.fits torn.as_long (s.mixable d p F)

    shows : Shows image found
    shows = still-shows x found refl T d p F image R

    takes : Taken (length image) found
    takes = still-taken x found refl T d p F image R

    mounts : ((exec mount u).number ≡ 0) × ((exec mount u).world ≡ world_of (found_state found d p) image)
    mounts =
        let e = mount-viewed u found shows takes in
        (ap (λ (r : Result). r.number) e, ap (λ (r : Result). r.world) e ∙ ap (λ (t : State). world_of t image) F.is)

    again : Reached z past (world_of (found_state found d p) image) (remounted b)
    again =
        let e : (view v b h).sizes ≡ z = sizes v b h in
        record {
          sizes = e;
          related =
              subst (λ (q : List ℕ). Invariant q (world_of (found_state found d p) image) (remounted b))
              (ap (λ (y : Sizes). drop (image_length y) image) e ∙ past-mixed)
              (found-invariant image found b R.bytes shows takes (still-shown x found refl T d p F image R b (bytes v b h) (shown v b h)) d p F);
        }

    pub reached-again : let r = exec mount u in Reached z past r.world (turn mount r.number r.stores b)
    reached-again =
        let r = exec mount u in
        subst (λ (w : World). Reached z past w (turn mount r.number r.stores b)) (sym mounts.1)
        (subst (λ (n : ℕ). Reached z past (world_of (found_state found d p) image) (turn mount n r.stores b)) (sym mounts.0) again)

    -- the mount of it is told apart from one of all stores by nothing
    pub number_same : (exec mount v).number ≡ (exec mount u).number
    number_same = ap (λ (r : Result). r.number) (mount-viewed v found refl T) ∙ sym (ap (λ (r : Result). r.number) (mount-viewed u found shows takes))

    pub stores_same : (exec mount v).stores ≡ (exec mount u).stores
    stores_same = ap (λ (r : Result). r.stores) (mount-viewed v found refl T) ∙ sym (ap (λ (r : Result). r.stores) (mount-viewed u found shows takes))

    pub state-same : (exec mount v).world.st ≡ (exec mount u).world.st
    state-same = ap (λ (r : Result). r.world.st) (mount-viewed v found refl T) ∙ sym (ap (λ (r : Result). r.world.st) (mount-viewed u found shows takes))

    pub alike-mixed : Alike x image
    alike-mixed = still_alike x found refl T d p F image R

    pub survived : (buffer : List ℕ) → past ≡ drop (image_length z) buffer → Survives z buffer m image
    survived buffer q =
        let e = mount-viewed u found shows takes in
        let w : World = world_of (found_state found d p) image in
        let g = mount-viewed w found shows takes in
        let F₂ = reached-finds z w (remounted b) again in
        record {
          finds =
              record {
                taken = mounts.0;
                found =
                    λ k l lk ll.
                    ap (λ (t : State). line_of image t k l) (ap (λ (r : Result). r.world.st) e ∙ sym (ap (λ (r : Result). r.world.st) g)) ∙ F₂.found k l lk ll;
              };
          state = sym state-same;
          past = past-mixed ∙ q;
        }
