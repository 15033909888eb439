-- Leftovers never show: by induction over the later calls, two worlds of one state, over images that are alike, and both related to one
-- reference machine.
use Prim.Native.Nat.{ℕ}
use mathlib.Core.List.{List, [], ◌∷◌}
use mathlib.Core.Logic.{inl}
use mathlib.Core.Path.{◌≡◌, sym, ap, ◌∙◌, subst}
use lib.Dec.{eqb}
use lib.ListN.{length, drop}
use borrow.Author.Tests.{eqb-true, eqb-false}
use Rattle.bounded.proofs.Tests.{case_on}
use Rattle.layout.specs.Layout.{image_length}
use Rattle.words.specs.Words.{Bytes}
use Rattle.state.specs.State.{State, Wide}
use Rattle.state.specs.declared.Pending.{Pending}
use Rattle.mount.proofs.View.{View}
use Rattle.refinement.specs.Stores.{World}
use Rattle.refinement.specs.Calls.{world_of}
use Rattle.refinement.specs.Run.{Call, Result, exec}
use Rattle.refinement.specs.Reference.{Reference, turn}
use Rattle.refinement.specs.Statement.{AllLent}
use Rattle.refinement.proofs.Cases.{Invariant, standing-of}
use Rattle.refinement.proofs.CaseSound.{call-sound}
use Rattle.refinement.proofs.Remount.{remounted}
use Rattle.refinement.proofs.MountCall.{mount-viewed}
use Rattle.refinement.proofs.Reached.{always}
use Rattle.refinement.proofs.Viewed.{Viewed}
use Rattle.leftovers.specs.Leftovers.{Replaced, SameFrom, Unseen, LeftoversNeverShow}
use Rattle.leftovers.proofs.AfterMount.{found_state, Found, found-invariant, after-mount}
use Rattle.leftovers.proofs.Alike.{Alike}
use Rattle.leftovers.proofs.CallSame.{call_same, call-alike}
use Rattle.leftovers.proofs.Replaced.{still-shows, still-taken, still-shown, still_alike}

same_from : {past past' : List ℕ} (calls : List Call) → AllLent calls → (st : State) (x y : List ℕ) (b : Reference)
    → Invariant past (world_of st x) b → Invariant past' (world_of st y) b → Alike x y → SameFrom calls (world_of st x) (world_of st y)
same_from [] lent st x y b h k a = tt
same_from {past = past} {past' = past'} (c ∷ cs) lent st x y b h k a =
    let d : Result = exec c (world_of st x) in
    let e : Result = exec c (world_of st y) in
    let s = call_same st x y b h k a c in
    let m = call-sound c lent.0 (world_of st x) b h in
    let next : Reference = turn c d.number d.stores b in
    let other : Invariant past' (world_of d.world.st e.world.image) next =
    subst (λ (t : State). Invariant past' (world_of t e.world.image) next) (sym s.state)
    (subst (λ (n : ℕ). Invariant past' e.world (turn c n d.stores b)) (sym s.number)
    (subst (λ (n : ℕ). Invariant past' e.world (turn c e.number n b)) (sym s.stores) (call-sound c lent.0 (world_of st y) b k).related)) in
    let rest =
    same_from cs lent.1 d.world.st d.world.image e.world.image next m.related other
    (call-alike st x y b h k a c) in
    (s, subst (λ (t : State). SameFrom cs d.world (world_of t e.world.image)) s.state rest)

module _ {past : List ℕ} (w : World) (b : Reference) (s : Viewed past w.st w.image b) (d : Wide) (p : Pending) (F : Found s.view d p) where
  abbrev view : View
  view = s.view

  abbrev st : State
  st = found_state view d p

  unseen_of : (image : List ℕ) → Replaced (world_of st w.image) image → Unseen (world_of st w.image) (world_of st image)
  unseen_of image R =
      let img = w.image in
      let u : World = world_of st image in
      let shows = still-shows img view s.shows s.mounts d p F image R in
      let taken = still-taken img view s.shows s.mounts d p F image R in
      let shown = still-shown img view s.shows s.mounts d p F image R b s.bytes s.shown in
      let found = mount-viewed u view shows taken in
      record {
        taken = ap (λ (x : Result). x.number) found;
        remounted = ap (λ (x : Result). x.world.st) found ∙ F.is;
        later =
            λ calls lent.
            same_from calls lent st img image (remounted b) (found-invariant img view b s.bytes s.shows s.mounts s.shown d p F) (found-invariant image view b R.bytes shows taken shown d p F)
            (still_alike img view s.shows s.mounts d p F image R);
      }

pub leftovers-never-show : LeftoversNeverShow
leftovers-never-show =
    always _ (λ z buffer w b h.
    let s = (standing-of w b h.related).viewed in
    after-mount (λ v. (image : List ℕ) → Replaced v image → Unseen v (world_of v.st image)) w b s (unseen_of w b s))
