-- Stores may reach the memory in any order, by induction over the list: the world is related to the reference machine as in demand 3, and so is that of the same list in
-- order; both have one state, and images that are alike; and the images since the last fence may be mixed.
use Prim.Native.Nat.{ℕ}
use mathlib.Core.List.{List, [], ◌∷◌}
use mathlib.Core.Logic.{⊎_elim, inl, inr}
use mathlib.Core.Path.{◌≡◌, refl, sym, ◌∙◌, subst}
use lib.ListN.{drop}
use Rattle.layout.specs.declared.Sizes.{Sizes}
use Rattle.layout.specs.Layout.{image_length}
use Rattle.words.specs.Words.{word, store}
use Rattle.mount.proofs.View.{View, view_of}
use Rattle.state.specs.State.{State}
use Rattle.refinement.specs.Stores.{stepped}
use Rattle.refinement.specs.Calls.{world_of}
use Rattle.refinement.specs.Run.{Call, Result, mount, exec, formatted_world, after}
use Rattle.refinement.specs.Reference.{Reference, blank, turn}
use Rattle.refinement.specs.Beside.{follows}
use Rattle.refinement.proofs.Cases.{standing-of}
use Rattle.refinement.proofs.Demand.{demand-at}
use Rattle.refinement.proofs.Reached.{Reached, always, reached-first, reached-next}
use Rattle.leftovers.specs.Leftovers.{Leftover}
use Rattle.leftovers.proofs.AfterMount.{after-mount}
use Rattle.leftovers.proofs.Alike.{Alike}
use Rattle.leftovers.proofs.CallSame.{call_same, call-alike}
use Rattle.any_order.specs.AnyOrder.{since_stores, stores_by, Machine, Act, call, cut, fence, acted_by, AllMay, in_order, Holds, AnyOrder, ByWord, DecidesByWord, GoesAside, OthersLeft}
use Rattle.any_order.proofs.Harmless.{LeftIn, Harmless}
use Rattle.any_order.proofs.Mixable.{some-found}
use Rattle.any_order.proofs.NextWide.{others-harmless, decides-by-word}
use Rattle.any_order.proofs.Since.{Since, since-fence, since-call}
use Rattle.any_order.proofs.Cut.{reached-again, number_same, stores_same, state-same, alike-mixed, survived}

-- where all stores land in order, and where they do not: one state, images that are alike, and one reference machine
alike-trans : {x y i : List ℕ} → Alike x y → Alike y i → Alike x i
alike-trans p q = record { table = p.table ∙ q.table }

abbrev machine : State → List ℕ → List (List ℕ) → Reference → Machine
machine st y since b = record { world = world_of st y; since = since; reference = b }

-- what is to show of a machine m, the same list reaching its end in order from the state st and the image x
abbrev HoldsAfter : Sizes → List ℕ → List Act → State → List ℕ → Reference → Machine → Type 0
HoldsAfter z buffer acts st x b m =
    AllMay acts m → Holds z buffer (acted_by acts m) (after (in_order acts) (world_of st x)) (follows (in_order acts) (world_of st x) b)

module _ (z : Sizes) (buffer : List ℕ) where
  abbrev rest : List ℕ
  rest = drop (image_length z) buffer

  -- after a call or a cut that gave the results d in order and e on the machine, equal in all but the image
  goes_on : (xs : List Act) (c : Call) (d e : Result) (since : List (List ℕ)) (b : Reference) → d.number ≡ e.number → d.stores ≡ e.stores → d.world.st ≡ e.world.st
      → (Reached z rest (world_of d.world.st e.world.image) (turn c d.number d.stores b)
      → HoldsAfter z buffer xs d.world.st d.world.image (turn c d.number d.stores b) (machine d.world.st e.world.image since (turn c d.number d.stores b)))
      → Reached z rest e.world (turn c e.number e.stores b)
      → HoldsAfter z buffer xs d.world.st d.world.image (turn c d.number d.stores b) (record { world = e.world; since = since; reference = turn c e.number e.stores b })
  goes_on xs c d e since b p q r f k =
      let y : List ℕ = e.world.image in
      let next : Reference = turn c d.number d.stores b in
      let back : Reached z rest (world_of d.world.st y) next =
      subst (λ (t : State). Reached z rest (world_of t y) next) (sym r)
      (subst (λ (n : ℕ). Reached z rest e.world (turn c n d.stores b)) (sym p) (subst (λ (n : ℕ). Reached z rest e.world (turn c e.number n b)) (sym q) k)) in
      subst (HoldsAfter z buffer xs d.world.st d.world.image next) (λ i. machine (r i) y since (turn c (p i) (q i) b)) (f back)

  holding : (acts : List Act) (st : State) (x y : List ℕ) (since : List (List ℕ)) (b : Reference) → Reached z rest (world_of st x) b → Reached z rest (world_of st y) b
      → Alike x y → Since z rest y since → HoldsAfter z buffer acts st x b (machine st y since b)
  unfolding exec after follows acted_by
  holding [] st x y since b h k a s may =
      let m : Machine = machine st y since b in
      record {
        demand = demand-at z buffer m.world b k;
        survives = λ image torn. some-found (view_of (word y)) (λ d p F. survived m k s image torn d p F buffer refl);
        all-landed = record { as_long = refl; bytes = s.newest };
        state = refl;
        reference = refl;
        same = call_same st x y b h.related k.related a;
      }
  holding (call c ∷ xs) st x y since b h k a s may =
      let d : Result = exec c (world_of st x) in
      let e : Result = exec c (world_of st y) in
      let same = call_same st x y b h.related k.related a c in
      let first : Reached z rest d.world (turn c d.number d.stores b) = reached-next c may.0 (world_of st x) b h in
      let second : Reached z rest e.world (turn c e.number e.stores b) = reached-next c may.0 (world_of st y) b k in
      let now : List (List ℕ) = since_stores (stores_by c e) (world_of st y) since in
      goes_on xs c d e now b same.number same.stores same.state
      (λ back.
      holding xs d.world.st d.world.image e.world.image now (turn c d.number d.stores b) first back
      (call-alike st x y b h.related k.related a c)
      (since-call c (world_of st y) b k since s))
      second may.1
  holding (cut image ∷ xs) st x y since b h k a s may =
      let m : Machine = machine st y since b in
      let d : Result = exec mount (world_of st x) in
      let e : Result = exec mount (world_of st image) in
      let same = call_same st x y b h.related k.related a mount in
      let first : Reached z rest d.world (turn mount d.number d.stores b) = reached-next mount tt (world_of st x) b h in
      some-found (view_of (word y)) (λ w p F.
      let second : Reached z rest e.world (turn mount e.number e.stores b) = reached-again m k s image may.0 w p F in
      goes_on xs mount d e (image ∷ []) b (same.number ∙ number_same m k s image may.0 w p F) (same.stores ∙ stores_same m k s image may.0 w p F) (same.state ∙ state-same m k s image may.0 w p F)
      (λ back.
      holding xs d.world.st x image (image ∷ []) (turn mount d.number d.stores b) first back
      (alike-trans a (alike-mixed m k s image may.0 w p F))
      (since-fence e.world (turn mount e.number e.stores b) second))
      second may.1)
  holding (fence ∷ xs) st x y since b h k a s may = holding xs st x y (y ∷ []) b h k a (since-fence (world_of st y) b k) may.1

pub any_order : AnyOrder
any_order z ok buffer all fits acts may =
    let h = reached-first z ok buffer all fits in
    let v = formatted_world z buffer in
    holding z buffer acts v.st v.image v.image (v.image ∷ []) blank h h (record { table = refl }) (since-fence v blank h) may

-- ---- why

pub word-decides : DecidesByWord
word-decides = always (λ z buffer v b. ByWord v) (λ z buffer v b h busy. decides-by-word (drop (image_length z) buffer) v.st v.image b h.related busy)

pub others-left : OthersLeft
others-left =
    always (λ z buffer v b. GoesAside v) (λ z buffer v b h busy off.
    let w = (standing-of v b h.related).viewed in
    let harmless = subst (λ (u : View). Harmless u v.image (stepped v).image) w.shows (others-harmless (drop (image_length z) buffer) v.st v.image b h.related busy off) in
    ⊎_elim inl
    (λ (q : (a : ℕ) × (x : ℕ) × ((stepped v).image ≡ store v.image a x) × LeftIn w.view v.image a).
    inr (q.0, q.1, q.2, after-mount (λ u. Leftover u q.0) v b w q.3))
    harmless)
