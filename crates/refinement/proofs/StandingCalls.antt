-- A mount and a recall, by what stands whatever is open or pending.
use Prim.Native.Nat.{ℕ}
use mathlib.Core.Bool.{cond}
use mathlib.Core.List.{List}
use mathlib.Core.Logic.{inl}
use mathlib.Core.Path.{◌≡◌, refl, sym, ap, ◌∙◌, subst}
use lib.Dec.{eqb}
use lib.ListN.{drop}
use borrow.Author.Tests.{eqb-true, eqb-false}
use Rattle.bounded.proofs.Tests.{case_on}
use Rattle.layout.specs.declared.Sizes.{Sizes}
use Rattle.layout.specs.Layout.{image_length}
use Rattle.mount.proofs.View.{View}
use Rattle.refinement.specs.Stores.{World}
use Rattle.refinement.specs.Calls.{world_of}
use Rattle.refinement.specs.Recall.{recall_row}
use Rattle.refinement.specs.Run.{Result, mount, recall, exec}
use Rattle.refinement.specs.Reference.{Reference, turn}
use Rattle.refinement.proofs.Invariant.{Quiet}
use Rattle.refinement.proofs.Mounted.{state_of}
use Rattle.refinement.proofs.MountCall.{mount-viewed}
use Rattle.refinement.proofs.ReadCall.{turn-kept}
use Rattle.refinement.proofs.RecallCall.{recall-answer, recall-right}
use Rattle.refinement.proofs.Standing.{Standing}
use Rattle.refinement.proofs.Copying.{Copying}
use Rattle.refinement.proofs.Remount.{copying_of, remounted, remount-quiet, remount-copying}
use Rattle.refinement.proofs.Cases.{Invariant, narrow, copying, Kept, Then}

module _ {past : List ℕ} (v : World) (b : Reference) (S : Standing past v b) where
  abbrev view : View
  view = S.viewed.view

  same-past : drop (image_length view.sizes) v.image ≡ past
  same-past = ap (λ (z : Sizes). drop (image_length z) v.image) S.viewed.sizes-same ∙ S.viewed.past-kept

  -- nothing is pending, or the copying of the entries that are counted
  found : Then past v (world_of (cond (eqb view.count 0) (state_of view) (copying_of view)) v.image) (remounted b)
  found =
      let seen = S.viewed in
      case_on (eqb view.count 0)
      (λ t.
      rw t
      (record {
        sizes = seen.sizes-same;
        related = narrow (inl (inl (subst (λ (x : List ℕ). Quiet x (state_of view) v.image (remounted b)) same-past (remount-quiet v.image view b seen.bytes seen.shows seen.mounts seen.shown (eqb-true view.count 0 t)))));
      }))
      (λ t.
      rw t
      (record {
        sizes = seen.sizes-same;
        related = copying (subst (λ (x : List ℕ). Copying x (copying_of view) v.image (remounted b)) same-past (remount-copying v.image view b seen.bytes seen.shows seen.mounts seen.shown (eqb-false view.count 0 t)));
      }))

  pub mount-kept : Kept past mount v b
  mount-kept =
      let e = mount-viewed v view S.viewed.shows S.viewed.mounts in
      record {
        right = ap (λ (d : Result). d.number) e;
        sizes = ap (λ (d : Result). d.world.st.sizes) e ∙ found.sizes;
        related = subst (λ (d : Result). Invariant past d.world (turn mount d.number d.stores b)) (sym e) found.related;
      }

  pub recall-kept : Invariant past v b → (p l : ℕ) (target : List ℕ) → Kept past (recall p l target) v b
  unfolding exec
  recall-kept h p l target =
      record {
        right = (recall-answer v.image b S.viewed p l target, recall-right v.image b S.viewed p l target);
        sizes = refl;
        related = subst (Invariant past v) (sym (turn-kept (recall p l target) (recall_row v.image p l target) 0 b refl)) h;
      }
