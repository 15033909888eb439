-- The world right after a mount: its state is what the image shows, with nothing pending or, where entries are counted, with their copying pending.
use Prim.Native.Nat.{ℕ, ◌<◌}
use mathlib.Core.Bool.{Bool, cond}
use mathlib.Core.List.{List}
use mathlib.Core.Logic.{inl}
use mathlib.Core.Path.{◌≡◌, refl, sym, ap, ◌∙◌, subst}
use native.Mathlib.Omega.{arith}
use lib.Dec.{eqb}
use lib.ListN.{length, drop, get_or}
use borrow.Author.Tests.{eqb-true, eqb-false, eq-eqb, ne_eqb}
use Rattle.bounded.proofs.Tests.{case_on}
use Rattle.layout.specs.Layout.{image_length}
use Rattle.words.specs.Words.{Bytes}
use Rattle.mount.proofs.Verdict.{Taken, found_in, map_in}
use Rattle.mount.proofs.View.{View, Shows}
use Rattle.state.specs.State.{State, Wide}
use Rattle.state.specs.declared.Pending.{Pending}
use Rattle.state.specs.Held.{no_writer}
use Rattle.state.specs.Wide.{no_wide, wide_of}
use Rattle.refinement.specs.Settled.{no_pending}
use Rattle.refinement.specs.Mount.{all_closed, mounted_state, copying}
use Rattle.refinement.specs.Stores.{World}
use Rattle.refinement.specs.Calls.{world_of}
use Rattle.refinement.specs.Run.{Result, mount, exec}
use Rattle.refinement.specs.Beside.{counted}
use Rattle.refinement.specs.Reference.{Reference}
use Rattle.refinement.proofs.Cases.{Invariant, narrow}
use Rattle.refinement.proofs.Cases as Cases
use Rattle.refinement.proofs.MountCall.{mount-viewed}
use Rattle.refinement.proofs.Remount.{remounted, Shown, remount-quiet, remount-copying}
use Rattle.refinement.proofs.Viewed.{Viewed}

-- a state with what the view shows
abbrev pub found_state : View → Wide → Pending → State
found_state v d p =
    record { sizes = v.sizes; head = v.head; tail = v.tail; next = 0; table = v.table; map = map_in v; writers = all_closed; wide = d; pending = p }

-- it is the one that a mount returns, and tells the entries that are counted
pub record Found (v : View) (d : Wide) (p : Pending) : Type 0 where
  pub is : mounted_state (found_in v) ≡ found_state v d p
  pub count : counted (found_state v d p) ≡ v.count
  pub keys : (e : ℕ) → e < v.count → get_or d.keys e 0 ≡ get_or v.keys e 0

abbrev pub copies : View → Wide
copies v = wide_of no_writer v.count v.keys

pub quiet-found : (v : View) → v.count ≡ 0 → Found v no_wide no_pending
quiet-found v e =
    record {
      is = ap (λ (x : Bool). cond x (found_state v no_wide no_pending) (found_state v (copies v) copying)) (eq-eqb v.count 0 e);
      count = sym e;
      keys = λ i l. absurd (omega arith);
    }

pub copying-found : (v : View) → (v.count ≡ 0 → ⊥) → Found v (copies v) copying
copying-found v n =
    record {
      is = ap (λ (x : Bool). cond x (found_state v no_wide no_pending) (found_state v (copies v) copying)) (ne_eqb v.count 0 n);
      count = refl;
      keys = λ i l. refl;
    }

-- a sentence on it
pub after-mount : {past : List ℕ} (P : World → Type 0) (w : World) (b : Reference) (s : Viewed past w.st w.image b)
    → ((d : Wide) (p : Pending) → Found s.view d p → P (world_of (found_state s.view d p) w.image)) → P (exec mount w).world
after-mount P w b s f =
    let v = s.view in
    let at : (d : Wide) (p : Pending) → Found v d p → P (exec mount w).world =
    λ d p F.
    subst P (sym (ap (λ (x : Result). x.world) (mount-viewed w v s.shows s.mounts) ∙ ap (λ (t : State). world_of t w.image) F.is)) (f d p F) in
    case_on (eqb v.count 0)
    (λ t. at no_wide no_pending (quiet-found v (eqb-true v.count 0 t)))
    (λ t. at (copies v) copying (copying-found v (eqb-false v.count 0 t)))

-- it is related to the reference machine after the mount, over any image that shows the view and its lines
pub found-invariant : (img : List ℕ) (v : View) (b : Reference) → Bytes img → Shows img v → Taken (length img) v → Shown img v b → (d : Wide) (p : Pending) → Found v d p
    → Invariant (drop (image_length v.sizes) img) (world_of (found_state v d p) img) (remounted b)
found-invariant img v b bytes shows mounts shown d p F =
    let past = drop (image_length v.sizes) img in
    let q : mounted_state (found_in v) ≡ found_state v d p = F.is in
    subst (λ (s : State). Invariant past (world_of s img) (remounted b)) q
    (case_on (eqb v.count 0)
    (λ t. rw t (narrow (inl (inl (remount-quiet img v b bytes shows mounts shown (eqb-true v.count 0 t))))))
    (λ t. rw t (Cases.copying (remount-copying img v b bytes shows mounts shown (eqb-false v.count 0 t)))))
