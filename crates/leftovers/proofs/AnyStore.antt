-- One store of whatever is pending, in two images: those of a wide write and a wide commit go beyond what tells the slots; a consolidation or a checkpoint
-- beside a wide transaction makes the stores that it makes without.
use Prim.Native.Nat.{ℕ, ◌+◌, ◌-◌, ◌*◌, ◌/◌, ◌%◌, ◌<◌, ◌≤◌}
use mathlib.Core.Bool.{Bool, true, false, ◌||◌}
use mathlib.Core.List.{List}
use mathlib.Core.Logic.{◌⊎◌, inl, inr}
use mathlib.Core.Path.{◌≡◌, refl, sym, ap, ◌∙◌, subst}
use native.Mathlib.Omega.{arith}
use lib.Dec.{ltb, eqb}
use lib.ListN.{get_or}
use Rattle.bounded.proofs.Tests.{case_on, contradicts, row_keeps}
use Rattle.layout.specs.declared.Sizes.{Sizes}
use Rattle.layout.specs.Layout.{Legal, count_word, frame_word, line_word}
use Rattle.entries.specs.Entries.{key_line}
use Rattle.mount.proofs.View.{View}
use Rattle.state.specs.State.{State, Wide, own_frame}
use Rattle.state.specs.declared.Pending.{Pending}
use Rattle.state.specs.declared.Op.{Op}
use Rattle.state.specs.declared.Op.TheVariants.{Idle, Write, Commit, Consolidate, Checkpoint, Event, Prepare, Confirm, Log, Copy, Format}
use Rattle.operations.specs.Operations.{is_idle}
use Rattle.refinement.specs.Stores.{World, stepped, store_at, store_made}
use Rattle.refinement.specs.Wide.{copied_frame, copy_at_of}
use Rattle.refinement.specs.Calls.{world_of}
use Rattle.refinement.specs.Reference.{Reference, emptied}
use Rattle.refinement.proofs.Between.{Between, between-narrow}
use Rattle.refinement.proofs.Cases.{Invariant, narrow, logging, copying, standing-of}
use Rattle.refinement.proofs.InRange.{store-in-range}
use Rattle.refinement.proofs.Invariant.{Busy}
use Rattle.refinement.proofs.Logging.{Beside, Stage, settled, writes, asked, beside, shut, Logging}
use Rattle.refinement.proofs.Pending.{pends}
use Rattle.refinement.proofs.Standing.{Standing}
use Rattle.refinement.proofs.StepBeside.{same_store}
use Rattle.refinement.proofs.Steps.{stepped-image}
use Rattle.refinement.proofs.Viewed.{viewed-fits}
use Rattle.leftovers.proofs.Alike.{Alike, Stays, alike-after}
use Rattle.leftovers.proofs.BeyondStays.{beyond-stays}
use Rattle.leftovers.proofs.OneEvent.{narrow-store}
use Rattle.leftovers.proofs.OneStore.{one_store}

-- a wide write or a wide commit
abbrev of_wide : Op → Bool
of_wide (Log p l o n) = true
of_wide Copy = true
of_wide Idle = false
of_wide (Write w p l o n) = false
of_wide (Commit w) = false
of_wide (Consolidate p) = false
of_wide Checkpoint = false
of_wide (Event k m a) = false
of_wide (Prepare w) = false
of_wide (Confirm w) = false
of_wide Format = false

-- its stores go to the count of entries, to a frame or to an entry
beyond-at : (st : State) (op : Op) (i : ℕ) → of_wide op ≡ true → (store_at st op i ≡ count_word) ⊎ (frame_word st.sizes ≤ store_at st op i)
unfolding copy_at_of
beyond-at st (Log p l o n) i t = inr (omega arith)
beyond-at st Copy i t =
    let z = st.sizes in
    let k : ℕ = get_or st.wide.keys ((i - 1) / 8) 0 in
    let a : ℕ = line_word z (copied_frame (own_frame st) z st.table k) (key_line k) + (i - 1) % 8 in
    row_keeps (λ (x : ℕ). (x ≡ count_word) ⊎ (frame_word z ≤ x)) (eqb i 0 || ltb (8 * st.wide.count) i) count_word a (inl refl) (inr (omega arith))
beyond-at st Idle i t = contradicts t refl
beyond-at st (Write w p l o n) i t = contradicts t refl
beyond-at st (Commit w) i t = contradicts t refl
beyond-at st (Consolidate p) i t = contradicts t refl
beyond-at st Checkpoint i t = contradicts t refl
beyond-at st (Event k m a) i t = contradicts t refl
beyond-at st (Prepare w) i t = contradicts t refl
beyond-at st (Confirm w) i t = contradicts t refl
beyond-at st Format i t = contradicts t refl

wide-stays : (past : List ℕ) (st : State) (img : List ℕ) (b : Reference) → Standing past (world_of st img) b → is_idle st.pending.op ≡ false → of_wide st.pending.op ≡ true
    → Stays img (store_made st img st.pending.op st.pending.made)
wide-stays past st img b s some t =
    let made = st.pending.made in
    let p = pends st st.pending.op s.valid refl some in
    let seen = s.viewed in
    beyond-stays img (store_at st st.pending.op made) _ st.sizes (ap (λ (v : View). v.sizes) seen.shows ∙ seen.sizes-same) (subst Legal seen.sizes-same seen.mounts.legal)
    (viewed-fits st img b seen) (store-in-range st s.valid some made p.made-low) (beyond-at st st.pending.op made t)

-- what goes on is narrow, or beside
goes-beside : {past : List ℕ} (st : State) (img : List ℕ) (b : Reference) → Stage past st img b → is_idle st.pending.op ≡ false → of_wide st.pending.op ≡ false
    → Beside st.pending.op × Busy past (shut st) img (emptied st.wide.writer b)
goes-beside st img b (settled e w) some t = contradicts (ap (λ (p : Pending). is_idle p.op) e) some
goes-beside st img b (writes p l o n e L) some t = contradicts (ap of_wide e) t
goes-beside st img b (asked e m w) some t = contradicts (ap of_wide e) t
goes-beside st img b (beside s B) some t = (s, B)

module _ (past past' : List ℕ) (st : State) (x y : List ℕ) (b : Reference) (same : Alike x y) where
  abbrev op : Op
  op = st.pending.op

  abbrev made : ℕ
  made = st.pending.made

  abbrev After : Type 0
  After = Alike (stepped (world_of st x)).image (stepped (world_of st y)).image

  by-images : Alike (store_made st x op made) (store_made st y op made) → After
  by-images a =
      subst (λ (i : List ℕ). Alike i (stepped (world_of st y)).image) (sym (stepped-image (world_of st x)))
      (subst (Alike (store_made st x op made)) (sym (stepped-image (world_of st y))) a)

  beside-store : Logging past st x b → Logging past' st y b → is_idle op ≡ false → of_wide op ≡ false → After
  beside-store G H some t =
      let B = goes-beside st x b G.stage some t in
      let C = goes-beside st y b H.stage some t in
      let a = one_store past past' (shut st) x y (emptied st.wide.writer b) B.1 C.1 same in
      by-images
      (subst (λ (i : List ℕ). Alike i (store_made st y op made)) (stepped-image (world_of (shut st) x) ∙ same_store st op B.0 x made)
      (subst (Alike (stepped (world_of (shut st) x)).image) (stepped-image (world_of (shut st) y) ∙ same_store st op B.0 y made) a))

  -- there is none beside an open one
  not_narrow : {p : List ℕ} (i : List ℕ) (c : Reference) {q : List ℕ} (j : List ℕ) → Between p (world_of st i) c → Logging q st j c → ⊥
  not_narrow i c j h G = let e = ap (λ (d : Wide). d.writer) (between-narrow (world_of st i) c h).state in omega (arith, e, G.low)

  other-store : Invariant past (world_of st x) b → Invariant past' (world_of st y) b → is_idle op ≡ false → of_wide op ≡ false → After
  other-store (narrow h) (narrow k) some t = narrow-store past past' st x y b same h k some
  other-store (logging G) (logging H) some t = beside-store G H some t
  other-store (narrow h) (logging H) some t = absurd (not_narrow x b y h H)
  other-store (logging G) (narrow k) some t = absurd (not_narrow y b x k G)
  other-store (copying C) k some t = contradicts (ap of_wide C.op) t
  other-store (narrow h) (copying C) some t = contradicts (ap of_wide C.op) t
  other-store (logging G) (copying C) some t = contradicts (ap of_wide C.op) t

  pub any-store : Invariant past (world_of st x) b → Invariant past' (world_of st y) b → is_idle op ≡ false → After
  any-store h k some =
      case_on (of_wide op)
      (λ t. by-images (alike-after (wide-stays past st x b (standing-of (world_of st x) b h) some t) (wide-stays past' st y b (standing-of (world_of st y) b k) some t) same))
      (λ t. other-store h k some t)
