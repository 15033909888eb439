-- A format that is asked for where a list of demand 3 ended, cut after any store: the old list goes on, nothing but a format is taken, or a new list starts.
use Prim.Native.Nat.{ℕ, ◌<◌, ◌≤◌}
use mathlib.Core.Bool.{true, not}
use mathlib.Core.List.{List, [], ◌∷◌}
use mathlib.Core.Logic.{◌⊎◌, ⊎_elim, inl, inr}
use mathlib.Core.Path.{◌≡◌, refl, sym, ap, ◌∙◌, subst}
use native.Mathlib.Omega.{arith}
use lib.ListN.{length, drop}
use Rattle.bounded.proofs.Rows.{row_at}
use Rattle.layout.specs.declared.Sizes.{Sizes}
use Rattle.layout.specs.Layout.{sizes_ok, image_words, image_length}
use Rattle.words.specs.Words.{Bytes}
use Rattle.state.specs.State.{State}
use Rattle.validity.specs.Validity.{state_ok, slots_ok}
use Rattle.refinement.specs.Stores.{World}
use Rattle.refinement.specs.Calls.{world_of, step_rows, step_of, run_of, begin_rows, begin_wide_rows, abort_rows, write_call_rows, commit_call_rows, prepare_call_rows, confirm_call_rows, consolidate_call_rows, free_call_rows, checkpoint_call_rows, read_rows, event_call_rows, load_rows, begin_of, begin_wide_of, abort_of, write_of, commit_of, prepare_of, confirm_of, withdraw_of, consolidate_of, free_of, checkpoint_of, event_of, load_of, read_row}
use Rattle.refinement.specs.Mount.{no_state, mount_call}
use Rattle.refinement.specs.Run.{Call, Result, mount, checkpoint, free, step, begin, begin_wide, abort, commit, prepare, confirm, withdraw, consolidate, run, write, read, recall, event, load, exec, formatted_world, after}
use Rattle.refinement.specs.Reference.{Reference, blank, turn}
use Rattle.refinement.specs.Statement.{AllLent, Agrees, Right}
use Rattle.refinement.specs.Beside.{follows}
use Rattle.refinement.specs.CutFormat.{format_cut, Half, CutAt, Joined, JoinsLists}
use Rattle.refinement.proofs.Cases.{standing-of}
use Rattle.refinement.proofs.CutFormat.{cut_at}
use Rattle.refinement.proofs.PastUntouched.{past-untouched}
use Rattle.refinement.proofs.Reached.{Reached, reached, reached-first}
use Rattle.refinement.proofs.Theorem.{agrees_from}

-- ---- a mount that is taken goes by the image alone

mount-same : (s t : State) (img : List ℕ) → (mount_call img).number ≡ 0 → exec mount (world_of s img) ≡ exec mount (world_of t img)
unfolding exec
mount-same s t img e = rw e

mount-number : (s : State) (img : List ℕ) → (exec mount (world_of s img)).number ≡ (mount_call img).number
unfolding exec
mount-number s img = refl

-- so a list that starts with a mount goes on from any state
from-mount : (n : ℕ) (past : List ℕ) (s t : State) (img : List ℕ) (more : List Call) (b : Reference) → Agrees n past (mount ∷ more) (world_of s img) b
    → Agrees n past (mount ∷ more) (world_of t img) b
from-mount n past s t img more b h =
    subst (λ (d : Result). Right mount d b × (drop n d.world.image ≡ past) × Agrees n past more d.world (turn mount d.number d.stores b))
    (mount-same s t img (sym (mount-number s img) ∙ h.0)) h

-- ---- with no state in hand every call is turned back

bad : not (state_ok no_state) ≡ true
unfolding state_ok slots_ok
bad = refl

module _ (img : List ℕ) where
  abbrev st : State
  st = no_state

  turned : (c : Call) → Half img → ((exec c (world_of no_state img)).number ≡ 8) ⊎ ((exec c (world_of no_state img)).number ≡ 2)
  unfolding exec begin_of begin_wide_of abort_of write_of commit_of prepare_of confirm_of withdraw_of consolidate_of free_of checkpoint_of event_of load_of read_row step_of run_of
  turned mount h = inr h.mount-two
  turned (recall p l target) h = inr (h.recall-two p l target)
  turned step h = inl (sym (row_at (step_rows st img) 0 (omega arith) tt bad))
  turned (run k) h = inl (sym (row_at (step_rows st img) 0 (omega arith) tt bad))
  turned checkpoint h = inl (sym (row_at (checkpoint_call_rows st img) 0 (omega arith) tt bad))
  turned free h = inl (sym (row_at (free_call_rows st img) 0 (omega arith) tt bad))
  turned (begin w) h = inl (sym (row_at (begin_rows st w) 0 (omega arith) tt bad))
  turned (begin_wide w) h = inl (sym (row_at (begin_wide_rows st w) 0 (omega arith) tt bad))
  turned (abort w) h = inl (sym (row_at (abort_rows st w) 0 (omega arith) tt bad))
  turned (commit w) h = inl (sym (row_at (commit_call_rows st img w) 0 (omega arith) tt bad))
  turned (prepare w) h = inl (sym (row_at (prepare_call_rows st img w) 0 (omega arith) tt bad))
  turned (confirm w) h = inl (sym (row_at (confirm_call_rows st img w) 0 (omega arith) tt bad))
  turned (withdraw w) h = inl (sym (row_at (confirm_call_rows st img w) 0 (omega arith) tt bad))
  turned (consolidate p) h = inl (sym (row_at (consolidate_call_rows st img p) 0 (omega arith) tt bad))
  turned (write w p l o n bytes) h = inl (sym (row_at (write_call_rows st img w p l o n bytes) 0 (omega arith) tt bad))
  turned (read w p l target) h = inl (sym (row_at (read_rows st img w p l target) 0 (omega arith) tt bad))
  turned (event ms k m x) h = inl (sym (row_at (event_call_rows st img ms k m x) 0 (omega arith) tt bad))
  turned (load text) h = inl (sym (row_at (load_rows st img text) 0 (omega arith) tt bad))

  not_taken : (c : Call) → Half img → (exec c (world_of no_state img)).number ≡ 0 → ⊥
  not_taken c h e =
      ⊎_elim (λ q. let x : ◌≡◌ {A = ℕ} 8 0 = sym q ∙ e in absurd (omega arith)) (λ q. let x : ◌≡◌ {A = ℕ} 2 0 = sym q ∙ e in absurd (omega arith)) (turned c h)

-- ---- the lists

-- no call changes how long the buffer is
after-length : (calls : List Call) (v : World) → length (after calls v).image ≡ length v.image
unfolding after
after-length [] v = refl
after-length (c ∷ cs) v = after-length cs (exec c v).world ∙ (past-untouched.call c v).as_long

pub joins-lists : JoinsLists
joins-lists y oky buffer bytes fits calls lent z ok room k =
    let first = reached-first y oky buffer bytes fits in
    let v : World = after calls (formatted_world y buffer) in
    let b : Reference = follows calls (formatted_world y buffer) blank in
    let R : Reached y (drop (image_length y) buffer) v b = reached calls lent (formatted_world y buffer) blank first in
    let long : length v.image ≡ length buffer = after-length calls (formatted_world y buffer) ∙ (past-untouched.format y buffer).as_long in
    let clean : Bytes v.image = (standing-of v b R.related).viewed.bytes in
    let fit : image_length z ≤ length v.image = omega (arith, room, long) in
    let c : CutAt z v.image k (format_cut z v.image k) = cut_at z ok v.image clean fit k in
    let new : Reached z (drop (image_length z) v.image) (formatted_world z v.image) blank = reached-first z ok v.image clean fit in
    record {
      goes_on =
          λ none st more more-lent.
          subst (λ (img : List ℕ). Agrees (image_length y) (drop (image_length y) buffer) (mount ∷ more) (world_of st img) b) (sym (c.old none))
          (from-mount (image_length y) (drop (image_length y) buffer) v.st st v.image more b (agrees_from (mount ∷ more) (tt, more-lent) v b R));
      none-taken = λ some few d. not_taken (format_cut z v.image k).image d (c.half some few);
      starts =
          λ all more more-lent.
          subst (λ (u : World). Agrees (image_length z) (drop (image_length z) v.image) more u blank) (sym (c.whole all)) (agrees_from more more-lent (formatted_world z v.image) blank new);
      starts-mounted =
          λ all st more more-lent.
          subst (λ (u : World). Agrees (image_length z) (drop (image_length z) v.image) (mount ∷ more) (world_of st u.image) blank) (sym (c.whole all))
          (from-mount (image_length z) (drop (image_length z) v.image) (formatted_world z v.image).st st (formatted_world z v.image).image more blank
          (agrees_from (mount ∷ more) (tt, more-lent) (formatted_world z v.image) blank new));
    }
