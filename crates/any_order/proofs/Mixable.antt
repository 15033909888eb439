-- Images that may be mixed: each is, of what a mount finds now, the image with leftovers replaced (document 02, L13). They stay so with one more harmless store, and with
-- the image that it makes: a mount finds the same, and what was left over still is.
use Prim.Native.Nat.{ℕ}
use mathlib.Core.List.{List, [], ◌∷◌}
use mathlib.Core.Logic.{⊎_elim}
use mathlib.Core.Path.{◌≡◌, sym, ◌∙◌, subst}
use lib.Dec.{eqb}
use lib.ListN.{length}
use borrow.Author.Tests.{eqb-true, eqb-false}
use Rattle.bounded.proofs.Tests.{case_on}
use Rattle.words.specs.Words.{Bytes, store}
use Rattle.mount.proofs.View.{View, Shows}
use Rattle.mount.proofs.Verdict.{Taken}
use Rattle.state.specs.State.{Wide}
use Rattle.state.specs.declared.Pending.{Pending}
use Rattle.state.specs.Wide.{no_wide}
use Rattle.refinement.specs.Mount.{copying}
use Rattle.refinement.specs.Settled.{no_pending}
use Rattle.refinement.specs.Stores.{World}
use Rattle.refinement.specs.Calls.{world_of}
use Rattle.leftovers.specs.Leftovers.{Leftover, journal-place, under-record, slotted-page, padding, other-copy, past-entries, under-entry, Replaced, Scribbled}
use Rattle.leftovers.proofs.AfterMount.{found_state, Found, copies, quiet-found, copying-found}
use Rattle.leftovers.proofs.EveryWord.{scribbled}
use Rattle.leftovers.proofs.Replaced.{copied-inside, still-shows, still-taken}
use Rattle.any_order.proofs.Harmless.{LeftIn, Harmless}

-- of every image of a list
abbrev pub All : (List ℕ → Type 0) → List (List ℕ) → Type 0
All P [] = Unit
All P (x ∷ xs) = P x × All P xs

pub all_map : {P Q : List ℕ → Type 0} → ((x : List ℕ) → P x → Q x) → (l : List (List ℕ)) → All P l → All Q l
all_map f [] h = tt
all_map f (x ∷ xs) h = (f x h.0, all_map f xs h.1)

-- a mount that finds this view returns some state
pub some-found : {X : Type 0} (v : View) → ((d : Wide) (p : Pending) → Found v d p → X) → X
some-found v f =
    case_on (eqb v.count 0)
    (λ t. f no_wide no_pending (quiet-found v (eqb-true v.count 0 t)))
    (λ t. f (copies v) copying (copying-found v (eqb-false v.count 0 t)))

-- each of these images is the image with leftovers replaced
abbrev pub Mixable : View → List ℕ → List (List ℕ) → Type 0
Mixable view img since = (d : Wide) (p : Pending) → Found view d p → All (Replaced (world_of (found_state view d p) img)) since

module _ (img : List ℕ) (view : View) (shows : Shows img view) (taken : Taken (length img) view) (bytes : Bytes img) where
  itself : (d : Wide) (p : Pending) → Found view d p → Scribbled (world_of (found_state view d p) img)
  itself d p F = scribbled (world_of (found_state view d p) img) taken.legal (copied-inside img view shows taken d p F) bytes taken.fits

  pub mixable-one : Mixable view img (img ∷ [])
  mixable-one d p F = ((itself d p F).none, tt)

  module _ (image : List ℕ) (s : Harmless view img image) where
    harmless-replaced : (d : Wide) (p : Pending) → Found view d p → Replaced (world_of (found_state view d p) img) image
    harmless-replaced d p F =
        let v : World = world_of (found_state view d p) img in
        let S = itself d p F in
        ⊎_elim
        (λ e. subst (Replaced v) (sym e) S.none)
        (λ (q : (a : ℕ) × (x : ℕ) × (image ≡ store img a x) × LeftIn view img a). subst (Replaced v) (sym q.2) (S.more img S.none q.0 q.1 (q.3 d p F)))
        s

    -- a mount finds the same
    pub harmless-shows : Shows image view
    harmless-shows = some-found view (λ d p F. still-shows img view shows taken d p F image (harmless-replaced d p F))

    module _ (d : Wide) (p : Pending) (F : Found view d p) where
      R : Replaced (world_of (found_state view d p) img) image
      R = harmless-replaced d p F

      -- what is left over stays so: the state tells it
      left-stays : (a : ℕ) → Leftover (world_of (found_state view d p) img) a → Leftover (world_of (found_state view d p) image) a
      left-stays a (journal-place q k l f e) = journal-place q k l f e
      left-stays a (under-record s k h l f e) = under-record s k h l f e
      left-stays a (slotted-page q h f e) = slotted-page q h f e
      left-stays a (padding l m) = padding l m
      left-stays a (other-copy f l k lf ll lk n e) = other-copy f l k lf ll lk n e
      left-stays a (past-entries e k l m lk q) = past-entries e k l m lk q
      left-stays a (under-entry e k l lk q) = under-entry e k l lk q

      one-stays : (x : List ℕ) → Replaced (world_of (found_state view d p) img) x → Replaced (world_of (found_state view d p) image) x
      one-stays x Q =
          record {
            bytes = Q.bytes;
            as_long = Q.as_long ∙ sym R.as_long;
            kept = λ a l n. Q.kept a l (λ m. n (left-stays a m)) ∙ sym (R.kept a l (λ m. n (left-stays a m)));
          }

      stays : (since : List (List ℕ)) → All (Replaced (world_of (found_state view d p) img)) since → All (Replaced (world_of (found_state view d p) image)) (image ∷ since)
      stays since h = (one-stays image R, all_map one-stays since h)

    pub mixable-more : (since : List (List ℕ)) → Mixable view img since → Mixable view image (image ∷ since)
    mixable-more since h d p F = stays d p F since (h d p F)
