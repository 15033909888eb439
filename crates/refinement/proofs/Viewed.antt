-- What a mount and a recall see of the image: the view is one that a mount takes, the durable part is the state's, and the lines shown, each that of its
-- entry where one is counted, are the reference machine's.
use Prim.Native.Nat.{ℕ, ◌<◌, ◌≤◌}
use mathlib.Core.Bool.{Bool, true, ◌&&◌, cond}
use mathlib.Core.List.{List}
use mathlib.Core.Path.{◌≡◌, refl, sym, ap, ◌∙◌, subst}
use native.Mathlib.Omega.{arith}
use lib.Dec.{ltb}
use lib.ListN.{length, drop, get_or}
use borrow.Author.Tests.{le-ltb}
use Rattle.bounded.proofs.Tests.{row_keeps}
use Rattle.layout.specs.declared.Sizes.{Sizes}
use Rattle.layout.specs.Layout.{image_length}
use Rattle.words.specs.Words.{Bytes, word}
use Rattle.image.specs.Lines.{line_bytes}
use Rattle.entries.specs.Entries.{key_of, entry_of}
use Rattle.replay.specs.declared.Table.{Table}
use Rattle.replay.specs.Map.{page_frames, map_from}
use Rattle.replay.specs.Table.{home_of}
use Rattle.replay.proofs.Maps.{map-ext}
use Rattle.mount.proofs.Verdict.{Taken, map_in, map-shown, entry-shown}
use Rattle.mount.proofs.View.{View, Shows}
use Rattle.state.specs.State.{State, Wide, own_frame}
use Rattle.validity.specs.Validity.{state_ok}
use Rattle.refinement.specs.Recall.{frame_of}
use Rattle.refinement.specs.Wide.{entry_bytes, is_copy, shown_line}
use Rattle.refinement.specs.Beside.{counted, line_of}
use Rattle.refinement.specs.Reference.{Reference, recall_line}
use Rattle.refinement.proofs.Invariant.{Behind, Durable, Narrow, uncounted}
use Rattle.refinement.proofs.MountCall.{mounted-committed}
use Rattle.refinement.proofs.Copies.{own-frame, map_found}

pub record Viewed (past : List ℕ) (st : State) (img : List ℕ) (b : Reference) : Type 0 where
  pub bytes : Bytes img
  pub past-kept : drop (image_length st.sizes) img ≡ past
  pub view : View
  pub shows : Shows img view
  pub mounts : Taken (length img) view
  pub sizes-same : view.sizes ≡ st.sizes
  pub head-same : view.head ≡ st.head
  pub tail-same : view.tail ≡ st.tail
  pub count_same : view.count ≡ counted st
  pub keys-same : (counted st ≡ 0 → ⊥) → view.keys ≡ st.wide.keys
  pub behind : Behind (page_frames (word img)) st.sizes view.table st.table
  pub map : (p : ℕ) → p < st.sizes.pages → get_or (map_in view) p 0 ≡ own_frame st p
  pub shown : (p l : ℕ) → p < view.sizes.pages → l < 64 → shown_line img (page_frames (word img)) view.sizes view.table view.count view.keys p l ≡ recall_line b p l
  pub own : (p l : ℕ) → p < st.sizes.pages → l < 64 → line_of img st p l ≡ recall_line b p l

pub viewed-fits : {past : List ℕ} (st : State) (img : List ℕ) (b : Reference) → Viewed past st img b → image_length st.sizes ≤ length img
viewed-fits st img b h = subst (λ (z : Sizes). image_length z ≤ length img) h.sizes-same h.mounts.fits

-- the map that a mount finds, told by the state alone
pub view-found : {past : List ℕ} (st : State) (img : List ℕ) (b : Reference) (h : Viewed past st img b) → map_in h.view ≡ map_from st.sizes.pages (own_frame st)
view-found st img b h =
    let v = h.view in
    let home : Sizes → ℕ → ℕ = λ z. home_of (page_frames (word img)) z v.table in
    map-shown img v h.shows
    ∙ ap (λ (z : Sizes). map_from z.pages (home z)) h.sizes-same
    ∙ map-ext st.sizes.pages (home st.sizes) (own_frame st)
    (λ p l. ap (λ (z : Sizes). home z p) (sym h.sizes-same) ∙ sym (entry-shown img v h.shows p (rw h.sizes-same l)) ∙ h.map p l)

-- the same line by own frames that lead to the same committed copy
pub shown-own : (img : List ℕ) (h r : ℕ → ℕ) (z : Sizes) (t : Table) (n : ℕ) (keys : List ℕ) (p l : ℕ) → frame_of h z t p l ≡ frame_of r z t p l
    → shown_line img h z t n keys p l ≡ shown_line img r z t n keys p l
shown-own img h r z t n keys p l e =
    ap (λ (f : ℕ). cond (ltb (entry_of keys n (key_of p l)) n) (entry_bytes img z (entry_of keys n (key_of p l))) (line_bytes img z f l)) e

-- where no entry is counted the committed copy is shown
pub shown-copy : (img : List ℕ) (h : ℕ → ℕ) (z : Sizes) (t : Table) (n : ℕ) (keys : List ℕ) (p l : ℕ) → n ≡ 0
    → shown_line img h z t n keys p l ≡ line_bytes img z (frame_of h z t p l) l
shown-copy img h z t n keys p l e =
    ap (λ (x : Bool). cond x (entry_bytes img z (entry_of keys n (key_of p l))) (line_bytes img z (frame_of h z t p l) l)) (le-ltb (entry_of keys n (key_of p l)) n (omega (arith, e)))

-- so it is where there is no wide transaction
pub durable-viewed : {past : List ℕ} (st : State) (img : List ℕ) (b : Reference) → state_ok st ≡ true → Durable past st img b → Narrow st b → Viewed past st img b
durable-viewed st img b ok D N =
    let v = D.view in
    let none : counted st ≡ 0 = row_keeps (λ (x : ℕ). x ≡ 0) (is_copy st.pending.op && ltb 0 st.pending.made) st.wide.count 0 (ap (λ (d : Wide). d.count) N.state) refl in
    record {
      bytes = D.bytes;
      past-kept = D.past-kept;
      view = v;
      shows = D.shows;
      mounts = D.mounts;
      sizes-same = D.sizes-same;
      head-same = D.head-same;
      tail-same = D.tail-same;
      count_same = uncounted st img b D N ∙ sym none;
      keys-same = λ some. absurd (some none);
      behind = D.behind;
      shown = λ p l lp ll. shown-copy img (page_frames (word img)) v.sizes v.table v.count v.keys p l (uncounted st img b D N) ∙ mounted-committed st img b ok D p l lp ll;
      map = map_found st img ok D;
      own =
          λ p l lp ll.
          shown-copy img (own_frame st) st.sizes st.table (counted st) st.wide.keys p l none
          ∙ ap (λ (f : ℕ). line_bytes img st.sizes f l) (own-frame st img ok D p l lp)
          ∙ D.committed p l lp ll;
    }
