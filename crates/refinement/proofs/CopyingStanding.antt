-- What holds while lines are copied: a mount counts the entries and shows their lines.
use Prim.Native.Nat.{ℕ}
use mathlib.Core.Bool.{Bool, true, false, not, ◌&&◌, cond}
use mathlib.Core.List.{List}
use mathlib.Core.Path.{◌≡◌, sym, ap, ◌∙◌}
use native.Mathlib.Omega.{arith}
use lib.Dec.{ltb}
use lib.ListN.{length}
use borrow.Author.Tests.{lt-ltb}
use Rattle.bounded.proofs.Tests.{contradicts}
use Rattle.replay.specs.Map.{page_frames}
use Rattle.words.specs.Words.{word}
use Rattle.entries.proofs.EntryLaws.{length-keys}
use Rattle.state.specs.State.{State, own_frame}
use Rattle.state.specs.declared.Op.{Op}
use Rattle.operations.specs.Operations.{is_idle}
use Rattle.refinement.specs.Stores.{World}
use Rattle.refinement.specs.Wide.{is_copy, shown_line}
use Rattle.refinement.specs.Beside.{counted}
use Rattle.refinement.specs.Reference.{Reference}
use Rattle.refinement.proofs.Copies.{own-frame, map_found}
use Rattle.refinement.proofs.Copying.{Copying, copying-shows}
use Rattle.refinement.proofs.CopyMount.{keys-same, view-shows}
use Rattle.refinement.proofs.Standing.{Standing}
use Rattle.refinement.proofs.Viewed.{Viewed, shown-own}

module _ {past : List ℕ} (st : State) (img : List ℕ) (b : Reference) (C : Copying past st img b) where
  all-counted : counted st ≡ st.wide.count
  all-counted =
      ap (λ (o : Op). cond (is_copy o && ltb 0 st.pending.made) st.wide.count 0) C.op
      ∙ ap (λ (x : Bool). cond (true && x) st.wide.count 0) (lt-ltb 0 st.pending.made (omega (arith, C.begun)))

  pub copying-viewed : Viewed past st img b
  copying-viewed =
      let D = C.durable in
      let v = D.view in
      record {
        bytes = D.bytes;
        past-kept = D.past-kept;
        view = v;
        shows = D.shows;
        mounts = D.mounts;
        sizes-same = D.sizes-same;
        head-same = D.head-same;
        tail-same = D.tail-same;
        count_same = D.count_same ∙ sym all-counted;
        keys-same = λ some. keys-same st img b C;
        behind = D.behind;
        shown = view-shows st img b C;
        map = map_found st img C.valid D;
        own =
            λ p l lp ll.
            ap (λ (n : ℕ). shown_line img (own_frame st) st.sizes st.table n st.wide.keys p l) all-counted
            ∙ shown-own img (own_frame st) (page_frames (word img)) st.sizes st.table st.wide.count st.wide.keys p l (own-frame st img C.valid D p l lp)
            ∙ copying-shows st img b C p l lp ll;
      }

pub copying-standing : {past : List ℕ} (v : World) (b : Reference) → Copying past v.st v.image b → Standing past v b
copying-standing v b C =
    let st = v.st in
    let pending : is_idle st.pending.op ≡ false = ap is_idle C.op in
    record {
      valid = C.valid;
      sixteen = C.durable.behind.sixteen;
      four = C.four;
      sixty-four = C.sixty-four;
      keys = ap length C.keys ∙ length-keys (word v.image) st.sizes st.wide.count;
      viewed = copying-viewed st v.image b C;
      busy = λ n. pending;
      work-idle = λ e. contradicts (ap not pending) e;
      none-pending = λ e. contradicts (ap not pending) e;
      book = λ e. contradicts (ap not pending) e;
      key-stored = λ e. contradicts (ap not pending) e;
      seen = λ e. contradicts (ap not pending) e;
      quiet = λ e. contradicts (ap not pending) e;
    }
