-- A wide transaction begun: every writer is closed, so nothing is held or unfinished, and no entry is used.
use Prim.Native.Nat.{ℕ, ◌<◌}
use mathlib.Core.Bool.{true, not}
use mathlib.Core.List.{List}
use mathlib.Core.Path.{◌≡◌, refl, sym, ap, ◌∙◌}
use native.Mathlib.Omega.{arith}
use lib.ListN.{length-set}
use Rattle.bounded.specs.Rows.{refusal}
use Rattle.words.specs.Words.{word}
use Rattle.entries.proofs.EntryLaws.{no_keys_are}
use Rattle.state.specs.State.{State}
use Rattle.state.specs.declared.Op.TheVariants.{Copy}
use Rattle.refinement.specs.Stores.{World, completed}
use Rattle.refinement.specs.Calls.{begin_wide_rows, begin_wide_of}
use Rattle.refinement.specs.Run.{begin_wide, exec}
use Rattle.refinement.specs.Reference.{Reference, none}
use Rattle.refinement.proofs.Begun.{begin-wide-taken, begin-wide-valid, all-unheld, beginning_wide}
use Rattle.refinement.proofs.Between.{Between, between-quiet}
use Rattle.refinement.proofs.Invariant.{Durable, Quiet, uncounted}
use Rattle.refinement.proofs.Silent.{holds-none}
use Rattle.refinement.proofs.Logging.{settled, Logging}
use Rattle.refinement.proofs.Cases.{narrow, logging, Kept, Invariant}
use Rattle.refinement.proofs.Next.{answered-still}

module _ {past : List ℕ} (st : State) (img : List ℕ) (b : Reference) (w : ℕ) (row : refusal (begin_wide_rows st w) ≡ 0) (q : Quiet past st img b) where
  abbrev c : Reference
  c = record { pages = b.pages; writes = b.writes; work = b.work; wide = w }

  none_written : (v p l i : ℕ) → v < 4 → p < st.sizes.pages → l < 64 → i < 64 → b.writes v p l i ≡ none
  none_written v p l i lv lp ll li =
      let T = begin-wide-taken st w row in
      q.writers.no_writes v p l i lv lp ll li (holds-none st (all-unheld st q.valid T.closed) v p l lv)

  durable : Durable past (completed (beginning_wide st w) Copy) img c
  durable =
      let D = q.durable in
      record {
        bytes = D.bytes;
        past-kept = D.past-kept;
        view = D.view;
        shows = D.shows;
        mounts = D.mounts;
        sizes-same = D.sizes-same;
        head-same = D.head-same;
        tail-same = D.tail-same;
        count_same = uncounted st img b D q.narrow;
        behind = D.behind;
        map-long = D.map-long;
        own = D.own;
        committed = D.committed;
      }

  begun-wide : Logging past (beginning_wide st w) img c
  begun-wide =
      record {
        valid = begin-wide-valid st w q.writers.four row;
        low = (begin-wide-taken st w row).writer-low;
        book = refl;
        four = length-set st.writers.opened w true ∙ q.writers.four;
        sixty-four = q.writers.sixty-four;
        durable = durable;
        alone = λ v p l i lv out lp ll li. none_written v p l i lv lp ll li;
        entries =
            record {
              keys = sym (no_keys_are (word img) st.sizes);
              line = λ e le out. absurd (omega arith);
              no_writes = λ p l i lp ll li bare. none_written w p l i (begin-wide-taken st w row).writer-low lp ll li;
            };
        stage = settled q.pending q.work;
      }

pub begin-wide-sound : {past : List ℕ} (w : ℕ) (v : World) (b : Reference) → Between past v b → Kept past (begin_wide w) v b
unfolding exec begin_wide_of
begin-wide-sound w v b h =
    let st = v.st in
    let r =
    answered-still (Invariant _) (begin_wide w) v b (refusal (begin_wide_rows st w)) 0 (beginning_wide st w) (narrow h)
    (λ e. record { sizes = refl; related = logging (begun-wide st v.image b w e (between-quiet v b h (ap not (begin-wide-taken st w e).quiet))) }) in
    record { right = tt; sizes = r.sizes; related = r.related }
