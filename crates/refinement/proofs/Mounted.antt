-- A state just mounted: it is what the image shows, no writer is open and nothing is pending.
use Prim.Native.Nat.{ℕ, ◌+◌, ◌*◌, ◌<◌}
use mathlib.Core.Bool.{Bool, false, ◌&&◌, and-false}
use mathlib.Core.List.{List}
use mathlib.Core.Logic.{inl}
use mathlib.Core.Path.{◌≡◌, refl, ap, ◌∙◌}
use native.Mathlib.Omega.{arith}
use lib.ListN.{length, drop}
use Rattle.bounded.proofs.Tests.{contradicts}
use Rattle.replay.specs.Map.{page_frames}
use Rattle.layout.specs.Layout.{image_length}
use Rattle.image.specs.Lines.{line_bytes}
use Rattle.words.specs.Words.{Bytes, word}
use Rattle.replay.proofs.Tables.{one_value}
use Rattle.mount.proofs.Verdict.{Taken, map_in, entry-shown}
use Rattle.mount.proofs.View.{View, Shows}
use Rattle.masks.specs.Lines.{in_mask}
use Rattle.masks.proofs.Members.{in-none}
use Rattle.state.specs.State.{State}
use Rattle.state.specs.Held.{held_at, no_writer}
use Rattle.operations.specs.Operations.{slot_for, slotted}
use Rattle.refinement.specs.Mount.{all_closed, quiet_state}
use Rattle.refinement.specs.Recall.{frame_of}
use Rattle.refinement.proofs.CallMounted.{view-sixteen, view-map, mount-valid}
use Rattle.refinement.specs.Reference.{Reference, none, idle, recall_line}
use Rattle.refinement.proofs.Invariant.{Quiet, holds}

abbrev pub state_of : View → State
state_of v = quiet_state v.sizes v.head v.tail v.table (map_in v)

-- the committed copies in an image that shows v are the reference machine's
abbrev pub Committed : List ℕ → View → Reference → Type 0
Committed img v b =
    (p l : ℕ) → p < v.sizes.pages → l < 64 → line_bytes img v.sizes (frame_of (page_frames (word img)) v.sizes v.table p l) l ≡ recall_line b p l

none-held : (w s : ℕ) → held_at all_closed.held w s ≡ 0
none-held w s = one_value 64 (16 * w + s) 0

none-holds : (v : View) (w p l : ℕ) → holds (state_of v) w p l ≡ false
none-holds v w p l =
    ap (λ (m : ℕ). slotted (state_of v) p && in_mask m l) (none-held w (slot_for (state_of v) p))
    ∙ ap (λ (t : Bool). slotted (state_of v) p && t) (in-none l)
    ∙ and-false (slotted (state_of v) p)

pub mounted-quiet : {past : List ℕ} (img : List ℕ) (v : View) (b : Reference) → Bytes img → drop (image_length v.sizes) img ≡ past → Shows img v → Taken (length img) v
    → Committed img v b → ((w p l i : ℕ) → b.writes w p l i ≡ none) → b.work ≡ idle → v.count ≡ 0 → b.wide ≡ no_writer → Quiet past (state_of v) img b
mounted-quiet img v b bytes past shows taken committed none_written work uncounted narrow =
    record {
      valid = mount-valid img v shows taken;
      pending = refl;
      durable =
          record {
            bytes = bytes;
            past-kept = past;
            view = v;
            shows = shows;
            mounts = taken;
            sizes-same = refl;
            head-same = refl;
            tail-same = refl;
            count_same = uncounted;
            behind = record { sixteen = view-sixteen img v shows; last-same = λ s l. refl; slot_same = λ s l. inl refl };
            map-long = view-map img v shows taken.legal.pages-high;
            own = entry-shown img v shows;
            committed = committed;
          };
      writers =
          record {
            four = refl;
            sixty-four = refl;
            held_low = λ w s k l. rw (none-held w s) (omega arith);
            own-copy = λ w p l k h m n t. contradicts t (none-holds v w p l);
            no_writes = λ w p l i k h m j t. none_written w p l i;
            ready = λ l. absurd (omega arith);
          };
      work = work;
      narrow = record { state = refl; book = narrow };
    }
