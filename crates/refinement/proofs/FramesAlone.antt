-- Reads and writes need the frames and the entries of an image alone: where a page's line lies is told by the state, and every line and every entry lies behind
-- the first frame's first word.
use Prim.Native.Nat.{ℕ, ◌+◌, ◌-◌, ◌*◌, ◌≤◌}
use mathlib.Core.Bool.{◌&&◌, cond}
use mathlib.Core.List.{List}
use mathlib.Core.Path.{◌≡◌, sym, ap, ap₂, ◌∙◌}
use native.Mathlib.Omega.{arith}
use lib.ListN.{take, drop, replicate}
use lib.Seq.{drop-drop}
use lib.Dec.{leb}
use Rattle.bounded.specs.Below.{some_below}
use Rattle.layout.specs.declared.Sizes.{Sizes}
use Rattle.layout.specs.Layout.{frame_word, line_word, entry_word}
use Rattle.words.specs.Words.{part, bytes_of, word_at, store}
use Rattle.words.proofs.WordLaws.{length-store, drop-store}
use Rattle.image.specs.Lines.{line_bytes, merged, line_words}
use Rattle.meters.specs.Meters.{modulus_of, moves_credit, first_meter, own_meter, first_number, rolled}
use Rattle.moduli_text.specs.Text.{moduli_in}
use Rattle.state.specs.State.{State, own_frame}
use Rattle.state.specs.Wide.{is_wide, entry_for, has_entry}
use Rattle.refinement.specs.Frames.{seen_frame, frame_of}
use Rattle.refinement.specs.Wide.{entry_bytes}
use Rattle.refinement.specs.Calls.{seen_line, finished_line, changes_nothing, event_line, event_second, meter_stored, write_of, event_of, load_of, read_row, read_bytes}
use Rattle.refinement.specs.PageMap.{SameFrames, FramesAlone, PageTableUnread}

-- bytes behind byte a of two lists that agree from a on
part-behind : (a b n : ℕ) (l k : List ℕ) → a ≤ b → drop a l ≡ drop a k → part l b n ≡ part k b n
unfolding part
part-behind a b n l k h e =
    let q : a + (b - a) ≡ b = omega arith in
    let at : (m : List ℕ) → drop b m ≡ drop (b - a) (drop a m) = λ m. sym (drop-drop (b - a) a m ∙ ap (λ (i : ℕ). drop i m) q) in
    ap (take n) (at l ∙ ap (drop (b - a)) e ∙ sym (at k))

module _ (st : State) (img img' : List ℕ) (S : SameFrames st.sizes img img') where
  abbrev z : Sizes
  z = st.sizes

  line_same : (f l : ℕ) → line_bytes img z f l ≡ line_bytes img' z f l
  line_same f l = part-behind (8 * frame_word z) (8 * line_word z f l) 64 img img' (omega arith) S.frames-on

  entry-same : (e : ℕ) → entry_bytes img z e ≡ entry_bytes img' z e
  entry-same e = part-behind (8 * frame_word z) (8 * (entry_word z e + 1)) 64 img img' (omega arith) S.frames-on

  seen_same : (w p l : ℕ) → seen_line st img w p l ≡ seen_line st img' w p l
  seen_same w p l = ap₂ (cond (is_wide st.wide w && has_entry st.wide p l)) (entry-same (entry_for st.wide p l)) (line_same (seen_frame st w p l) l)

  finished-same : (w p l o n : ℕ) (bytes : List ℕ) → finished_line st img w p l o n bytes ≡ finished_line st img' w p l o n bytes
  finished-same w p l o n bytes = ap (λ (x : List ℕ). line_words (merged x o n bytes)) (seen_same w p l)

  first-same : (ms : List ℕ) (k m a : ℕ) → event_line st img ms k m a ≡ event_line st img' ms k m a
  first-same ms k m a =
      ap (λ (x : List ℕ). line_words (merged x 0 8 (bytes_of 8 (first_number ms k m (word_at x 0) a)))) (seen_same 1 0 (first_meter k m))

  second-same : (ms : List ℕ) (k m a : ℕ) → event_second st img ms k m a ≡ event_second st img' ms k m a
  second-same ms k m a =
      ap (λ (x : List ℕ). cond (moves_credit k) (line_words (merged x 0 8 (bytes_of 8 (rolled ms (own_meter k m) (word_at x 0) a)))) (replicate 8 0)) (seen_same 1 0 (own_meter k m))

  written_same : (w p l o n : ℕ) (bytes : List ℕ) → write_of st img w p l o n bytes ≡ write_of st img' w p l o n bytes
  unfolding write_of changes_nothing
  written_same w p l o n bytes = rw (S.as_long, seen_same w p l)

  event-same : (ms : List ℕ) (k m a : ℕ) → event_of st img ms k m a ≡ event_of st img' ms k m a
  unfolding event_of
  event-same ms k m a = rw (S.as_long, first-same ms k m a, second-same ms k m a, seen_same 1 0 (first_meter k m))

  loaded-same : (text : List ℕ) → load_of st img text ≡ load_of st img' text
  unfolding load_of
  loaded-same text =
      let stored : (m : ℕ) → meter_stored st img m ≡ meter_stored st img' m =
      λ m. ap (λ (x : List ℕ). word_at x 0) (line_same (frame_of (own_frame st) z st.table 0 m) m) in
      let high : some_below 24 (λ m. leb (modulus_of (moduli_in text) m) (meter_stored st img m)) ≡ some_below 24 (λ m. leb (modulus_of (moduli_in text) m) (meter_stored st img' m)) =
      λ i. some_below 24 (λ m. leb (modulus_of (moduli_in text) m) (stored m i)) in
      rw (S.as_long, high)

  row_same : (w p l : ℕ) (target : List ℕ) → read_row st img w p l target ≡ read_row st img' w p l target
  unfolding read_row
  row_same w p l target = rw S.as_long

  bytes_same : (w p l : ℕ) (target : List ℕ) → read_bytes st img w p l target ≡ read_bytes st img' w p l target
  unfolding read_bytes
  bytes_same w p l target = rw (row_same w p l target, seen_same w p l)

pub frames-alone : FramesAlone
frames-alone st img img' S =
    record {
      line = seen_same st img img' S;
      finished = finished-same st img img' S;
      event-first = first-same st img img' S;
      event-second = second-same st img img' S;
      written = written_same st img img' S;
      event = event-same st img img' S;
      loaded = loaded-same st img img' S;
      read-row = row_same st img img' S;
      read-bytes = bytes_same st img img' S;
    }

pub page-table-unread : PageTableUnread
page-table-unread st img a x low fits =
    frames-alone st img (store img a x)
    (record { as_long = sym (length-store img a x fits); frames-on = sym (drop-store img a x (8 * frame_word st.sizes) fits (omega arith)) })
