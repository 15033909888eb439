use mathlib.Core.Bool.{true, false}
use Prim.Native.Nat.{ℕ, ◌+◌, ◌<◌, ◌≤◌}
use mathlib.Core.List.{List}
use mathlib.Core.Path.{◌≡◌, refl, sym, ap, ◌∙◌}
use native.Mathlib.Omega.{arith}
use lib.ListN.{length}
use borrow.Author.Tests.{le-leb, lt-leb}
use Rattle.bounded.proofs.Below.{some-none, some_turn, some-stops, some-ends}
use Rattle.layout.specs.declared.Sizes.{Sizes}
use Rattle.layout.specs.Layout.{frames as frames_of, image_length, line_word}
use Rattle.words.specs.Words.{word, word_at}
use Rattle.image.specs.Lines.{line_bytes}
use Rattle.lines.proofs.LineLaws.{first_word}
use Rattle.meters.specs.Meters.{modulus_of}
use Rattle.replay.specs.Table.{slot_in}
use Rattle.state.specs.State.{State, own_frame}
use Rattle.state.specs.Slots.{slot_of_page}
use Rattle.state_lines.specs.Committed.{committed_at}
use Rattle.refinement.specs.Frames.{frame_of}
use Rattle.call_load.proofs.Loads.{frame_found}
use Rattle.state_words.specs.Decoded.{decoded}
use Rattle.call_load.proofs.is_high.Goals as goal

pub loop-m-init : goal.loop-m-init
loop-m-init c = some-none _

-- the frame of a meter's line, and its stored number
module _ (z : Sizes) (st : State) (s m f : ℕ) (es : s ≡ slot_of_page z st.table.page 0) (ef : f ≡ committed_at z (slot_in st.table s) s (own_frame st 0) m)
    (low : (l : ℕ) → frame_of (own_frame st) z st.table 0 l < frames_of z) where
  frame-low : f < frames_of z
  frame-low = rw (frame_found z st s m f es ef) (low m)

  stored : (img : List ℕ) (v : ℕ) → m < 24 → image_length z ≤ length img → v ≡ word img (line_word z f m + 0)
      → v ≡ word_at (line_bytes img z (frame_of (own_frame st) z st.table 0 m) m) 0
  stored img v l long ev = ev ∙ first_word img z f m frame-low (omega (arith, l)) long ∙ ap (λ (g : ℕ). word_at (line_bytes img z g m) 0) (frame_found z st s m f es ef)

pub read_line_word-requires : goal.read_line_word-requires
read_line_word-requires c =
    (c.requires.0, frame-low c.args.z (decoded c.args.words.now) _ _ _ c.slot_of-s.ensures c.committed_at-f.ensures c.requires.2, omega (arith, c.loop-m-test.true), omega arith, c.requires.1)

pub returns-then-moduli-m : goal.returns-then-moduli-m
unfolding modulus_of
returns-then-moduli-m c =
    let v = stored c.args.z (decoded c.args.words.now) _ _ _ c.slot_of-s.ensures c.committed_at-f.ensures c.requires.2 c.args.image.now _ c.loop-m-test.true c.requires.1 c.read_line_word.ensures in
    some-stops _ _ _ true c.loop-m-test.true (sym (le-leb _ _ (rw v at c.if-moduli-m.true))) refl

pub loop-m-preserved : goal.loop-m-preserved
unfolding modulus_of
loop-m-preserved c =
    let v = stored c.args.z (decoded c.args.words.now) _ _ _ c.slot_of-s.ensures c.committed_at-f.ensures c.requires.2 c.args.image.now _ c.loop-m-test.true c.requires.1 c.read_line_word.ensures in
    some_turn _ _ false c.loop-m.invariant (sym (lt-leb _ _ (rw v at c.if-moduli-m.false))) refl

pub returns : goal.returns
returns c = some-ends _ _ _ c.loop-m.auto.m-end c.loop-m-test.false c.loop-m.invariant
