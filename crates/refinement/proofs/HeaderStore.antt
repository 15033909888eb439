-- A store to the header, which ends an operation, changes no other word: no page word, no line, no frame of a committed line.
use Prim.Native.Nat.{ℕ, ◌+◌, ◌*◌, ◌<◌, ◌≤◌}
use mathlib.Core.List.{List}
use mathlib.Core.Path.{◌≡◌, ap, ◌∙◌}
use native.Mathlib.Omega.{arith}
use lib.Dec.{ltb}
use lib.ListN.{length}
use Rattle.bounded.proofs.Tests.{case_on}
use Rattle.layout.specs.declared.Sizes.{Sizes}
use Rattle.layout.specs.Layout.{page_word, image_length}
use Rattle.image.specs.Lines.{line_bytes}
use Rattle.words.specs.Words.{word, store}
use Rattle.words.proofs.WordLaws.{word-store-other}
use Rattle.replay.specs.declared.Table.{Table}
use Rattle.replay.specs.Table.{slot_of, home_of}
use Rattle.replay.specs.Map.{page_frames}
use Rattle.refinement.specs.Recall.{frame_of}
use Rattle.refinement.proofs.StoreKept.{line_kept}

module _ (img : List ℕ) (z : Sizes) (a w : ℕ) (low : a < 8) (whole : image_length z ≤ length img) where
  pub header-fits : 8 * a + 8 ≤ length img
  header-fits = omega arith

  pub header-page : (p : ℕ) → word (store img a w) (page_word p) ≡ word img (page_word p)
  header-page p = word-store-other img a w (page_word p) header-fits (λ e. omega arith)

  pub header-line : (f l : ℕ) → line_bytes (store img a w) z f l ≡ line_bytes img z f l
  header-line f l = line_kept img a w z f l header-fits (λ k m e. omega arith)

  pub header-frame : (t : Table) (p l : ℕ) → frame_of (page_frames (word (store img a w))) z t p l ≡ frame_of (page_frames (word img)) z t p l
  header-frame t p l =
      case_on (ltb (slot_of z t p) z.slots)
      (λ e. rw e)
      (λ e. rw e (header-page p))

  pub header-home : (t : Table) (p : ℕ) → home_of (page_frames (word (store img a w))) z t p ≡ home_of (page_frames (word img)) z t p
  header-home t p =
      case_on (ltb (slot_of z t p) z.slots)
      (λ e. rw e)
      (λ e. rw e (header-page p))

  -- the committed copy of a line, by the state's slots
  pub header-copy : (t : Table) (p l : ℕ) → line_bytes (store img a w) z (frame_of (page_frames (word (store img a w))) z t p l) l ≡ line_bytes img z (frame_of (page_frames (word img)) z t p l) l
  header-copy t p l = header-line (frame_of (page_frames (word (store img a w))) z t p l) l ∙ ap (λ (f : ℕ). line_bytes img z f l) (header-frame t p l)
