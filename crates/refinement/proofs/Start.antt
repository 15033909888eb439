-- Where a taken format ended: the fresh image's pages are zero, and nothing is under way.
use Prim.Native.Nat.{ℕ, ◌+◌, ◌<◌, ◌≤◌}
use mathlib.Core.Bool.{true, not}
use mathlib.Core.List.{List}
use mathlib.Core.Path.{◌≡◌, refl, ap, ◌∙◌, subst}
use native.Mathlib.Omega.{arith}
use lib.ListN.{length, drop}
use borrow.Author.Tests.{le-ltb}
use Rattle.bounded.specs.Count.{Once}
use Rattle.bounded.specs.Tab.{tab}
use Rattle.bounded.proofs.Rows.{row-none}
use Rattle.bounded.proofs.Tab.{tab-ext}
use Rattle.layout.specs.declared.Sizes.{Sizes}
use Rattle.layout.specs.Layout.{Legal, sizes_ok, frames, line_word, image_length}
use Rattle.words.specs.Words.{Bytes, word, flat, bytes_of}
use Rattle.layout.proofs.LayoutLaws.{legal}
use Rattle.image.proofs.LineLaws.{line-words}
use Rattle.fresh.specs.Fresh.{formatted, format_row, format_rows}
use Rattle.fresh.proofs.FreshMounts.{fresh_view, fresh-shows, fresh-taken}
use Rattle.fresh.proofs.FreshWords.{length-formatted, bytes-formatted, drop-formatted, formatted-zero}
use Rattle.refinement.specs.Calls.{world_of}
use Rattle.refinement.specs.Mount.{fresh_state, format_call}
use Rattle.refinement.specs.Recall.{frame_of}
use Rattle.refinement.specs.Run.{formatted_world}
use Rattle.refinement.proofs.CallMounted.{view-names}
use Rattle.refinement.specs.Reference.{blank}
use Rattle.refinement.proofs.Invariant.{Quiet}
use Rattle.refinement.proofs.Mounted.{Committed, mounted-quiet}
use Rattle.refinement.proofs.Names.{owned-low, committed-owned}
use Rattle.replay.specs.Map.{page_frames, map_from}
use Rattle.mount.proofs.Verdict.{map_in}

zero-line : flat (tab 8 (λ k. 0)) ≡ tab 64 (λ i. 0)
unfolding flat bytes_of tab
zero-line = refl

module _ (z : Sizes) (ok : sizes_ok z ≡ true) (buffer : List ℕ) (bytes : Bytes buffer) (fits : image_length z ≤ length buffer) where
  long : image_length z ≤ length (formatted z buffer)
  long = omega (arith, length-formatted z (legal z ok) buffer fits)

  fresh-committed : Committed (formatted z buffer) (fresh_view z) blank
  fresh-committed p l h k =
      let g : Legal z = legal z ok in
      let r : ℕ → ℕ = word (formatted z buffer) in
      let own : ℕ → ℕ = page_frames r in
      let f : ℕ = frame_of own z (fresh_view z).table p l in
      let once = subst (Once (frames z)) (view-names (formatted z buffer) (fresh_view z) (fresh-shows z g buffer fits)) (fresh-taken z g (length (formatted z buffer)) long).names in
      let low : f < frames z = owned-low own z (fresh_view z).table g once p f h (committed-owned own z (fresh_view z).table g once p l) in
      line-words (formatted z buffer) z f l (bytes-formatted z g buffer fits bytes) low k long
      ∙ ap flat (tab-ext 8 (λ j. r (line_word z f l + j)) (λ j. 0) (λ j m. formatted-zero z g buffer fits (line_word z f l + j) (omega arith) (omega arith)))
      ∙ zero-line

  pub fresh-quiet : Quiet (drop (image_length z) buffer) (fresh_state z) (formatted z buffer) blank
  unfolding map_in map_from
  fresh-quiet =
      let g : Legal z = legal z ok in
      mounted-quiet (formatted z buffer) (fresh_view z) blank (bytes-formatted z g buffer fits bytes) (drop-formatted z g buffer fits (image_length z) (omega arith)) (fresh-shows z g buffer fits)
      (fresh-taken z g (length (formatted z buffer)) long) fresh-committed (λ w p l i. refl) refl refl refl

  -- the format is taken
  pub format-world : formatted_world z buffer ≡ world_of (fresh_state z) (formatted z buffer)
  unfolding format_call
  format-world =
      let e : 0 ≡ format_row z buffer = row-none (format_rows z (length buffer)) (ap not ok, (le-ltb (length buffer) (image_length z) fits, tt)) in
      rw (← e)
