-- Recall: it mounts, copies one committed line, which is that of its entry where there is one, and forgets (document 01, rows 1 to 7, then 11).
use Rattle.std.specs.Prelude.{ℕ, Bool, ◌||◌, cond, List, [], ◌∷◌, ◌++◌, ltb, leb, eqb, length}
use Rattle.bounded.specs.Rows.{Row, refusal}
use Rattle.words.specs.Words.{word, over}
use Rattle.replay.specs.Map.{page_frames}
use Rattle.mount.specs.Mount.{sizes_from, table_after, count_from, keys_after, mount_rows}
use Rattle.refinement.specs.Wide.{shown_line}
pub use Rattle.refinement.specs.Frames.{frame_of}

abbrev pub recall_rows : List ℕ → ℕ → ℕ → List ℕ → List Row
recall_rows img p l target =
    mount_rows (length img) (word img) ++ ((leb (sizes_from (word img)).pages p || ltb 63 l || ltb (length target) 64, 11) ∷ [])

-- the number of recall's answer, and the target after it
unfoldable pub recall_row : List ℕ → ℕ → ℕ → List ℕ → ℕ
recall_row img p l target = refusal (recall_rows img p l target)

unfoldable pub recall_bytes : List ℕ → ℕ → ℕ → List ℕ → List ℕ
recall_bytes img p l target =
    let r = word img in
    cond (eqb (recall_row img p l target) 0) (over target 0 (shown_line img (page_frames r) (sizes_from r) (table_after r) (count_from r) (keys_after r) p l)) target
