-- Mount and format that no row turns back: the state that a mount returns, and the sizes of a format.
use mathlib.Core.Bool.{true}
use Prim.Native.Nat.{ℕ, ◌≤◌}
use mathlib.Core.List.{List}
use mathlib.Core.Path.{◌≡◌, refl, sym, ap, ◌∙◌, subst}
use native.Mathlib.Omega.{arith}
use lib.ListN.{length, replicate}
use borrow.Author.Tests.{not-false, eq-eqb, ne_eqb}
use Rattle.bounded.specs.Tab.{tab}
use Rattle.bounded.proofs.Rows.{none-apply}
use Rattle.layout.specs.declared.Sizes.{Sizes}
use Rattle.layout.specs.Layout.{sizes_ok, Legal, image_length}
use Rattle.words.specs.Words.{word}
use Rattle.layout.proofs.LayoutLaws.{legal}
use Rattle.mount.specs.declared.Judged.{Judged}
use Rattle.fresh.specs.Fresh.{format_rows, format_row}
use Rattle.mount.specs.Mount.{Mounted, mount_of, judged}
use Rattle.mount.proofs.View.{view_of}
use Rattle.mount.proofs.Verdict.{mount-taken, taken-mount, map-put}
use Rattle.replay.specs.Table.{pages_apart, home_of}
use Rattle.replay.specs.Map.{page_frames}
use Rattle.state.specs.State.{State}
use Rattle.refinement.specs.Mount.{quiet_state, copying_state, mounted_state}
use Rattle.call_mount.specs.Entries.{with_entries}
use Rattle.call_mount.proofs.MapFilled.{over_zeros}

-- the state of a mount: quiet where no entry is counted, else copying
pub mounted-quiet : (m : Mounted) → m.count ≡ 0 → quiet_state m.sizes m.head m.tail m.table m.map ≡ mounted_state m
mounted-quiet m h = rw (eq-eqb m.count 0 h)

pub mounted-copying : (m : Mounted) → (m.count ≡ 0 → ⊥) → copying_state m.sizes m.head m.tail m.table m.map m.count m.keys ≡ mounted_state m
mounted-copying m h = rw (ne_eqb m.count 0 h)

-- j is what the code found, of an image that no row turns back
module _ (img : List ℕ) (j : Judged) (h : ((mount_of img).row ≡ 0) × (j ≡ judged (mount_of img))) where
  -- what putting the homes leans on
  pub homes-may : Legal j.sizes × (image_length j.sizes ≤ length img) × (pages_apart j.sizes j.table.page ≡ true)
  homes-may =
      let v = view_of (word img) in
      let t = mount-taken img v refl h.0 in
      rw h.1
      (subst (λ (m : Mounted). Legal m.sizes × (image_length m.sizes ≤ length img) × (pages_apart m.sizes m.table.page ≡ true)) (sym (taken-mount img v refl t))
      (t.legal, t.fits, t.apart))

  -- the words with the quiet state of the mount, then its map
  pub quiet-filled : (s1 s2 : State) → s1 ≡ quiet_state j.sizes j.head j.tail j.table (replicate 1024 0)
      → s2 ≡ with_entries s1 (tab j.sizes.pages (home_of (page_frames (word img)) j.sizes j.table)) j.sizes.pages
      → s2 ≡ quiet_state (mount_of img).sizes (mount_of img).head (mount_of img).tail (mount_of img).table (mount_of img).map
  quiet-filled s1 s2 q f =
      let m = mount_of img in
      let low : m.sizes.pages ≤ 1024 = rw h.1 at homes-may.0.pages-high in
      let filled = over_zeros m.sizes.pages (home_of (page_frames (word img)) m.sizes m.table) low ∙ sym (map-put img h.0) in
      rw h.1 at (f ∙ ap (λ (u : State). with_entries u (tab j.sizes.pages (home_of (page_frames (word img)) j.sizes j.table)) j.sizes.pages) q)
      ∙ ap (quiet_state m.sizes m.head m.tail m.table) filled

module _ (z : Sizes) (img : List ℕ) (none : 0 ≡ format_row z img) where
  pub format-legal : Legal z
  format-legal = legal z (not-false (sizes_ok z) (none-apply (format_rows z (length img)) (omega arith) (sym none)).0)
