-- The state that a mount returns, from what the image shows alone: nothing is pending where no entry is counted, else the copying of those that are.
use Prim.Native.Nat.{ℕ, ◌+◌, ◌*◌, ◌<◌}
use mathlib.Core.List.{List}
use mathlib.Core.Logic.{inl}
use mathlib.Core.Path.{◌≡◌, refl, sym, ap, ◌∙◌, subst}
use native.Mathlib.Omega.{arith}
use lib.ListN.{length, drop, get_or}
use borrow.Author.Tests.{lt-ltb, le-ltb}
use Rattle.bounded.specs.Count.{Once}
use Rattle.layout.specs.declared.Sizes.{Sizes}
use Rattle.layout.specs.Layout.{frames, image_length}
use Rattle.words.specs.Words.{Bytes, word}
use Rattle.image.proofs.LineLaws.{length-line}
use Rattle.entries.specs.Entries.{key_of, key_page, key_line, entry_of}
use Rattle.entries.proofs.EntryLaws.{Right, entries-right, key_back, entry-own}
use Rattle.replay.specs.Table.{frame_names}
use Rattle.replay.specs.Map.{page_frames}
use Rattle.replay.proofs.Tables.{one_value}
use Rattle.mount.proofs.Verdict.{Taken, map_in, entry-shown}
use Rattle.mount.proofs.View.{View, Shows}
use Rattle.refinement.specs.Recall.{frame_of}
use Rattle.refinement.specs.Wide.{entry_bytes, shown_line}
use Rattle.state.specs.State.{State}
use Rattle.refinement.specs.Mount.{copying_state}
use Rattle.refinement.specs.Reference.{Reference, none, idle, recall_line}
use Rattle.refinement.proofs.CallMounted.{view-names, view-sixteen, view-map, copying-valid}
use Rattle.refinement.proofs.Copying.{copy_of, in_place, paged-line, Copying}
use Rattle.state.specs.Held.{no_writer}
use Rattle.refinement.proofs.Invariant.{Durable, Quiet}
use Rattle.refinement.proofs.Keys.{view-keys}
use Rattle.refinement.proofs.Mounted.{state_of, mounted-quiet}
use Rattle.refinement.proofs.Names.{owned-low, owned-apart, committed-owned}
use Rattle.refinement.proofs.Viewed.{shown-copy}

-- the state that a mount of such an image returns
abbrev pub copying_of : View → State
copying_of v = copying_state v.sizes v.head v.tail v.table (map_in v) v.count v.keys

-- the reference machine after a mount
abbrev pub remounted : Reference → Reference
remounted b = record { pages = b.pages; writes = λ w p l i. none; work = idle; wide = no_writer }

-- the lines that an image shows are the reference machine's
abbrev pub Shown : List ℕ → View → Reference → Type 0
Shown img v b = (p l : ℕ) → p < v.sizes.pages → l < 64 → shown_line img (page_frames (word img)) v.sizes v.table v.count v.keys p l ≡ recall_line b p l

-- the committed copies lie in frames of the image
module _ (img : List ℕ) (v : View) (shows : Shows img v) (mounts : Taken (length img) v) where
  once : Once (frames v.sizes) (frame_names (page_frames (word img)) v.sizes v.table)
  once = subst (Once (frames v.sizes)) (view-names img v shows) mounts.names

  pub copy-low : (p l : ℕ) → p < v.sizes.pages → frame_of (page_frames (word img)) v.sizes v.table p l < frames v.sizes
  copy-low p l low =
      owned-low (page_frames (word img)) v.sizes v.table mounts.legal once p (frame_of (page_frames (word img)) v.sizes v.table p l) low
      (committed-owned (page_frames (word img)) v.sizes v.table mounts.legal once p l)

  -- two in one frame are of one page
  pub one-page : (p l q m : ℕ) → p < v.sizes.pages → q < v.sizes.pages → frame_of (page_frames (word img)) v.sizes v.table p l ≡ frame_of (page_frames (word img)) v.sizes v.table q m → p ≡ q
  one-page p l q m lp lq e =
      owned-apart (page_frames (word img)) v.sizes v.table mounts.legal once p q _ _ lp lq
      (committed-owned (page_frames (word img)) v.sizes v.table mounts.legal once p l) (committed-owned (page_frames (word img)) v.sizes v.table mounts.legal once q m) e

module _ (img : List ℕ) (v : View) (b : Reference) (bytes : Bytes img) (shows : Shows img v) (mounts : Taken (length img) v) (shown : Shown img v b) where
  abbrev z : Sizes
  z = v.sizes

  abbrev past : List ℕ
  past = drop (image_length z) img

  pub remount-quiet : v.count ≡ 0 → Quiet past (state_of v) img (remounted b)
  remount-quiet e =
      mounted-quiet img v (remounted b) bytes refl shows mounts (λ p l lp ll. sym (shown-copy img (page_frames (word img)) z v.table v.count v.keys p l e) ∙ shown p l lp ll)
      (λ w p l i. refl) refl e refl

  right : Right z v.keys v.count
  right = entries-right z v.keys v.count mounts.entries

  -- the line of an entry that is counted, and a line without one
  entry-line : (e : ℕ) → e < v.count → entry_bytes img z e ≡ recall_line b (key_page (get_or v.keys e 0)) (key_line (get_or v.keys e 0))
  entry-line e low =
      let k : ℕ = get_or v.keys e 0 in
      let own : entry_of v.keys v.count (key_of (key_page k) (key_line k)) ≡ e = ap (entry_of v.keys v.count) (key_back k) ∙ entry-own z v.keys v.count right e low in
      let s = shown (key_page k) (key_line k) (right.page-low e low) (omega arith) in
      rw (own, lt-ltb e v.count low) at s

  other-shown : (p l : ℕ) → p < z.pages → l < 64 → entry_of v.keys v.count (key_of p l) ≡ v.count → copy_of (copying_of v) img p l ≡ recall_line b p l
  other-shown p l lp ll bare = let s = shown p l lp ll in rw (bare, le-ltb v.count v.count (omega arith)) at s

  durable : Durable past (copying_of v) img (in_place (copying_of v) img (remounted b))
  durable =
      record {
        bytes = bytes;
        past-kept = refl;
        view = v;
        shows = shows;
        mounts = mounts;
        sizes-same = refl;
        head-same = refl;
        tail-same = refl;
        count_same = refl;
        behind = record { sixteen = view-sixteen img v shows; last-same = λ s l. refl; slot_same = λ s l. inl refl };
        map-long = view-map img v shows mounts.legal.pages-high;
        own = entry-shown img v shows;
        committed =
            λ p l lp ll.
            paged-line (copy_of (copying_of v) img) (remounted b) p l (length-line img z (frame_of (page_frames (word img)) z v.table p l) l (copy-low img v shows mounts p l lp) ll mounts.fits);
      }

  pub remount-copying : (v.count ≡ 0 → ⊥) → Copying past (copying_of v) img (remounted b)
  remount-copying some =
      record {
        valid = copying-valid img v shows mounts some;
        op = refl;
        begun = omega arith;
        four = refl;
        sixty-four = refl;
        unheld = λ w s k l. one_value 64 (16 * w + s) 0;
        durable = durable;
        keys = view-keys img v shows z v.count refl refl;
        entry = entry-line;
        other = other-shown;
        landed = λ e k le lk l. absurd (omega arith);
        no_writes = λ w p l i a c d e. refl;
        work = inl refl;
        book = refl;
      }
