-- A store of the count of entries: a mount finds the same but for the entries that are counted, whose keys it reads.
use Prim.Native.Nat.{ℕ, ◌^◌, ◌<◌, ◌≤◌}
use mathlib.Core.Bool.{Bool, cond}
use mathlib.Core.List.{List}
use mathlib.Core.Path.{◌≡◌, refl, sym, ap, ◌∙◌, subst}
use native.Mathlib.Omega.{arith}
use lib.ListN.{length}
use borrow.Author.Tests.{ne_eqb}
use Rattle.layout.specs.declared.Sizes.{Sizes}
use Rattle.replay.specs.Map.{page_frames}
use Rattle.layout.specs.Layout.{layout_of, count_word, image_length}
use Rattle.words.specs.Words.{word, store}
use Rattle.words.proofs.WordLaws.{length-store, bytes-store, drop-store}
use Rattle.entries.specs.Entries.{keys_from}
use Rattle.entries.proofs.EntryLaws.{Right, right-entries}
use Rattle.mount.proofs.View.{View, Shows, shown}
use Rattle.mount.proofs.HeadTail.{store-count}
use Rattle.mount.proofs.Verdict.{Taken}
use Rattle.state.specs.State.{State, Wide}
use Rattle.refinement.specs.Settled.{with_wide}
use Rattle.refinement.specs.Reference.{Reference}
use Rattle.refinement.proofs.Copies.{durable-legal, durable-fits}
use Rattle.refinement.proofs.Invariant.{Durable}
use Rattle.refinement.proofs.HeaderStore.{header-page, header-copy, header-home}
use Rattle.refinement.proofs.StoreKept.{behind-ext}

-- the view with n entries counted
abbrev pub counting : View → ℕ → List ℕ → View
counting v n keys =
    record { sizes = v.sizes; layout = v.layout; head = v.head; tail = v.tail; records = v.records; table = v.table; homes = v.homes; count = n; keys = keys }

counted-shows : (img : List ℕ) (v : View) → Shows img v → (n : ℕ) → n < 2 ^ 64 → 56 ≤ length img → v.layout ≡ 2
    → Shows (store img count_word n) (counting v n (keys_from (word img) v.sizes n))
counted-shows img v shows n low fits two =
    store-count img v shows n low fits two ∙ ap (λ (u : View). counting u n (keys_from (word img) v.sizes n)) (sym (shown img v shows))

counted-taken : (len : ℕ) (v : View) → Taken len v → (n : ℕ) (keys : List ℕ) → Right v.sizes keys n → Taken len (counting v n keys)
counted-taken len v t n keys r =
    record {
      legal = t.legal;
      layout = t.layout;
      fits = t.fits;
      positions = t.positions;
      records = t.records;
      shapes = t.shapes;
      apart = t.apart;
      names = t.names;
      entries = right-entries v.sizes keys n r;
    }

module _ {past : List ℕ} (st : State) (img : List ℕ) (b : Reference) (D : Durable past st img b) (d : Wide) (some : st.sizes.entries ≡ 0 → ⊥) (low : d.count < 2 ^ 64)
    (right : Right st.sizes (keys_from (word img) st.sizes d.count) d.count) where
  abbrev n : ℕ
  n = d.count

  two : D.view.layout ≡ 2
  two = D.mounts.layout ∙ ap layout_of D.sizes-same ∙ ap (λ (x : Bool). cond x 1 2) (ne_eqb st.sizes.entries 0 some)

  -- the image with that count stored, and the state's wide transaction the one that is counted
  pub durable-counted : Durable past (with_wide st d) (store img count_word n) b
  durable-counted =
      let z : Sizes = st.sizes in
      let v : View = D.view in
      let whole = durable-fits past st img b D in
      let r = subst (λ (y : Sizes). Right y (keys_from (word img) y n) n) (sym D.sizes-same) right in
      record {
        bytes = bytes-store img count_word n D.bytes;
        past-kept = drop-store img count_word n (image_length z) (omega arith) (omega arith) ∙ D.past-kept;
        view = counting v n (keys_from (word img) v.sizes n);
        shows = counted-shows img v D.shows n low (omega arith) two;
        mounts = subst (λ (k : ℕ). Taken k (counting v n (keys_from (word img) v.sizes n))) (sym (length-store img count_word n (omega arith))) (counted-taken (length img) v D.mounts n (keys_from (word img) v.sizes n) r);
        sizes-same = D.sizes-same;
        head-same = D.head-same;
        tail-same = D.tail-same;
        count_same = refl;
        behind = behind-ext (page_frames (word img)) (page_frames (word (store img count_word n))) z v.table st.table (durable-legal past st img b D) D.behind (λ p l m. header-page img z count_word n (omega arith) whole p);
        map-long = D.map-long;
        own = λ p l. D.own p l ∙ sym (header-home img z count_word n (omega arith) whole st.table p);
        committed = λ p l lp ll. header-copy img z count_word n (omega arith) whole st.table p l ∙ D.committed p l lp ll;
      }
