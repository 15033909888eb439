-- A format's stores in any order: all images since the fence after its first store have the layout word 0, and so has any mix of them.
use Prim.Native.Nat.{ℕ, zero, suc, ◌+◌, ◌-◌, ◌*◌, ◌<◌, ◌≤◌}
use mathlib.Core.Bool.{true, false, ◌||◌, cond}
use mathlib.Core.List.{List, [], ◌∷◌, map}
use mathlib.Core.Logic.{⊎_elim}
use mathlib.Core.Path.{◌≡◌, refl, sym, ap, ◌∙◌, subst}
use native.Mathlib.Omega.{arith}
use native.Mathlib.Numerals.{add-one}
use lib.Dec.{eqb, leb}
use lib.ListN.{length, drop, get_or}
use lib.Seq.{ext_get_or}
use borrow.Author.Tests.{eq-eqb, ne_eqb, leb-true, leb-false}
use Rattle.bounded.proofs.Tests.{case_on}
use Rattle.layout.specs.declared.Sizes.{Sizes}
use Rattle.layout.specs.Layout.{Legal, sizes_ok, layout_word, image_words, image_length}
use Rattle.layout.proofs.LayoutLaws.{legal}
use Rattle.words.specs.Words.{Bytes, word, store}
use Rattle.fresh.specs.Fresh.{formatted, format_at, format_value, format_stores}
use Rattle.fresh.proofs.FreshStores.{stores-none, stores-more, stores-length, stores-bytes, stores-past, stores-all, half-layout}
use Rattle.state.specs.State.{State}
use Rattle.operations.specs.Operations.{needs}
use Rattle.refinement.specs.Stores.{World, with_made, stepped, stepped_by}
use Rattle.refinement.specs.Calls.{world_of}
use Rattle.refinement.specs.Run.{formatted_world}
use Rattle.refinement.specs.Reference.{blank}
use Rattle.refinement.specs.CutFormat.{asked_format, format_cut, Half, CutAt}
use Rattle.refinement.proofs.CutFormat.{half-image, cut_at}
use Rattle.refinement.proofs.FormatAsked.{formatting, format-left, format-stores, asked-world}
use Rattle.refinement.proofs.Steps.{stepped-image, run_none, run-kept, run-image, run_step}
use Rattle.refinement.proofs.Start.{format-world}
use Rattle.any_order.specs.AnyOrder.{Machine, formatted_machine, decides, with_next, fenced_before, since_next, since_stores, StoodAt, Torn}
use Rattle.any_order.specs.FormatOrder.{format_machine, TornAt, FormatAnyOrder}
use Rattle.any_order.proofs.Mixable.{All, all_map}
use Rattle.any_order.proofs.Mixed.{byte-of-word, word-of-bytes, stood, mixed-past}

module _ (z : Sizes) (ok : sizes_ok z ≡ true) (buffer : List ℕ) (bytes : Bytes buffer) (fits : image_length z ≤ length buffer) (since : List (List ℕ)) where
  g : Legal z
  g = legal z ok

  abbrev start : World
  start = world_of (formatting z) buffer

  -- with n stores made
  world-after : (n : ℕ) → n ≤ image_words z → stepped_by n start ≡ world_of (with_made (formatting z) n) (format_stores z n buffer)
  world-after n l =
      let left = format-left z g in
      let e : 0 + n ≡ n = omega arith in
      let st = run-kept n start (omega (arith, left, l)) ∙ ap (with_made (formatting z)) e in
      let img = run-image n start (omega (arith, left, l)) ∙ format-stores z n buffer in
      λ i. world_of (st i) (img i)

  -- a store that decides leaves one image, any other one more
  decided : (n : ℕ) → n ≤ image_words z → decides (with_made (formatting z) n) ≡ true → since_stores (suc n) start since ≡ format_stores z (n + 1) buffer ∷ []
  unfolding since_stores since_next
  decided n l t =
      ap (λ (u : World). cond (decides u.st) (map (with_next u) (fenced_before u (since_stores n start since))) ((stepped u).image ∷ since_stores n start since)) (world-after n l)
      ∙ rw (t, stores-more z g buffer fits n)

  other : (n : ℕ) → n ≤ image_words z → decides (with_made (formatting z) n) ≡ false → since_stores (suc n) start since ≡ format_stores z (n + 1) buffer ∷ since_stores n start since
  unfolding since_stores since_next
  other n l t =
      ap (λ (u : World). cond (decides u.st) (map (with_next u) (fenced_before u (since_stores n start since))) ((stepped u).image ∷ since_stores n start since)) (world-after n l)
      ∙ rw (t, stepped-image (world_of (with_made (formatting z) n) (format_stores z n buffer)), stores-more z g buffer fits n)

  -- the first decides, and the last; none between
  first-decides : decides (with_made (formatting z) 0) ≡ true
  first-decides = refl

  last-decides : decides (with_made (formatting z) (image_words z)) ≡ true
  unfolding needs
  last-decides = rw (ne_eqb (image_words z) 0 (λ e. omega (arith, e, g.pages-low))) (eq-eqb (image_words z + 1) (image_words z + 1) refl)

  none-decides : (n : ℕ) → 0 < n → n < image_words z → decides (with_made (formatting z) n) ≡ false
  unfolding needs
  none-decides n a b = rw (ne_eqb n 0 (λ e. omega (arith, e, a))) (ne_eqb (n + 1) (image_words z + 1) (λ e. omega (arith, e, b)))

  none_made : since_stores 0 start since ≡ since
  unfolding since_stores
  none_made = refl

  -- ---- up to the last but one

  record Halfway (x : List ℕ) : Type 0 where
    zero-layout : word x layout_word ≡ 0
    clean : Bytes x
    long : length x ≡ length buffer
    past : drop (image_length z) x ≡ drop (image_length z) buffer

  halfway : (n : ℕ) → n < image_words z → Halfway (format_stores z (n + 1) buffer)
  halfway n l =
      record {
        zero-layout = half-layout z g buffer fits (n + 1) (omega arith) (omega arith);
        clean = stores-bytes z g buffer fits (n + 1) bytes;
        long = stores-length z g buffer fits (n + 1) (omega arith);
        past = stores-past z g buffer fits (n + 1) (omega arith);
      }

  all-halfway : (n : ℕ) → n < image_words z → All Halfway (since_stores (suc n) start since)
  all-halfway zero l = subst (All Halfway) (sym (decided 0 (omega arith) first-decides)) (halfway 0 l, tt)
  all-halfway (suc n) l =
      let few : n < image_words z = omega arith in
      subst (All Halfway) (sym (other (suc n) (omega arith) (none-decides (suc n) (omega arith) l))) (halfway (suc n) l, all-halfway n few)

  module _ (images : List (List ℕ)) (h : All Halfway images) (image : List ℕ) (long : length image ≡ length buffer) (torn : (i : ℕ) → StoodAt images i (get_or image i 0)) where
    mixed-half : Half image
    mixed-half =
        let y : List ℕ = format_stores z (0 + 1) buffer in
        let Y : Halfway (format_stores z (0 + 1) buffer) = halfway 0 (omega (arith, g.pages-low)) in
        let room : 8 * layout_word + 8 ≤ length buffer = omega (arith, fits, g.pages-low) in
        let e : word image layout_word ≡ word (format_stores z (0 + 1) buffer) layout_word =
        word-of-bytes image (format_stores z (0 + 1) buffer) layout_word (omega (arith, long, room)) (omega (arith, Y.long, room))
        (λ k m.
        stood (λ b. b ≡ get_or (format_stores z (0 + 1) buffer) (8 * layout_word + k) 0) (8 * layout_word + k) images
        (all_map
        (λ x X.
        byte-of-word x (format_stores z (0 + 1) buffer) layout_word X.clean Y.clean (omega (arith, X.long, room)) (omega (arith, Y.long, room)) (X.zero-layout ∙ sym Y.zero-layout) k m)
        images h)
        (get_or image (8 * layout_word + k) 0) (torn (8 * layout_word + k))) in
        half-image image (omega (arith, long, fits, g.pages-low)) (e ∙ Y.zero-layout)

    mixed-bytes : Bytes image
    mixed-bytes i = stood (λ b. b < 256) i images (all_map (λ x X. X.clean i) images h) (get_or image i 0) (torn i)

    mixed-old : drop (image_length z) image ≡ drop (image_length z) buffer
    mixed-old = mixed-past images image torn (image_length z) buffer long (all_map (λ x X. X.past) images h)

  -- one image alone is what a cut leaves
  alone : (x image : List ℕ) → length image ≡ length x → ((i : ℕ) → StoodAt (x ∷ []) i (get_or image i 0)) → image ≡ x
  alone x image long torn = ext_get_or 0 image x long (λ i l. ⊎_elim (λ e. e) (λ e. absurd e) (torn i))

  module _ (k : ℕ) (few : k ≤ image_words z + 1) where
    abbrev m : Machine
    m = format_machine z buffer since k

    C : CutAt z buffer k (format_cut z buffer k)
    C = cut_at z ok buffer bytes fits k

    from_start : m.since ≡ since_stores k start since
    from_start = ap (λ (u : World). since_stores k u since) (asked-world z ok buffer fits)

    stood-so : (image : List ℕ) → Torn m image → (images : List (List ℕ)) → since_stores k start since ≡ images → (i : ℕ) → StoodAt images i (get_or image i 0)
    stood-so image t images e = subst (λ (l : List (List ℕ)). (i : ℕ) → StoodAt l i (get_or image i 0)) (from_start ∙ e) t.bytes

    long-so : (image : List ℕ) → Torn m image → length image ≡ length buffer
    long-so image t = t.as_long ∙ C.as_long

    -- some stores are made, but not the last
    halves : 0 < k → k ≤ image_words z → All Halfway (since_stores k start since)
    halves a b =
        let e : suc (k - 1) ≡ k = sym (add-one (k - 1)) ∙ (let q : k - 1 + 1 ≡ k = omega arith in q) in
        subst (λ (i : ℕ). All Halfway (since_stores i start since)) e (all-halfway (k - 1) (omega arith))

    last_one : k ≡ image_words z + 1 → since_stores k start since ≡ formatted z buffer ∷ []
    last_one e =
        ap (λ (i : ℕ). since_stores i start since) (e ∙ add-one (image_words z))
        ∙ decided (image_words z) (omega arith) last-decides
        ∙ ap (λ (x : List ℕ). x ∷ []) (stores-all z g buffer fits)

    fresh : k ≡ image_words z + 1 → (image : List ℕ) → Torn m image → image ≡ formatted z buffer
    fresh e image t =
        let long : length (formatted z buffer) ≡ length buffer = ap (length {A = ℕ}) (sym (stores-all z g buffer fits)) ∙ stores-length z g buffer fits (image_words z + 1) (omega arith) in
        alone (formatted z buffer) image (long-so image t ∙ sym long) (stood-so image t (formatted z buffer ∷ []) (last_one e))

    whole : k ≡ image_words z + 1 → m ≡ formatted_machine z buffer
    whole e =
        let v : format_cut z buffer k ≡ formatted_world z buffer = C.whole (omega (arith, e)) in
        let i : formatted z buffer ≡ (formatted_world z buffer).image = ap (λ (u : World). u.image) (sym (format-world z ok buffer bytes fits)) in
        let s : m.since ≡ (formatted_world z buffer).image ∷ [] = from_start ∙ last_one e ∙ ap (λ (x : List ℕ). x ∷ []) i in
        λ j. record { world = v j; since = s j; reference = blank }

    either : {X : Type 0} → 0 < k → (k ≤ image_words z → X) → (k ≡ image_words z + 1 → X) → X
    either a f h = case_on (leb k (image_words z)) (λ t. f (leb-true k (image_words z) t)) (λ t. h (omega (arith, few, leb-false k (image_words z) t)))

    pub torn-at : TornAt z buffer since k
    torn-at =
        record {
          old = λ e. from_start ∙ ap (λ (i : ℕ). since_stores i start since) e ∙ none_made;
          half = λ a b image t. mixed-half (since_stores k start since) (halves a b) image (long-so image t) (stood-so image t (since_stores k start since) refl);
          whole = whole;
          fresh = fresh;
          past =
              λ a image t.
              either a (λ b. mixed-old (since_stores k start since) (halves a b) image (long-so image t) (stood-so image t (since_stores k start since) refl))
              (λ e. ap (drop (image_length z)) (fresh e image t ∙ sym (stores-all z g buffer fits)) ∙ stores-past z g buffer fits (image_words z + 1) (omega arith));
          bytes =
              λ a image t.
              either a (λ b. mixed-bytes (since_stores k start since) (halves a b) image (long-so image t) (stood-so image t (since_stores k start since) refl))
              (λ e. subst Bytes (sym (fresh e image t ∙ sym (stores-all z g buffer fits))) (stores-bytes z g buffer fits (image_words z + 1) bytes));
          as_long = long-so;
        }

pub format-any-order : FormatAnyOrder
format-any-order z ok buffer bytes fits since k few = torn-at z ok buffer bytes fits since k few
