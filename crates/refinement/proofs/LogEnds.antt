-- The ninth store of a wide write: the line's entry has the finished line whole, and is used.
use Prim.Native.Nat.{ℕ, ◌+◌, ◌-◌, ◌*◌, ◌<◌, ◌≤◌, min}
use mathlib.Core.Bool.{Bool, cond}
use mathlib.Core.List.{List}
use mathlib.Core.Path.{◌≡◌, refl, sym, ap, ap₂, ◌∙◌}
use native.Mathlib.Nat.{le_antisymm}
use native.Mathlib.Omega.{arith}
use lib.Dec.{eqb}
use lib.ListN.{length, set}
use lib.Seq.{set-get_or, get_or-set_same, get_or-set_other}
use borrow.Author.Tests.{ltb-true, ltb-false, eqb-true, eqb-false}
use Rattle.bounded.specs.Tab.{filled}
use Rattle.bounded.proofs.Tab.{tab-ext, length-tab, filled-turn}
use Rattle.bounded.proofs.Tests.{case_on}
use Rattle.layout.specs.declared.Sizes.{Sizes}
use Rattle.layout.specs.Layout.{entry_word}
use Rattle.words.specs.Words.{word, word_at, flat}
use Rattle.words.proofs.Runs.{words-tab}
use Rattle.image.proofs.LineLaws.{eight-words, flat_line}
use Rattle.entries.specs.Entries.{no_keys, key_of, key_page, key_line, keys_from, entry_of}
use Rattle.entries.proofs.EntryLaws.{entry-le, entry_found, entry-before, entry-none, entry-own, page-of-key, line-of-key, key_back, key_apart}
use Rattle.state.specs.State.{State}
use Rattle.state.specs.declared.Op.TheVariants.{Log, Copy}
use Rattle.state.specs.Wide.{has_entry}
use Rattle.refinement.specs.Stores.{completed}
use Rattle.refinement.specs.Wide.{entry_bytes}
use Rattle.refinement.specs.Reference.{Reference, none, idle, with_work, written, read_line}
use Rattle.refinement.proofs.StateValid.{Valid, valid}
use Rattle.refinement.proofs.Pending.{pends}
use Rattle.refinement.proofs.WideValid.{logged-valid}
use Rattle.refinement.proofs.Copies.{durable-fits}
use Rattle.refinement.proofs.WriteHeld.{writes_kept, line_same}
use Rattle.refinement.proofs.Copying.{key_at}
use Rattle.refinement.proofs.Logging.{same-pages, Logs, settled, Logging, keys-long}
use Rattle.refinement.proofs.LogMid.{taken, own, own-low, new_line, value-is, image, durable, keys, line_kept, landed}

module _ {past : List ℕ} (st : State) (img : List ℕ) (b : Reference) (G : Logging past st img b) (p l o n : ℕ) (op : st.pending.op ≡ Log p l o n) (L : Logs st img b p l o n)
    (last : st.pending.made + 1 ≡ 9) where
  abbrev z : Sizes
  z = st.sizes

  abbrev w : ℕ
  w = st.wide.writer

  abbrev count : ℕ
  count = st.wide.count

  abbrev after : State
  after = completed st (Log p l o n)

  abbrev img' : List ℕ
  img' = image st img b G p l o n op L

  abbrev e : ℕ
  e = own st img b G p l o n op L

  abbrev c : Reference
  c = written w p l o n L.given (with_work idle b)

  v : Valid st
  v = valid st G.valid

  page-low : p < z.pages
  page-low = (taken st img b G p l o n op L).args.page-low

  line_low : l < 64
  line_low = (taken st img b G p l o n op L).args.line_low

  -- the entry is the one that has the key, or the next
  entry-cases : {X : Type 0} → (e < count → after.wide.count ≡ count → X) → (e ≡ count → after.wide.count ≡ count + 1 → X) → X
  entry-cases f g =
      case_on (has_entry st.wide p l)
      (λ t. f (ltb-true e count t) (ap (λ (x : Bool). cond x count (count + 1)) t))
      (λ t. g (le_antisymm (entry-le st.wide.keys count (key_of p l)) (ltb-false e count t)) (ap (λ (x : Bool). cond x count (count + 1)) t))

  own-used : e < after.wide.count
  own-used = entry-cases (λ a q. omega arith) (λ a q. omega arith)

  long : e < length st.wide.keys
  long = omega (arith, keys-long st img b G, own-low st img b G p l o n op L, v.legal.entries-high)

  key_here : key_at after e ≡ key_of p l
  key_here = get_or-set_same st.wide.keys e (key_of p l) 0 long

  key-there : (d : ℕ) → (d ≡ e → ⊥) → key_at after d ≡ key_at st d
  key-there d out = get_or-set_other st.wide.keys e d (key_of p l) 0 out

  -- no other entry has the key
  key-own : (d : ℕ) → d < count → key_at st d ≡ key_of p l → d ≡ e
  key-own d ld q = sym (ap (entry_of st.wide.keys count) (sym q) ∙ entry-own z st.wide.keys count v.entries d ld)

  used-before : (d : ℕ) → d < after.wide.count → (d ≡ e → ⊥) → d < count
  used-before d ld out = entry-cases (λ a q. omega arith) (λ a q. omega arith)

  -- ---- the keys

  keys-now : after.wide.keys ≡ keys_from (word img') z after.wide.count
  unfolding keys_from
  keys-now =
      entry-cases
      (λ a q.
      ap (set st.wide.keys e) (sym (entry_found st.wide.keys count (key_of p l) a))
      ∙ set-get_or st.wide.keys e 0
      ∙ keys st img b G p l o n op L
      ∙ ap (keys_from (word img') z) (sym q))
      (λ a q.
      let f : ℕ → ℕ = λ d. word img' (entry_word z d) in
      let low = own-low st img b G p l o n op L in
      let m : min count z.entries ≡ count = omega arith in
      let k : min (count + 1) z.entries ≡ count + 1 = omega arith in
      let first : key_of p l ≡ f count =
      sym (landed st img b G p l o n op L 0 (omega arith)) ∙ (let u : entry_word z e + 0 ≡ entry_word z count = omega arith in ap (word img') u) in
      ap (λ (i : ℕ). set st.wide.keys i (key_of p l)) a
      ∙ filled-turn f no_keys st.wide.keys count (key_of p l) (keys st img b G p l o n op L ∙ ap (λ (i : ℕ). filled i f no_keys) m) first
      ∙ ap (λ (i : ℕ). filled i f no_keys) (sym k)
      ∙ ap (keys_from (word img') z) (sym q))

  -- ---- the lines

  line-here : entry_bytes img' z e ≡ read_line c w p l
  line-here =
      let line : List ℕ = new_line st img b G p l o n op L in
      let D = durable st img b G p l o n op L in
      let low = own-low st img b G p l o n op L in
      eight-words img' (entry_word z e + 1) D.bytes (omega (arith, durable-fits past (completed st Copy) img' b D))
      ∙ ap flat
      (tab-ext 8 (λ k. word img' (entry_word z e + 1 + k)) (λ k. word_at line (0 + 8 * k))
      (λ k h.
      let u : entry_word z e + 1 + k ≡ entry_word z e + (1 + k) = omega arith in
      let q : 8 * k ≡ 0 + 8 * k = omega arith in
      ap (word img') u ∙ landed st img b G p l o n op L (1 + k) (omega arith) ∙ value-is st img b G p l o n op L k h ∙ ap (word_at line) q)
      ∙ sym (words-tab line 0 8))
      ∙ flat_line line L.is-bytes (length-tab 64 _)

  line-now : (d : ℕ) → d < after.wide.count → entry_bytes img' z d ≡ read_line c w (key_page (key_at after d)) (key_line (key_at after d))
  line-now d ld =
      case_on (eqb d e)
      (λ t.
      let q : d ≡ e = eqb-true d e t in
      let k : key_at after d ≡ key_of p l = ap (key_at after) q ∙ key_here in
      ap (entry_bytes img' z) q ∙ line-here
      ∙ sym (ap₂ (read_line c w) (ap key_page k ∙ page-of-key p l line_low) (ap key_line k ∙ line-of-key p l line_low)))
      (λ t.
      let out : d ≡ e → ⊥ = eqb-false d e t in
      let ld' : d < count = used-before d ld out in
      let k : key_at after d ≡ key_at st d = key-there d out in
      line_kept st img b G p l o n op L d ld' out
      ∙ line_same (with_work idle b) w p l o n L.given w (key_page (key_at st d)) (key_line (key_at st d))
      (λ s. out (key-own d ld' (sym (key_back (key_at st d)) ∙ ap₂ key_of s.1 s.2)))
      ∙ sym (ap₂ (read_line c w) (ap key_page k) (ap key_line k)))

  -- ---- lines without an entry

  bare-before : (q i : ℕ) → i < 64 → entry_of after.wide.keys after.wide.count (key_of q i) ≡ after.wide.count → ((q ≡ p) × (i ≡ l) → ⊥) → entry_of st.wide.keys count (key_of q i) ≡ count
  bare-before q i li bare out =
      entry-none st.wide.keys count (key_of q i)
      (λ d ld k.
      case_on (eqb d e)
      (λ t.
      let s : d ≡ e = eqb-true d e t in
      let f : key_of p l ≡ key_of q i = sym (entry_found st.wide.keys count (key_of p l) (omega arith)) ∙ ap (key_at st) (sym s) ∙ k in
      let g = key_apart p l q i line_low li f in
      out (sym g.0, sym g.1))
      (λ t.
      let s = eqb-false d e t in
      let more : count ≤ after.wide.count = entry-cases (λ a r. omega arith) (λ a r. omega arith) in
      entry-before after.wide.keys after.wide.count (key_of q i) d (omega arith) (key-there d s ∙ k)))

  bare-now : (q i j : ℕ) → q < z.pages → i < 64 → j < 64 → entry_of after.wide.keys after.wide.count (key_of q i) ≡ after.wide.count → c.writes w q i j ≡ none
  bare-now q i j lq li lj bare =
      let out : (q ≡ p) × (i ≡ l) → ⊥ =
      λ s.
      let k : key_at after e ≡ key_of q i = key_here ∙ sym (ap₂ key_of s.0 s.1) in
      entry-before after.wide.keys after.wide.count (key_of q i) e (omega (arith, own-used)) k in
      writes_kept (with_work idle b) w p l o n L.given w q i j (λ s. out (s.1, s.2))
      ∙ G.entries.no_writes q i j lq li lj (bare-before q i li bare out)

  pub logged-all : Logging past after img' c
  logged-all =
      record {
        valid = logged-valid st p l o n G.valid (keys-long st img b G) (pends st (Log p l o n) G.valid op refl).taken;
        low = G.low;
        book = G.book;
        four = G.four;
        sixty-four = G.sixty-four;
        durable = same-pages (completed st Copy) img' b c (λ q i h k. refl) (durable st img b G p l o n op L);
        alone = λ u q i j lu out lq li lj. writes_kept (with_work idle b) w p l o n L.given u q i j (λ s. out s.0) ∙ G.alone u q i j lu out lq li lj;
        entries = record { keys = keys-now; line = λ d ld out. line-now d ld; no_writes = bare-now };
        stage = settled refl refl;
      }
