-- A store of a wide write: it goes to a word of the line's entry, which no mount reads, as no entry is counted; no other entry has that word, and a key that
-- is stored again is the one that is there.
use Prim.Native.Nat.{ℕ, suc, ◌+◌, ◌-◌, ◌*◌, ◌^◌, ◌<◌, ◌≤◌}
use mathlib.Core.Bool.{false}
use mathlib.Core.List.{List}
use mathlib.Core.Path.{◌≡◌, refl, sym, ap, ◌∙◌, subst}
use native.Mathlib.Omega.{arith}
use lib.Dec.{leb, eqb}
use lib.ListN.{length, get_or}
use borrow.Author.Tests.{ltb-true, leb-false, eqb-true, eqb-false, ne_eqb}
use Rattle.bounded.proofs.Below.{split_below}
use Rattle.bounded.proofs.Tests.{case_on}
use Rattle.layout.specs.declared.Sizes.{Sizes}
use Rattle.layout.specs.Layout.{entry_word, image_length}
use Rattle.words.specs.Words.{word, store}
use Rattle.words.proofs.WordLaws.{word-store, word-store-other, word_lt}
use Rattle.entries.specs.Entries.{key_of, key_page, key_line, keys_from}
use Rattle.entries.proofs.EntryLaws.{entry-le, entry_found, key-read}
use Rattle.mount.proofs.Dead.{Dead, dead-entry}
use Rattle.state.specs.State.{State}
use Rattle.state.specs.declared.Op.{Op}
use Rattle.state.specs.declared.Op.TheVariants.{Log, Copy}
use Rattle.state.specs.Wide.{entry_for, has_entry}
use Rattle.operations.specs.Operations.{is_idle, needs}
use Rattle.operations.proofs.Taken.{LogTaken, log-taken}
use Rattle.refinement.specs.Stores.{completed, with_made}
use Rattle.refinement.specs.Wide.{entry_bytes, log_at, log_value}
use Rattle.refinement.specs.Reference.{Reference, under, writing, with_work, written, read_line}
use Rattle.refinement.proofs.StateValid.{Valid, valid}
use Rattle.refinement.proofs.Pending.{pends, made-valid}
use Rattle.refinement.proofs.Invariant.{Durable}
use Rattle.refinement.proofs.Copies.{committed-low}
use Rattle.refinement.proofs.StoreKept.{eight-kept, store-fits, durable-kept}
use Rattle.refinement.proofs.WriteMid.{line_word_is}
use Rattle.refinement.proofs.Keys.{keys-ext}
use Rattle.refinement.proofs.Copying.{key_at}
use Rattle.refinement.proofs.Logging.{same-pages, Logged, Logs, writes, Logging, at_rest}

module _ {past : List ℕ} (st : State) (img : List ℕ) (b : Reference) (G : Logging past st img b) (p l o n : ℕ) (op : st.pending.op ≡ Log p l o n) (L : Logs st img b p l o n) where
  abbrev z : Sizes
  z = st.sizes

  abbrev m : ℕ
  m = st.pending.made

  abbrev w : ℕ
  w = st.wide.writer

  v : Valid st
  v = valid st G.valid

  pub taken : LogTaken st p l o n
  taken = log-taken st p l o n (pends st (Log p l o n) G.valid op refl).taken

  pub made-low : m < 9
  unfolding needs
  made-low = (pends st (Log p l o n) G.valid op refl).made-low

  -- the entry
  abbrev pub own : ℕ
  own = entry_for st.wide p l

  pub own-low : own < z.entries
  own-low =
      case_on (has_entry st.wide p l)
      (λ t. omega (arith, ltb-true own st.wide.count t, v.entries.few))
      (λ t.
      let full : leb z.entries st.wide.count ≡ false = rw t at taken.room in
      omega (arith, entry-le st.wide.keys st.wide.count (key_of p l), leb-false z.entries st.wide.count full))

  -- what is stored
  abbrev pub new_line : List ℕ
  new_line = read_line (written w p l o n L.given b) w p l

  pub value-is : (k : ℕ) → k < 8 → log_value st p l (1 + k) ≡ word new_line k
  value-is k h =
      let e : 1 + k - 1 ≡ k = omega arith in
      rw (ne_eqb (1 + k) 0 (λ q. omega arith), e) (ap (λ (ws : List ℕ). get_or ws k 0) L.finished ∙ line_word_is new_line k h)

  value_low : (j : ℕ) → j < 9 → log_value st p l j < 2 ^ 64
  value_low j h =
      case_on (eqb j 0)
      (λ t. rw t (omega (arith, taken.args.page-low, taken.args.line_low, v.legal.pages-high)))
      (λ t.
      let q : j ≡ 0 → ⊥ = eqb-false j 0 t in
      let e : 1 + (j - 1) ≡ j = omega arith in
      subst (λ (i : ℕ). log_value st p l i < 2 ^ 64) e (rw (value-is (j - 1) (omega arith)) (word_lt new_line (j - 1) L.is-bytes)))

  abbrev a : ℕ
  a = log_at st p l m

  abbrev x : ℕ
  x = log_value st p l m

  abbrev pub image : List ℕ
  image = store img a x

  inside : 8 * a + 8 ≤ image_length z
  inside = omega (arith, own-low, made-low)

  abbrev D : Durable past (completed st Copy) img b
  D = G.durable

  fits : 8 * a + 8 ≤ length img
  fits = store-fits past (completed st Copy) img b D a x inside

  pub durable : Durable past (completed st Copy) image b
  durable =
      durable-kept past (completed st Copy) img b D a x inside
      (subst (λ (y : Sizes). Dead D.view (entry_word y own + m)) D.sizes-same
      (dead-entry D.view D.mounts.legal own m made-low (λ q. omega (arith, D.count_same))))
      (λ q i k lq li lk e. omega (arith, committed-low (completed st Copy) img (at_rest st img b G).valid D q i lq))

  -- the keys are as they were
  key-kept : (d : ℕ) → d < st.wide.count → word image (entry_word z d) ≡ word img (entry_word z d)
  key-kept d ld =
      case_on (eqb (entry_word z own + m) (entry_word z d))
      (λ t.
      let q : entry_word z own + m ≡ entry_word z d = eqb-true (entry_word z own + m) (entry_word z d) t in
      let f : m ≡ 0 = omega (arith, made-low) in
      let g : d ≡ own = omega arith in
      let has : own < st.wide.count = omega arith in
      ap (word image) (sym q)
      ∙ word-store img a x fits (value_low m made-low)
      ∙ ap (log_value st p l) f
      ∙ sym (entry_found st.wide.keys st.wide.count (key_of p l) has)
      ∙ ap (λ (ks : List ℕ). get_or ks own 0) G.entries.keys
      ∙ key-read (word img) z st.wide.count own v.legal.entries-high v.entries.few has
      ∙ ap (λ (i : ℕ). word img (entry_word z i)) (sym g))
      (λ t. word-store-other img a x (entry_word z d) fits (eqb-false (entry_word z own + m) (entry_word z d) t))

  pub keys : st.wide.keys ≡ keys_from (word image) z st.wide.count
  keys = G.entries.keys ∙ keys-ext (word img) (word image) z st.wide.count (λ d ld _. sym (key-kept d ld))

  -- and the lines of the other entries
  pub line_kept : (d : ℕ) → d < st.wide.count → (d ≡ own → ⊥) → entry_bytes image z d ≡ read_line b w (key_page (key_at st d)) (key_line (key_at st d))
  line_kept d ld out =
      eight-kept img a x (entry_word z d + 1) fits (λ k h q. out (omega (arith, made-low)))
      ∙ G.entries.line d ld (subst (λ (q : Op). Logged st.wide q d → ⊥) (sym op) out)

  pub landed : (j : ℕ) → j < m + 1 → word image (log_at st p l j) ≡ log_value st p l j
  landed j h =
      let s : j < suc m = omega arith in
      split_below s
      (λ q. rw q (word-store img a x fits (value_low m made-low)))
      (λ h. word-store-other img a x (log_at st p l j) fits (λ q. omega arith) ∙ L.landed j h)

  -- with it made, where it is not the last
  pub logged-one : m + 1 < 9 → Logging past (with_made st (m + 1)) image (with_work (under (writing w p l o n L.given) (9 - (m + 1))) b)
  unfolding needs
  logged-one more =
      record {
        valid = made-valid st (m + 1) G.valid (ap is_idle op) (subst (λ (q : Op). m + 1 < needs st q) (sym op) more);
        low = G.low;
        book = G.book;
        four = G.four;
        sixty-four = G.sixty-four;
        durable = same-pages (completed st Copy) image b _ (λ p l h k. refl) durable;
        alone = G.alone;
        entries = record { keys = keys; line = λ d ld out. line_kept d ld (subst (λ (q : Op). Logged st.wide q d → ⊥) op out); no_writes = G.entries.no_writes };
        stage = writes p l o n op (record { given = L.given; work = refl; finished = L.finished; is-bytes = L.is-bytes; landed = landed });
      }
