-- What right entries tell: they are at most L, each is one of a page, and no line has two. The entry of a line, and one more used.
use Prim.Native.Nat.{ℕ, ◌+◌, ◌≤◌, ◌<◌, min}
use mathlib.Core.Path.{◌≡◌, refl, sym, ap, ◌∙◌, subst}
use mathlib.Core.Bool.{Bool, true}
use mathlib.Core.List.{List}
use native.Mathlib.Nat.{le_antisymm}
use native.Mathlib.Omega.{arith}
use lib.Dec.{ltb, leb, eqb}
use lib.ListN.{length, get_or, set, length-replicate}
use lib.Seq.{get_or-set_same, get_or-set_other}
use borrow.Author.Tests.{leb-true, le-leb, ltb-true, ltb-false, lt-ltb, eqb-true, eq-eqb}
use Rattle.bounded.specs.Below.{all_below, up_to}
use Rattle.bounded.specs.Tab.{filled}
use Rattle.bounded.proofs.Tests.{case_on, contradicts, and_left, and_right}
use Rattle.bounded.proofs.Below.{all-at, all_made, first-le, first_holds, first-before}
use Rattle.bounded.proofs.Tab.{length-filled, get_or-filled}
use Rattle.layout.specs.declared.Sizes.{Sizes}
use Rattle.layout.specs.Layout.{entry_word}
use Rattle.entries.specs.Entries.{key_of, key_page, key_line, no_keys, keys_from, entry_of, key_right, entries_ok}

-- ---- keys

pub page-of-key : (p l : ℕ) → l < 64 → key_page (key_of p l) ≡ p
page-of-key p l h = omega arith

pub line-of-key : (p l : ℕ) → l < 64 → key_line (key_of p l) ≡ l
line-of-key p l h = omega arith

pub key_back : (k : ℕ) → key_of (key_page k) (key_line k) ≡ k
key_back k = omega arith

pub key_apart : (p l q m : ℕ) → l < 64 → m < 64 → key_of p l ≡ key_of q m → (p ≡ q) × (l ≡ m)
key_apart p l q m a b e = (omega arith, omega arith)

-- those read
pub length-keys : (r : ℕ → ℕ) (z : Sizes) (n : ℕ) → length (keys_from r z n) ≡ 64
unfolding keys_from
length-keys r z n = length-filled (min n z.entries) (λ e. r (entry_word z e)) no_keys ∙ length-replicate {A = ℕ} 64 0

pub no_keys_are : (r : ℕ → ℕ) (z : Sizes) → keys_from r z 0 ≡ no_keys
unfolding keys_from filled up_to
no_keys_are r z = let e : min 0 z.entries ≡ 0 = omega arith in ap (λ (k : ℕ). filled k (λ d. r (entry_word z d)) no_keys) e

pub key-read : (r : ℕ → ℕ) (z : Sizes) (n e : ℕ) → z.entries ≤ 64 → n ≤ z.entries → e < n → get_or (keys_from r z n) e 0 ≡ r (entry_word z e)
unfolding keys_from
key-read r z n e h m l =
    get_or-filled (min n z.entries) (λ d. r (entry_word z d)) no_keys e 0 (omega arith) (omega (arith, length-replicate {A = ℕ} 64 0))

-- ---- the entry of a key

abbrev has : List ℕ → ℕ → ℕ → Bool
has keys k e = eqb (get_or keys e 0) k

pub entry-le : (keys : List ℕ) (n k : ℕ) → entry_of keys n k ≤ n
entry-le keys n k = first-le (has keys k) n

pub entry_found : (keys : List ℕ) (n k : ℕ) → entry_of keys n k < n → get_or keys (entry_of keys n k) 0 ≡ k
entry_found keys n k l = eqb-true (get_or keys (entry_of keys n k) 0) k (first_holds (has keys k) n l)

pub entry-before : (keys : List ℕ) (n k e : ℕ) → e < entry_of keys n k → get_or keys e 0 ≡ k → ⊥
entry-before keys n k e l q = contradicts (eq-eqb (get_or keys e 0) k q) (first-before (has keys k) n e l)

-- no entry has the key, so it has none
pub entry-none : (keys : List ℕ) (n k : ℕ) → ((e : ℕ) → e < n → get_or keys e 0 ≡ k → ⊥) → entry_of keys n k ≡ n
entry-none keys n k h =
    case_on (ltb (entry_of keys n k) n)
    (λ t.
    let l : entry_of keys n k < n = ltb-true (entry_of keys n k) n t in
    absurd (h (entry_of keys n k) l (entry_found keys n k l)))
    (λ t. le_antisymm (entry-le keys n k) (ltb-false (entry_of keys n k) n t))

-- ---- right entries

pub record Right (z : Sizes) (keys : List ℕ) (n : ℕ) : Type 0 where
  pub few : n ≤ z.entries
  pub page-low : (e : ℕ) → e < n → key_page (get_or keys e 0) < z.pages
  pub apart : (e d : ℕ) → e < n → d < e → get_or keys d 0 ≡ get_or keys e 0 → ⊥

-- none
pub none_right : (z : Sizes) (keys : List ℕ) → Right z keys 0
none_right z keys = record { few = omega arith; page-low = λ e l. absurd (omega arith); apart = λ e d l. absurd (omega arith) }

module _ (z : Sizes) (keys : List ℕ) (n : ℕ) where
  pub entries-right : entries_ok z keys n ≡ true → Right z keys n
  unfolding entries_ok
  entries-right h =
      let all : all_below n (key_right z keys) ≡ true = and_right (leb n z.entries) (all_below n (key_right z keys)) h in
      let low : ℕ → Bool = λ e. ltb (key_page (get_or keys e 0)) z.pages in
      let own : ℕ → Bool = λ e. eqb (entry_of keys e (get_or keys e 0)) e in
      record {
        few = leb-true n z.entries (and_left (leb n z.entries) (all_below n (key_right z keys)) h);
        page-low = λ e l. ltb-true (key_page (get_or keys e 0)) z.pages (and_left (low e) (own e) (all-at (key_right z keys) n e l all));
        apart = λ e d l m q.
            let x : entry_of keys e (get_or keys e 0) ≡ e = eqb-true (entry_of keys e (get_or keys e 0)) e (and_right (low e) (own e) (all-at (key_right z keys) n e l all)) in
            entry-before keys e (get_or keys e 0) d (omega arith) q;
      }

  pub right-entries : Right z keys n → entries_ok z keys n ≡ true
  unfolding entries_ok
  right-entries h =
      let all : all_below n (key_right z keys) ≡ true =
      all_made (key_right z keys) n
      (λ e l.
      rw (lt-ltb (key_page (get_or keys e 0)) z.pages (h.page-low e l))
      (eq-eqb (entry_of keys e (get_or keys e 0)) e (entry-none keys e (get_or keys e 0) (λ d m q. h.apart e d l m q)))) in
      rw (le-leb n z.entries h.few) all

  -- the entry of its own key
  pub entry-own : Right z keys n → (e : ℕ) → e < n → entry_of keys n (get_or keys e 0) ≡ e
  entry-own h e l =
      let k : ℕ = get_or keys e 0 in
      let x : ℕ = entry_of keys n k in
      case_on (ltb e x)
      (λ t. absurd (entry-before keys n k e (ltb-true e x t) refl))
      (λ t.
      let a : x ≤ e = ltb-false e x t in
      case_on (ltb x e)
      (λ u.
      let b : x < e = ltb-true x e u in
      absurd (h.apart e x l b (entry_found keys n k (omega arith))))
      (λ u. le_antisymm a (ltb-false x e u)))

  -- one more, of a line that had none
  pub right-more : Right z keys n → n < z.entries → z.entries ≤ length keys → (k : ℕ) → key_page k < z.pages → entry_of keys n k ≡ n → Right z (set keys n k) (n + 1)
  right-more h room long k low none =
      let here : get_or (set keys n k) n 0 ≡ k = get_or-set_same keys n k 0 (omega arith) in
      let kept : (e : ℕ) → e < n → get_or (set keys n k) e 0 ≡ get_or keys e 0 = λ e l. get_or-set_other keys n e k 0 (λ q. omega arith) in
      let page : (e : ℕ) → e < n + 1 → key_page (get_or (set keys n k) e 0) < z.pages =
      λ e l.
      split-last e n l
      (λ q. subst (λ (i : ℕ). key_page (get_or (set keys n k) i 0) < z.pages) (sym q) (subst (λ (i : ℕ). key_page i < z.pages) (sym here) low))
      (λ m. subst (λ (i : ℕ). key_page i < z.pages) (sym (kept e m)) (h.page-low e m)) in
      record {
        few = omega arith;
        page-low = page;
        apart = λ e d l m q.
            split-last e n l
            (λ o.
            let f : d < n = omega arith in
            entry-before keys n k d (omega arith) (sym (kept d f) ∙ q ∙ ap (λ (i : ℕ). get_or (set keys n k) i 0) o ∙ here))
            (λ o.
            let f : d < n = omega arith in
            h.apart e d o m (sym (kept d f) ∙ q ∙ kept e o));
      }
    where
      split-last : {X : Type 0} (e m : ℕ) → e < m + 1 → (e ≡ m → X) → (e < m → X) → X
      split-last e m l f g =
          case_on (ltb e m)
          (λ t. g (ltb-true e m t))
          (λ t. let a : m ≤ e = ltb-false e m t in f (omega arith))
