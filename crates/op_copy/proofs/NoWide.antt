-- The words of a wide transaction put.
use Prim.Native.Nat.{ℕ, suc, ◌+◌, ◌<◌, ◌≤◌}
use mathlib.Core.List.{List, [], ◌∷◌}
use mathlib.Core.Bool.{false}
use mathlib.Core.Path.{◌≡◌, refl, sym, ap, ◌∙◌}
use native.Mathlib.Omega.{arith}
use lib.ListN.{length, get_or, set, take, drop, length-drop}
use lib.Seq.{length-take-le, get_or-set_same}
use Rattle.bounded.specs.Tab.{tab, filled}
use Rattle.bounded.proofs.Tab.{tab-get_or, tab-ext, length-filled, get_or-filled}
use Rattle.entries.specs.Entries.{no_keys}
use Rattle.layout.specs.declared.Sizes.{Sizes}
use Rattle.state.specs.State.{State}
use Rattle.state.specs.Held.{let_go}
use Rattle.state.specs.Wide.{wide_of, no_wide}
use Rattle.refinement.specs.Settled.{with_wide}
use Rattle.refinement.specs.Commit.{closed_writer}
use Rattle.refinement.specs.Wide.{copy_done}
use Rattle.state_words.specs.Decoded.{start, size, part, flags, decoded, with_writers, with_held, with_opened, with_nothing}
use Rattle.state_words.proofs.DecodedLaws.{put-part}
use Rattle.op_copy.proofs.NoWriter.{open-past, held-past}

filled-all : (n : ℕ) (l : List ℕ) → length l ≡ n → filled n (λ i. 0) l ≡ tab n (λ i. 0)
filled-all n l h =
    sym (tab-get_or (filled n (λ i. 0) l) 0)
    ∙ ap (λ (k : ℕ). tab k (λ i. get_or (filled n (λ j. 0) l) i 0)) (length-filled n (λ i. 0) l ∙ h)
    ∙ tab-ext n _ _ (λ i k. get_or-filled n (λ j. 0) l i 0 k (omega (arith, h)))

no_keys_are : tab {A = ℕ} 64 (λ i. 0) ≡ no_keys
unfolding tab
no_keys_are = refl

keys-long : (c : List ℕ) → length c ≡ 1280 → length (decoded c).wide.keys ≡ 64
unfolding decoded part start size
keys-long c n =
    let more : 64 ≤ length (drop 184 c) = omega (arith, length-drop 184 c) in
    length-take-le 64 (drop 184 c) more

pub all_none : (c : List ℕ) → length c ≡ 1280 → filled 64 (λ i. 0) (decoded c).wide.keys ≡ no_keys
all_none c n = filled-all 64 (decoded c).wide.keys (keys-long c n) ∙ no_keys_are

module _ (c : List ℕ) where
  abbrev st : State
  st = decoded c

  pub key-put : (e v : ℕ) → e < 64 → decoded (set c (184 + e) v) ≡ with_wide st (wide_of st.wide.writer st.wide.count (set st.wide.keys e v))
  unfolding decoded start size
  key-put e v l = put-part c 17 e v (omega arith) l

  module _ (n : length c ≡ 1280) where
    one_word : (k v : ℕ) → start k < 1280 → size k ≡ 1 → get_or (set (part c k) 0 v) 0 0 ≡ v
    unfolding part
    one_word k v l e =
        let long : size k ≤ length (drop (start k) c) = omega (arith, length-drop (start k) c) in
        get_or-set_same (take (size k) (drop (start k) c)) 0 v 0 (omega (arith, length-take-le (size k) (drop (start k) c) long))

    pub wide-put : (v : ℕ) → decoded (set c 8 v) ≡ with_wide st (wide_of v st.wide.count st.wide.keys)
    unfolding decoded start size
    wide-put v = put-part c 5 0 v (omega arith) (omega arith) ∙ rw (one_word 5 v (omega arith) refl)

    pub count-put : (v : ℕ) → decoded (set c 9 v) ≡ with_wide st (wide_of st.wide.writer v st.wide.keys)
    unfolding decoded start size
    count-put v = put-part c 6 0 v (omega arith) (omega arith) ∙ rw (one_word 6 v (omega arith) refl)

-- the words with the keys emptied, then the two others: c is as at entry, d after the loop
pub none-put : (c d : List ℕ) → length c ≡ 1280 → length d ≡ 1280 → decoded d ≡ with_wide (decoded c) (wide_of (decoded c).wide.writer (decoded c).wide.count (filled 64 (λ i. 0) (decoded c).wide.keys))
    → length (set d 8 4) ≡ 1280 → decoded (set (set d 8 4) 9 0) ≡ with_wide (decoded c) no_wide
none-put c d n m e l =
    count-put (set d 8 4) l 0
    ∙ ap (λ (u : State). with_wide u (wide_of u.wide.writer 0 u.wide.keys)) (wide-put d m 4 ∙ ap (λ (u : State). with_wide u (wide_of 4 u.wide.count u.wide.keys)) e)
    ∙ ap (λ (k : List ℕ). with_wide (decoded c) (wide_of 4 0 k)) (all_none c n)

-- a writer closed: its held lines, then itself; and none where there is no such writer
pub closed : (st s1 s2 : State) (z : Sizes) (w : ℕ)
    → s1 ≡ with_writers st (with_held st.writers (let_go z st.writers.held w))
    → s2 ≡ with_writers s1 (with_opened s1.writers (set s1.writers.opened w false))
    → s2 ≡ with_writers st (closed_writer z st.writers w)
unfolding closed_writer
closed st s1 s2 z w e1 e2 = e2 ∙ ap (λ (u : State). with_writers u (with_opened u.writers (set u.writers.opened w false))) e1

length-flags : (l : List ℕ) → length (flags l) ≡ length l
unfolding flags
length-flags [] = refl
length-flags (x ∷ l) = ap suc (length-flags l)

pub closed_none : (c : List ℕ) (z : Sizes) (w : ℕ) → length c ≡ 1280 → 3 < w → decoded c ≡ with_writers (decoded c) (closed_writer z (decoded c).writers w)
unfolding closed_writer decoded part start size
closed_none c z w n l =
    let four : length (take 4 (drop 10 c)) ≡ 4 = length-take-le 4 (drop 10 c) (omega (arith, length-drop 10 c)) in
    let sixty-four : length (take 64 (drop 120 c)) ≡ 64 = length-take-le 64 (drop 120 c) (omega (arith, length-drop 120 c)) in
    let o = open-past (flags (take 4 (drop 10 c))) w (omega (arith, length-flags (take 4 (drop 10 c)), four)) in
    let h = held-past z (take 64 (drop 120 c)) w sixty-four l in
    rw (← o, ← h)

-- the three changes one after the other
pub copied : (st s1 s2 s3 : State) (z : Sizes) (w : ℕ) → z ≡ st.sizes → w ≡ st.wide.writer
    → s1 ≡ with_writers st (closed_writer z st.writers w) → s2 ≡ with_wide s1 no_wide → s3 ≡ with_nothing s2 → s3 ≡ copy_done st
copied st s1 s2 s3 z w ez ew e1 e2 e3 = e3 ∙ ap with_nothing (e2 ∙ ap (λ (u : State). with_wide u no_wide) e1) ∙ rw (ez, ew)
