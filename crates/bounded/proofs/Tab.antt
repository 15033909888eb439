-- Lists by their places: lengths, entries, and that a loop which sets places one after the other makes such a list.
use Prim.Native.Nat.{ℕ, zero, suc, ◌+◌, ◌-◌, ◌<◌, ◌≤◌}
use mathlib.Core.List.{List, [], ◌∷◌, ◌++◌, append_assoc, append-nil}
use mathlib.Core.Path.{◌≡◌, refl, sym, ap, ap₂, subst, ◌∙◌}
use lib.ListN.{length, get_or, set, take, drop, length-append, get_or-append, length-set}
use lib.Seq.{get_or_at, ext_get_or, drop-cons, set_at, get_or-set_same, get_or-set_other}
use native.Mathlib.Nat.{not-suc-le-zero}
use native.Mathlib.Numerals.{add-one}
use native.Mathlib.Omega.{arith}
use Rattle.bounded.specs.Below.{up_to}
use Rattle.bounded.specs.Tab.{tab, filled}
use Rattle.bounded.proofs.Below.{split_below, ends}

module _ {A : Type 0} where
  pub length-tab : (n : ℕ) (f : ℕ → A) → length (tab n f) ≡ n
  unfolding tab
  length-tab zero f = refl
  length-tab (suc n) f = length-append (tab n f) (f n ∷ []) ∙ ap (λ (k : ℕ). k + 1) (length-tab n f) ∙ add-one n

  pub get_or-tab : (n : ℕ) (f : ℕ → A) (i : ℕ) (d : A) → i < n → get_or (tab n f) i d ≡ f i
  unfolding tab
  get_or-tab zero f i d l = absurd (not-suc-le-zero l)
  get_or-tab (suc n) f i d l =
      split_below l
      (λ q. rw q (get_or_at (tab n f) (f n) [] d n (length-tab n f)))
      (λ lt. get_or-append (tab n f) (f n ∷ []) d i (subst (λ (k : ℕ). i < k) (sym (length-tab n f)) lt) ∙ get_or-tab n f i d lt)

  pub tab-ext : (n : ℕ) (f g : ℕ → A) → ((i : ℕ) → i < n → f i ≡ g i) → tab n f ≡ tab n g
  unfolding tab
  tab-ext zero f g h = refl
  tab-ext (suc n) f g h = ap₂ (λ (l : List A) (x : A). l ++ (x ∷ [])) (tab-ext n f g (λ i l. h i (omega arith))) (h n (omega arith))

  -- a list is made of its own entries
  pub tab-get_or : (l : List A) (d : A) → tab (length l) (λ i. get_or l i d) ≡ l
  tab-get_or l d =
      ext_get_or d (tab (length l) (λ i. get_or l i d)) l (length-tab (length l) (λ i. get_or l i d))
      (λ i p. get_or-tab (length l) (λ i. get_or l i d) i d (subst (λ (k : ℕ). i < k) (length-tab (length l) (λ i. get_or l i d)) p))

  pub tab-append : (m n : ℕ) (f : ℕ → A) → tab (m + n) f ≡ tab m f ++ tab n (λ i. f (m + i))
  unfolding tab
  tab-append m zero f = let e : m + 0 ≡ m = omega arith in ap (λ (k : ℕ). tab k f) e ∙ sym (append-nil (tab m f))
  tab-append m (suc n) f =
      let e : m + suc n ≡ suc (m + n) = omega arith in
      ap (λ (k : ℕ). tab k f) e
      ∙ ap (λ (l : List A). l ++ (f (m + n) ∷ [])) (tab-append m n f)
      ∙ append_assoc (tab m f) (tab n (λ i. f (m + i))) (f (m + n) ∷ [])

  -- ---- places set one after the other

  pub filled_none : (f : ℕ → A) (l : List A) → l ≡ filled 0 f l
  unfolding filled up_to
  filled_none f l = refl

  pub filled-turn : (f : ℕ → A) (l m : List A) (i : ℕ) (v : A) → m ≡ filled i f l → v ≡ f i → set m i v ≡ filled (i + 1) f l
  unfolding filled up_to
  filled-turn f l m i v e h = rw (add-one, e, h)

  pub filled-ends : (f : ℕ → A) (l m : List A) (n i : ℕ) → i ≤ n → n ≤ i → m ≡ filled i f l → m ≡ filled n f l
  filled-ends f l m n i a b e = e ∙ ends (λ k. filled k f l) n i a b

  pub length-filled : (n : ℕ) (f : ℕ → A) (l : List A) → length (filled n f l) ≡ length l
  unfolding filled up_to
  length-filled zero f l = refl
  length-filled (suc n) f l = length-set (filled n f l) n (f n) ∙ length-filled n f l

  pub get_or-filled : (n : ℕ) (f : ℕ → A) (l : List A) (i : ℕ) (d : A) → i < n → n ≤ length l → get_or (filled n f l) i d ≡ f i
  unfolding filled up_to
  get_or-filled zero f l i d p q = absurd (not-suc-le-zero p)
  get_or-filled (suc n) f l i d p q =
      split_below p
      (λ e. rw e (get_or-set_same (filled n f l) n (f n) d (subst (λ (k : ℕ). n < k) (sym (length-filled n f l)) q)))
      (λ lt. get_or-set_other (filled n f l) n i (f n) d (λ e. omega arith) ∙ get_or-filled n f l i d lt (omega arith))

  pub get_or-filled-past : (n : ℕ) (f : ℕ → A) (l : List A) (i : ℕ) (d : A) → n ≤ i → get_or (filled n f l) i d ≡ get_or l i d
  unfolding filled up_to
  get_or-filled-past zero f l i d p = refl
  get_or-filled-past (suc n) f l i d p =
      get_or-set_other (filled n f l) n i (f n) d (λ e. omega arith) ∙ get_or-filled-past n f l i d (omega arith)

  pub filled-ext : (n : ℕ) (f g : ℕ → A) (l : List A) → ((i : ℕ) → i < n → f i ≡ g i) → filled n f l ≡ filled n g l
  unfolding filled up_to
  filled-ext zero f g l h = refl
  filled-ext (suc n) f g l h = ap₂ (λ (m : List A) (x : A). set m n x) (filled-ext n f g l (λ i p. h i (omega arith))) (h n (omega arith))
