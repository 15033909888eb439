-- The meters of the reference machine are the totals of the events completed, by induction over the list of calls.
use Prim.Native.Nat.{ℕ, zero, suc, ◌+◌, ◌-◌, ◌*◌, ◌%◌, ◌^◌, ◌<◌, ◌≤◌, min}
use mathlib.Core.Bool.{Bool, true, false, ◌&&◌, cond}
use mathlib.Core.List.{List, [], ◌∷◌, ◌++◌, append-nil, append_assoc}
use mathlib.Core.Logic.{inl}
use mathlib.Core.Path.{◌≡◌, refl, sym, ap, ap₂, ◌∙◌, subst}
use native.Mathlib.Nat.{mod-add-mod}
use native.Mathlib.Omega.{arith}
use lib.Dec.{ltb, leb, eqb}
use lib.ListN.{length, get_or}
use lib.Seq.{ext_get_or}
use borrow.Author.Tests.{eqb-true, eqb-false, eq-eqb, ne_eqb, ltb-true, ltb-false, lt-ltb, le-ltb}
use Rattle.bounded.specs.Tab.{tab}
use Rattle.bounded.proofs.Tab.{length-tab, get_or-tab, tab-ext}
use Rattle.bounded.proofs.Tests.{case_on, row-yes, row-no}
use Rattle.words.specs.Words.{over, bytes_of, word_at, word, put_word, store}
use Rattle.words.proofs.Bytes.{length-bytes}
use Rattle.words.proofs.Parts.{length_over, get_d_over, get_or-over-other}
use Rattle.words.proofs.WordLaws.{word-store}
use Rattle.meters.specs.Meters.{moduli_ok, modulus_of, event_known, moves_credit, first_meter, own_meter, adds, rolled, credit_after, first_number, credit_bad, amount_bad}
use Rattle.meters.proofs.MeterLaws.{modulus-range, rolled-low, of-credit, of-count, own_range, credit-adds, credit-takes, credit-low, credit-fine, first-number-low}
use Rattle.refinement.specs.Reference.{Reference, Cell, none, laid_over, with_meter, first_moved, moved, meter_on, recall_line}
use Rattle.refinement.specs.Totals.{Move, total, Account, gained, AddUp}

-- ---- a number put on the pages

module _ (b : Reference) (i v : ℕ) where
  abbrev line : List ℕ
  line = recall_line b 0 i

  abbrev new : ℕ → ℕ
  new x = cond (eqb 0 0 && eqb i i && ltb x 8) (get_or (bytes_of 8 v) x 0) (b.pages 0 i x)

  line-put : recall_line (with_meter i v b) 0 i ≡ store line 0 v
  unfolding put_word
  line-put =
      let sized : length line ≡ 64 = length-tab 64 (b.pages 0 i) in
      let eight : length (bytes_of 8 v) ≡ 8 = length-bytes 8 v in
      let fits : 0 + length (bytes_of 8 v) ≤ length line = omega arith in
      ext_get_or 0 (tab 64 new) (over line 0 (bytes_of 8 v)) (length-tab 64 new ∙ sym (length_over line 0 (bytes_of 8 v) fits ∙ sized))
      (λ x m'.
      let m : x < 64 = omega (arith, m', length-tab 64 new) in
      get_or-tab 64 new x 0 m
      ∙ case_on (ltb x 8)
      (λ t.
      let e : x ≡ x - 0 = omega arith in
      rw (eq-eqb i i refl, t) (ap (λ (y : ℕ). get_or (bytes_of 8 v) y 0) e ∙ sym (get_d_over line 0 (bytes_of 8 v) fits x (omega arith) (omega (arith, ltb-true x 8 t, eight)))))
      (λ t. rw (eq-eqb i i refl, t) (sym (get_or-over-other line 0 (bytes_of 8 v) fits x (inl (omega (arith, ltb-false x 8 t, eight))) ∙ get_or-tab 64 (b.pages 0 i) x 0 m))))

  pub meter-put : v < 1000000000000 → meter_on (with_meter i v b) i ≡ v
  meter-put l = ap (λ (x : List ℕ). word_at x 0) line-put ∙ word-store line 0 v (omega (arith, length-tab 64 (b.pages 0 i))) (omega arith)

pub meter-kept : (b : Reference) (i v j : ℕ) → (j ≡ i → ⊥) → meter_on (with_meter i v b) j ≡ meter_on b j
meter-kept b i v j n =
    ap (λ (x : List ℕ). word_at x 0)
    (tab-ext 64 (λ x. cond (eqb 0 0 && eqb j i && ltb x 8) (get_or (bytes_of 8 v) x 0) (b.pages 0 j x)) (b.pages 0 j) (λ x m. rw (ne_eqb j i n)))

-- ---- the totals with one event more

abbrev one : ℕ → ℕ → ℕ → List Move
one k m a = record { kind = k; meter = m; amount = a } ∷ []

abbrev part : ℕ → ℕ → ℕ → ℕ → ℕ
part i k m a = cond (eqb (own_meter k m) i) a 0

total-more : (i : ℕ) (h : List Move) (k m a : ℕ) → total i (h ++ one k m a) ≡ total i h + part i k m a
unfolding total
total-more i [] k m a = omega arith
total-more i (e ∷ h) k m a =
    let q = total-more i h k m a in
    omega (arith, q)

part-own : (i k m a : ℕ) → own_meter k m ≡ i → part i k m a ≡ a
part-own i k m a e = sym (row-yes (eqb (own_meter k m) i) a 0 (eq-eqb (own_meter k m) i e))

part-other : (i k m a : ℕ) → (own_meter k m ≡ i → ⊥) → part i k m a ≡ 0
part-other i k m a n = sym (row-no (eqb (own_meter k m) i) a 0 0 (ne_eqb (own_meter k m) i n) refl)

module _ (b : Reference) (h : Account) (k m a : ℕ) (known : event_known k m ≡ true) (ok : moduli_ok h.moduli ≡ true) (fine : amount_bad h.moduli k m (meter_on b (first_meter k m)) a ≡ false) (A : AddUp (meter_on b) h) where
  abbrev ms : List ℕ
  ms = h.moduli

  abbrev es : List Move
  es = h.since

  abbrev own : ℕ
  own = own_meter k m

  abbrev number : ℕ
  number = rolled ms own (meter_on b own) a

  abbrev first : Reference
  first = first_moved ms k m a b

  own-low : own < 24
  own-low = (own_range k m known).1

  number-low : number < 1000000000000
  number-low = omega (arith, rolled-low ms ok own (meter_on b own) a own-low, (modulus-range ms ok own own-low).1)

  -- a meter that rolls rolls on
  rolls-on : rolled ms own (meter_on b own) a ≡ (h.start own + total own (es ++ one k m a)) % modulus_of ms own
  rolls-on =
      let e : h.start own + total own es + a ≡ h.start own + total own (es ++ one k m a) = omega (arith, total-more own es k m a, part-own own k m a refl) in
      ap (λ (x : ℕ). (x + a) % modulus_of ms own) (A.rolls own (own_range k m known).0 (omega (arith, own-low)))
      ∙ mod-add-mod (h.start own + total own es) (modulus_of ms own) a
      ∙ ap (λ (x : ℕ). x % modulus_of ms own) e

  -- and so does another, which is not moved
  stays : (i : ℕ) → 1 ≤ i → i ≤ 23 → (own ≡ i → ⊥) → meter_on b i ≡ (h.start i + total i (es ++ one k m a)) % modulus_of ms i
  stays i l u n =
      let e : h.start i + total i (es ++ one k m a) ≡ h.start i + total i es = omega (arith, total-more i es k m a, part-other i k m a n) in
      A.rolls i l u ∙ ap (λ (x : ℕ). x % modulus_of ms i) (sym e)

  more : (i : ℕ) → total i (h.all ++ one k m a) ≡ total i h.all + part i k m a
  more i = total-more i h.all k m a

  -- ---- an event that moves credit

  module _ (t : moves_credit k ≡ true) where
    zero-first : first_meter k m ≡ 0
    zero-first = sym (row-yes (moves_credit k) 0 m t)

    own-kind : own ≡ k
    own-kind = sym (row-yes (moves_credit k) k m t)

    after-credit : moved ms k m a b ≡ with_meter own number first
    after-credit = sym (row-yes (moves_credit k) (with_meter own number first) first t)

    own-some : own ≡ 0 → ⊥
    own-some e = omega (arith, (own_range k m known).0)

    first-new : meter_on first 0 ≡ credit_after k (meter_on b 0) a
    first-new =
        let low = first-number-low ms k m (meter_on b (first_meter k m)) a fine ok known in
        subst (λ (x : ℕ). meter_on first x ≡ first_number ms k m (meter_on b x) a) zero-first (meter-put b (first_meter k m) (first_number ms k m (meter_on b (first_meter k m)) a) low)
        ∙ sym (row-yes (moves_credit k) (credit_after k (meter_on b 0) a) (rolled ms m (meter_on b 0) a) t)

    first-kept : (i : ℕ) → 1 ≤ i → meter_on first i ≡ meter_on b i
    first-kept i l = meter-kept b (first_meter k m) (first_number ms k m (meter_on b (first_meter k m)) a) i (λ e. omega (arith, e, zero-first, l))

    credit_new : meter_on (moved ms k m a b) 0 ≡ credit_after k (meter_on b 0) a
    credit_new = ap (λ (c : Reference). meter_on c 0) after-credit ∙ meter-kept first own number 0 (λ e. own-some (sym e)) ∙ first-new

    fine-credit : credit_bad ms k (meter_on b 0) a ≡ false
    fine-credit = subst (λ (x : ℕ). credit_bad ms k (meter_on b x) a ≡ false) zero-first (credit-fine ms k m (meter_on b (first_meter k m)) a fine t)

    part-is : (i : ℕ) → part i k m a ≡ cond (eqb k i) a 0
    part-is i = ap (λ (x : ℕ). cond (eqb x i) a 0) own-kind

    -- by the four kinds
    abbrev Holds : ℕ → Type 0
    Holds x =
        credit_bad ms x (meter_on b 0) a ≡ false
        → credit_after x (meter_on b 0) a + (total 2 h.all + cond (eqb x 2) a 0) + (total 3 h.all + cond (eqb x 3) a 0) ≡ (total 1 h.all + cond (eqb x 1) a 0) + (total 4 h.all + cond (eqb x 4) a 0)

    of_four : (x : ℕ) → 1 ≤ x → x ≤ 4 → Holds x
    of_four x l u =
        let old : meter_on b 0 + total 2 h.all + total 3 h.all ≡ total 1 h.all + total 4 h.all = A.credit in
        case_on (eqb x 1)
        (λ e. subst Holds (sym (eqb-true x 1 e)) (λ f. omega (arith, old)))
        (λ n₁.
        case_on (eqb x 2)
        (λ e. subst Holds (sym (eqb-true x 2 e)) (λ f. omega (arith, old, (credit-takes ms 2 (meter_on b 0) a f refl).0)))
        (λ n₂.
        case_on (eqb x 3)
        (λ e. subst Holds (sym (eqb-true x 3 e)) (λ f. omega (arith, old, (credit-takes ms 3 (meter_on b 0) a f refl).0)))
        (λ n₃.
        let e₁ : x ≡ 1 → ⊥ = eqb-false x 1 n₁ in
        let e₂ : x ≡ 2 → ⊥ = eqb-false x 2 n₂ in
        let e₃ : x ≡ 3 → ⊥ = eqb-false x 3 n₃ in
        let e : x ≡ 4 = omega (arith, l, u) in
        subst Holds (sym e) (λ f. omega (arith, old)))))

    credit-adds-up : AddUp (meter_on (moved ms k m a b)) (gained h (one k m a))
    credit-adds-up =
        record {
          credit =
              ap₂ (λ (x y : ℕ). x + y) (ap₂ (λ (x y : ℕ). x + y) credit_new (more 2 ∙ ap (λ (x : ℕ). total 2 h.all + x) (part-is 2))) (more 3 ∙ ap (λ (x : ℕ). total 3 h.all + x) (part-is 3))
              ∙ of_four k (of-credit k m known t).some (of-credit k m known t).most fine-credit
              ∙ sym (ap₂ (λ (x y : ℕ). x + y) (more 1 ∙ ap (λ (x : ℕ). total 1 h.all + x) (part-is 1)) (more 4 ∙ ap (λ (x : ℕ). total 4 h.all + x) (part-is 4)));
          in-range = omega (arith, credit_new, credit-low ms k (meter_on b 0) a fine-credit);
          rolls =
              λ i l u.
              ap (λ (c : Reference). meter_on c i) after-credit
              ∙ case_on (eqb own i)
              (λ e. subst (λ (j : ℕ). meter_on (with_meter own number first) j ≡ (h.start j + total j (es ++ one k m a)) % modulus_of ms j) (eqb-true own i e) (meter-put first own number number-low ∙ rolls-on))
              (λ e. meter-kept first own number i (λ q. eqb-false own i e (sym q)) ∙ first-kept i l ∙ stays i l u (eqb-false own i e));
        }

  -- ---- a count

  module _ (t : moves_credit k ≡ false) where
    meter-first : first_meter k m ≡ own
    meter-first = sym (row-no (moves_credit k) 0 m m t refl) ∙ row-no (moves_credit k) k m m t refl

    after-count : moved ms k m a b ≡ first
    after-count = sym (row-no (moves_credit k) (with_meter own number first) first first t refl)

    own-five : 5 ≤ own
    own-five = let e : m ≡ own = row-no (moves_credit k) k m m t refl in omega (arith, e, (of-count k m known t).some)

    count-new : meter_on first own ≡ number
    count-new =
        let low = first-number-low ms k m (meter_on b (first_meter k m)) a fine ok known in
        let e : m ≡ own = row-no (moves_credit k) k m m t refl in
        subst (λ (x : ℕ). meter_on first x ≡ first_number ms k m (meter_on b x) a) meter-first (meter-put b (first_meter k m) (first_number ms k m (meter_on b (first_meter k m)) a) low)
        ∙ sym (row-no (moves_credit k) (credit_after k (meter_on b own) a) (rolled ms m (meter_on b own) a) (rolled ms m (meter_on b own) a) t refl)
        ∙ ap (λ (x : ℕ). rolled ms x (meter_on b own) a) e

    count_kept : (i : ℕ) → (own ≡ i → ⊥) → meter_on first i ≡ meter_on b i
    count_kept i n = meter-kept b (first_meter k m) (first_number ms k m (meter_on b (first_meter k m)) a) i (λ e. n (sym (e ∙ meter-first)))

    nothing : (i : ℕ) → i < 5 → total i (h.all ++ one k m a) ≡ total i h.all
    nothing i l = omega (arith, more i, part-other i k m a (λ e. omega (arith, e, l, own-five)))

    count-adds-up : AddUp (meter_on (moved ms k m a b)) (gained h (one k m a))
    count-adds-up =
        let same : meter_on (moved ms k m a b) 0 ≡ meter_on b 0 = ap (λ (c : Reference). meter_on c 0) after-count ∙ count_kept 0 (λ e. omega (arith, e, own-five)) in
        record {
          credit = omega (arith, same, nothing 1 (omega arith), nothing 2 (omega arith), nothing 3 (omega arith), nothing 4 (omega arith), A.credit);
          in-range = omega (arith, same, A.in-range);
          rolls =
              λ i l u.
              ap (λ (c : Reference). meter_on c i) after-count
              ∙ case_on (eqb own i)
              (λ e. subst (λ (j : ℕ). meter_on first j ≡ (h.start j + total j (es ++ one k m a)) % modulus_of ms j) (eqb-true own i e) (count-new ∙ rolls-on))
              (λ e. count_kept i (eqb-false own i e) ∙ stays i l u (eqb-false own i e));
        }

  pub moved-adds-up : AddUp (meter_on (moved ms k m a b)) (gained h (one k m a))
  moved-adds-up = case_on (moves_credit k) credit-adds-up count-adds-up
