-- A line that no other writer holds becomes held.
use Prim.Native.Nat.{ℕ, zero, suc, ◌+◌, ◌*◌, ◌^◌, ◌<◌}
use mathlib.Core.Bool.{Bool, true, false, ◌&&◌, and-false}
use mathlib.Core.List.{List}
use mathlib.Core.Path.{◌≡◌, sym, ap, ◌∙◌, subst}
use native.Mathlib.Omega.{arith}
use native.Mathlib.Nat.{pow-suc}
use lib.Bits.{bit_and}
use lib.Dec.{eqb}
use lib.ListN.{length, set}
use lib.Pow.{pow_pos}
use lib.Seq.{get_or-set_same, get_or-set_other}
use borrow.Author.Tests.{eqb-true, eqb-false, eq-eqb}
use Rattle.bounded.proofs.Tests.{case_on}
use Rattle.layout.specs.declared.Sizes.{Sizes}
use Rattle.layout.specs.Layout.{Legal}
use Rattle.journal.specs.declared.Slot.{Slot}
use Rattle.journal.specs.Slots.{no_page}
use Rattle.masks.specs.Lines.{in_mask, with_line, disjoint}
use Rattle.masks.proofs.Bits.{in_and, in-ext}
use Rattle.masks.proofs.Members.{in-none, in-with-same, in-with-other, with-lt, same-members}
use Rattle.masks.proofs.Disjoint.{disjoint-at, disjoint-sym}
use Rattle.state.specs.Held.{is_open, held_at}
use Rattle.refinement.proofs.ValidWriters.{HeldFine}

-- ---- sets of any numbers

below_power : (m : ℕ) → m < 2 ^ m
below_power zero = omega arith
below_power (suc m) = omega (arith, below_power m, pow-suc 2 m)

pub disjoint-all : (a b : ℕ) → ((i : ℕ) → in_mask a i ≡ true → in_mask b i ≡ false) → disjoint a b ≡ true
unfolding disjoint
disjoint-all a b f =
    eq-eqb (bit_and a b) 0
    (in-ext (bit_and a b) (bit_and a b) 0 (below_power (bit_and a b)) (pow_pos (bit_and a b))
    (λ i l.
    in_and a b i
    ∙ case_on (in_mask a i)
    (λ t. ap (λ (x : Bool). in_mask a i && x) (f i t) ∙ and-false (in_mask a i))
    (λ t. ap (λ (x : Bool). x && in_mask b i) t)
    ∙ sym (in-none i)))

-- a line that is not in b may join a
pub disjoint-join : (a b i : ℕ) → disjoint a b ≡ true → in_mask b i ≡ false → disjoint (with_line a i) b ≡ true
disjoint-join a b i e n =
    disjoint-all (with_line a i) b
    (λ j t.
    case_on (eqb i j)
    (λ q. ap (in_mask b) (sym (eqb-true i j q)) ∙ n)
    (λ q. disjoint-at a b e j (sym (in-with-other a i j (eqb-false i j q)) ∙ t)))

-- a line that is in a joins it again
pub with-again : (a i : ℕ) → a < 2 ^ 64 → i < 64 → in_mask a i ≡ true → with_line a i ≡ a
with-again a i h k e =
    same-members (with_line a i) a (with-lt a i h k) h
    (λ j _.
    case_on (eqb i j)
    (λ q. ap (in_mask (with_line a i)) (sym (eqb-true i j q)) ∙ in-with-same a i ∙ sym e ∙ ap (in_mask a) (eqb-true i j q))
    (λ q. in-with-other a i j (eqb-false i j q)))

-- ---- one mask of a writer and a slot changes

module _ (held : List ℕ) (w s m : ℕ) (full : length held ≡ 64) (writer : w < 4) (slot : s < 16) where
  pub held_same : held_at (set held (16 * w + s) m) w s ≡ m
  held_same = get_or-set_same held (16 * w + s) m 0 (omega arith)

  pub held-slot : (v k : ℕ) → k < 16 → (k ≡ s → ⊥) → held_at (set held (16 * w + s) m) v k ≡ held_at held v k
  held-slot v k l n = get_or-set_other held (16 * w + s) (16 * v + k) m 0 (λ e. n (omega arith))

  pub held-writer : (v k : ℕ) → k < 16 → (v ≡ w → ⊥) → held_at (set held (16 * w + s) m) v k ≡ held_at held v k
  held-writer v k l n = get_or-set_other held (16 * w + s) (16 * v + k) m 0 (λ e. n (omega arith))

module _ (z : Sizes) (g : Legal z) (f : ℕ → Slot) (opened : List Bool) (held : List ℕ) (w s l : ℕ) (full : length held ≡ 64) (writer : w < 4) (slot : s < z.slots) where
  abbrev after : List ℕ
  after = set held (16 * w + s) (with_line (held_at held w s) l)

  pub line-put : HeldFine z f opened held → is_open opened w ≡ true → ((f s).page ≡ no_page → ⊥) → ((v : ℕ) → v < 4 → (v ≡ w → ⊥) → in_mask (held_at held v s) l ≡ false)
      → HeldFine z f opened after
  line-put h o p free =
      let m = with_line (held_at held w s) l in
      let low : s < 16 = omega arith in
      let old-slot = held-slot held w s m full writer low in
      let old-writer = held-writer held w s m full writer low in
      -- the writer's mask and another's of the slot
      let new : (v : ℕ) → v < 4 → (v ≡ w → ⊥) → disjoint (held_at after w s) (held_at after v s) ≡ true =
      λ v j n.
      subst (λ (x : ℕ). disjoint x (held_at after v s) ≡ true) (sym (held_same held w s m full writer low))
      (subst (λ (x : ℕ). disjoint m x ≡ true) (sym (old-writer v s low n))
      (disjoint-join (held_at held w s) (held_at held v s) l (h.apart s w v slot writer j (λ e. n (sym e))) (free v j n))) in
      record {
        opens =
            λ k v i j n.
            case_on (eqb v w)
            (λ e. subst (λ (x : ℕ). is_open opened x ≡ true) (sym (eqb-true v w e)) o)
            (λ e. h.opens k v i j (subst (λ (x : ℕ). x ≡ 0 → ⊥) (old-writer v k (omega arith) (eqb-false v w e)) n));
        owned =
            λ k v i j n.
            case_on (eqb k s)
            (λ e. subst (λ (x : ℕ). (f x).page ≡ no_page → ⊥) (sym (eqb-true k s e)) p)
            (λ e. h.owned k v i j (subst (λ (x : ℕ). x ≡ 0 → ⊥) (old-slot v k (omega arith) (eqb-false k s e)) n));
        apart =
            λ k u v i a b d.
            case_on (eqb k s)
            (λ e.
            subst (λ (x : ℕ). disjoint (held_at after u x) (held_at after v x) ≡ true) (sym (eqb-true k s e))
            (case_on (eqb u w)
            (λ q.
            let r : u ≡ w = eqb-true u w q in
            subst (λ (x : ℕ). disjoint (held_at after x s) (held_at after v s) ≡ true) (sym r) (new v b (λ x. d (r ∙ sym x))))
            (λ q.
            case_on (eqb v w)
            (λ y.
            let r : v ≡ w = eqb-true v w y in
            subst (λ (x : ℕ). disjoint (held_at after u s) (held_at after x s) ≡ true) (sym r)
            (disjoint-sym (held_at after u s) (held_at after w s) ∙ new u a (eqb-false u w q)))
            (λ y. rw (old-writer u s low (eqb-false u w q), old-writer v s low (eqb-false v w y)) (h.apart s u v slot a b d)))))
            (λ e.
            let n = eqb-false k s e in
            rw (old-slot u k (omega arith) n, old-slot v k (omega arith) n) (h.apart k u v i a b d));
      }
