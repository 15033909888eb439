-- The stores that a line made; a format's; and counts with them added.
use Rattle.std.proofs.Common.{◌≡◌, ℕ, ◌+◌, ◌-◌, ◌%◌, ◌^◌, ◌<◌, ◌≤◌, min, Bool, true, false, cond, not, eqb, List, ◌∷◌, length, get_or, replicate, sym, refl, ap, ◌∙◌, subst, ap₂, arith, eq-eqb, eqb-true}
use borrow.Author.Tests.{eqb-false}
use Rattle.bounded.specs.Below.{count_below}
use Rattle.bounded.proofs.Below.{count-ext}
use Rattle.bounded.proofs.Rows.{none-apply}
use Rattle.bounded.proofs.Tab.{get_or-filled}
use Rattle.bounded.proofs.Tests.{case_on}
use Rattle.layout.specs.declared.Sizes.{Sizes}
use Rattle.layout.specs.Layout.{Legal, sizes_ok, image_words}
use Rattle.layout.proofs.LayoutLaws.{legal}
use Rattle.fresh.specs.Fresh.{format_row, format_rows}
use Rattle.state.specs.State.{State}
use Rattle.state.specs.declared.Op.TheVariants.{Format}
use Rattle.operations.specs.Operations.{needs}
use Rattle.refinement.specs.Stores.{World, left, store_at}
use Rattle.refinement.specs.Calls.{world_of, step_row, run_of}
use Rattle.refinement.specs.Mount.{fresh_state, format_of}
use Rattle.refinement.specs.Run.{Result, result, exec, run}
use Rattle.refinement.proofs.FormatAsked.{formatting, format-left}
use Rattle.refinement.proofs.Quiet.{busy}
use Rattle.refinement.proofs.Valid.{legal-sizes}
use Rattle.call_mount.specs.Replacing.{replacing}
use Rattle.std.specs.Prelude.{Option}
use Rattle.executing.specs.Called.{budget, finished}
use Rattle.placing.specs.Placing.{Placed}
use Rattle.placing.proofs.Placed.{each_placed}
use Rattle.wear.specs.declared.shares.Ends.{Ends}
use Rattle.wear.specs.Wear.{wear_of, word_of, worn_by, stores_in}
use Rattle.wear.specs.Shares.{wear_at, format_ends, counted}
use Rattle.wear.specs.Performs.{Adds}
use Rattle.wear.proofs.Laid.{Laid, laid-wear, format-laid}

-- ---- a call's stores are made by a run of it that row 8 takes

pub record Ran (v : World) (n : ℕ) : Type 0 where
  pub legal : Legal v.st.sizes
  pub row : step_row v.st v.image ≡ 0
  pub few : n ≤ left v.st

pub made-ran : (letter : ℕ) (cut : Option ℕ) (d : Result) → (stores_in (finished letter cut d).output ≡ 0 → ⊥)
    → (d.stores ≡ 0 → ⊥) × Ran d.world (stores_in (finished letter cut d).output)
unfolding finished exec run_of
made-ran letter cut d some =
    let v = d.world in
    let k = budget cut d.stores in
    case_on (eqb d.stores 0)
    (λ t. absurd (some (rw t)))
    (λ t.
    case_on (eqb (step_row v.st v.image) 0)
    (λ u.
    let row = eqb-true (step_row v.st v.image) 0 u in (
      eqb-false d.stores 0 t,
      record {
        legal = legal-sizes v.st (busy v.st (length v.image) (step_row v.st v.image) refl row).ok;
        row = row;
        few = rw (t, u) (omega arith);
      },
    ))
    (λ u. absurd (some (rw (t, u)))))

-- ---- a format

module _ (st : State) (z : Sizes) (img : List ℕ) (taken : (format_of z img).number ≡ 0) where
  abbrev asks : World
  asks = world_of (replacing st (format_of z img)).state img

  row : format_row z img ≡ 0
  unfolding format_of
  row = taken

  pub format-legal : Legal z
  format-legal =
      let h = none-apply (format_rows z (length img)) (omega arith) row in
      legal z (case_on (sizes_ok z) (λ t. t) (λ t. absurd (true-false (sym (ap not t) ∙ h.0))))
    where
      true-false : true ≡ false → ⊥
      true-false e = let x : ◌≡◌ {A = ℕ} 1 0 = ap (λ (b : Bool). cond b 1 0) e in omega arith

  pub format-asks : asks ≡ world_of (formatting z) img
  unfolding format_of
  format-asks = rw (eq-eqb (format_row z img) 0 row)

-- of sizes z, pending with no store made
format-word : (z : Sizes) → Legal z → (img : List ℕ) (i : ℕ) → i ≤ image_words z → Laid z (format_ends z) (word_of (world_of (formatting z) img) i) i
format-word z ok img i low =
    let s = formatting z in
    let p : Placed s img = each_placed s img ok in
    let none : 0 + i ≡ i = omega arith in
    subst (λ (x : ℕ). Laid z (format_ends z) (store_at s Format x) i) (sym none)
    (format-laid z ok (store_at s Format i) i low (p.first i) (p.rising i)
    (λ e. let q : store_at s Format i ≡ 3 = ap (store_at s Format) e ∙ p.last in omega (arith, q)))

pub format-worn : (st : State) (z : Sizes) (img : List ℕ) → (format_of z img).number ≡ 0 → (n : ℕ)
    → (let v = world_of (replacing st (format_of z img)).state img in
    n ≤ left v.st → (w : Bool) (k : ℕ) → worn_by v w n k ≡ count_below n (λ i. wear_at (format_ends z) w i k))
unfolding worn_by
format-worn st z img taken n few w k =
    let ok = format-legal st z img taken in
    let v = world_of (formatting z) img in
    let same = format-asks st z img taken in
    let all : left (formatting z) ≡ image_words z + 1 = format-left z ok in
    let low : n ≤ left (formatting z) = subst (λ (u : World). n ≤ left u.st) same few in
    ap (λ (u : World). worn_by u w n k) same
    ∙ count-ext (λ i. wear_of z w (word_of v i) k) (λ i. wear_at (format_ends z) w i k) n
    (λ i l. laid-wear z (format_ends z) (word_of v i) i (format-word z ok img i (omega arith)) w k)

-- ---- the counts

-- no store made
pub adds_none : (counts : List ℕ) (more : ℕ → ℕ) → ((k : ℕ) → more k ≡ 0) → Adds counts more counts
adds_none counts more none =
    record { sums = λ worn h k l. h k l ∙ ap (λ (x : ℕ). x % 2 ^ 64) (omega (arith, none k)) }

pub adds-counted : (e : Ends) (w : Bool) (n : ℕ) (counts counts' : List ℕ) (more : ℕ → ℕ) → length counts ≡ 22 → counts' ≡ counted e w n counts
    → ((k : ℕ) → more k ≡ count_below n (λ i. wear_at e w i k)) → Adds counts more counts'
adds-counted e w n counts counts' more size q same =
    record {
      sums = λ worn h k l.
          let f : ℕ → ℕ = λ j. (get_or counts j 0 + count_below n (λ i. wear_at e w i j)) % 2 ^ 64 in
          ap (λ (x : List ℕ). get_or x k 0) q
          ∙ get_or-filled 22 f counts k 0 l (omega arith)
          ∙ ap₂ (λ (x y : ℕ). (x + y) % 2 ^ 64) (h k l) (sym (same k))
          ∙ mod-sum (worn k) (more k);
    }
  where
    mod-sum : (x y : ℕ) → (x % 2 ^ 64 + y) % 2 ^ 64 ≡ (x + y) % 2 ^ 64
    mod-sum x y = omega arith

-- none of n = 0 stores count
pub worn-none : (v : World) (w : Bool) (n k : ℕ) → n ≡ 0 → worn_by v w n k ≡ 0
unfolding worn_by count_below
worn-none v w n k e = rw e
