-- On every list of calls where nothing but events writes to page 0 and each is lent the moduli last loaded, the meters that a mount finds are their numbers at
-- loading and the totals of the events completed since.
use Prim.Native.Nat.{ℕ, ◌+◌, ◌-◌, ◌%◌, ◌≤◌}
use mathlib.Core.Bool.{true, cond}
use mathlib.Core.List.{List, [], ◌∷◌, append-nil, append_assoc}
use mathlib.Core.Path.{◌≡◌, refl, sym, ap, ◌∙◌, subst}
use native.Mathlib.Nat.{zero-mod}
use native.Mathlib.Omega.{arith}
use lib.ListN.{drop}
use Rattle.bounded.specs.Tab.{tab}
use Rattle.bounded.proofs.Tests.{case_on, row-no}
use Rattle.layout.specs.declared.Sizes.{Sizes}
use Rattle.layout.specs.Layout.{sizes_ok, image_length}
use Rattle.layout.proofs.LayoutLaws.{legal}
use Rattle.words.specs.Words.{word_at, le_of, part}
use Rattle.meters.specs.Meters.{modulus_of, fixed_modulus, fixed_moduli}
use Rattle.meters.proofs.MeterLaws.{modulus-range, fixed-ok, fixed-modulus}
use Rattle.refinement.specs.Stores.{World}
use Rattle.refinement.specs.Run.{Call, Result, exec, formatted_world, after}
use Rattle.refinement.specs.Reference.{Reference, blank, meter_on, turn}
use Rattle.refinement.specs.Statement.{AllLent}
use Rattle.refinement.specs.Beside.{follows}
use Rattle.refinement.specs.Totals.{Move, completes, history, total, AllSpare, loads, found, Account, opened, gained, loaded, next, account, AllLend, NoLoad, AddUp, MetersAddUp, FixedMetersAddUp}
use Rattle.refinement.proofs.MountReadsBack.{reached-finds}
use Rattle.refinement.proofs.Reached.{Reached, reached-first, reached-next, reached}
use Rattle.refinement.proofs.Tally.{Tally, adds-ext}
use Rattle.refinement.proofs.TallyCall.{next-tally}

-- ---- a list of calls

-- the meters that a mount finds are the reference machine's
found-meter : {z : Sizes} {past : List ℕ} → sizes_ok z ≡ true → (v : World) (b : Reference) → Reached z past v b → (m : ℕ) → m ≤ 23 → found v m ≡ meter_on b m
found-meter {z} ok v b R m u = ap (λ (x : List ℕ). word_at x 0) ((reached-finds z v b R).found 0 m (omega (arith, (legal z ok).pages-low)) (omega (arith, u)))

tally : {z : Sizes} {past : List ℕ} → sizes_ok z ≡ true → (calls : List Call) → AllLent calls → (v : World) (b : Reference) (h : Account) → Reached z past v b
    → AllSpare calls v → AllLend calls v h.moduli → Tally b h → Tally (follows calls v b) (account calls v b h)
unfolding follows account AllSpare AllLend
tally ok [] lent v b h R s t T = T
tally ok (c ∷ cs) lent v b h R s t T =
    let d : Result = exec c v in
    let b' : Reference = turn c d.number d.stores b in
    let h' : Account = next c d v b h in
    let e : cond (loads c d.number) d.target h.moduli ≡ h'.moduli =
    case_on (loads c d.number) (λ x. rw x) (λ x. rw x) in
    tally ok cs lent.1 d.world b' h' (reached-next c lent.0 v b R) s.1 (subst (AllLend cs d.world) e t.1)
    (next-tally v b h R.related (found-meter ok v b R) T c s.0 t.0)

blank-meter : (m : ℕ) → meter_on blank m ≡ 0
unfolding word_at le_of part tab
blank-meter m = refl

blank-tally : Tally blank opened
unfolding total
blank-tally =
    record {
      clean = λ w l i. refl;
      adds =
          record {
            credit = omega (arith, blank-meter 0);
            in-range = omega (arith, blank-meter 0, (modulus-range fixed_moduli fixed-ok 0 (omega arith)).0);
            rolls = λ i l u. blank-meter i ∙ sym (zero-mod (modulus_of fixed_moduli i));
          };
      fits = tt;
    }

pub meters-add-up : MetersAddUp
meters-add-up z ok buffer bytes fits calls lent spare lend =
    let v₀ : World = formatted_world z buffer in
    let v : World = after calls v₀ in
    let b : Reference = follows calls v₀ blank in
    let R₀ = reached-first z ok buffer bytes fits in
    let R : Reached z (drop (image_length z) buffer) v b = reached calls lent v₀ blank R₀ in
    let T : Tally b (account calls v₀ blank opened) = tally ok calls lent v₀ blank opened R₀ spare lend blank-tally in
    adds-ext (meter_on b) (found v) (account calls v₀ blank opened) (λ m u. sym (found-meter ok v b R m u)) T.adds

-- ---- where no load is taken

no-load : (calls : List Call) (v : World) (b : Reference) (h : Account) → NoLoad calls v → account calls v b h ≡ gained h (history calls v b)
unfolding account history NoLoad
no-load [] v b h n = let e = append-nil h.since in let f = append-nil h.all in λ i. record { moduli = h.moduli; start = h.start; since = sym e i; all = sym f i }
no-load (c ∷ cs) v b h n =
    let d : Result = exec c v in
    let b' : Reference = turn c d.number d.stores b in
    let es : List Move = completes c d.number b in
    let rest : List Move = history cs d.world b' in
    let e : next c d v b h ≡ gained h es = sym (row-no (loads c d.number) (loaded h d.target v) (gained h es) (gained h es) n.0 refl) in
    let f = append_assoc h.since es rest in
    let g = append_assoc h.all es rest in
    ap (account cs d.world b') e ∙ no-load cs d.world b' (gained h es) n.1 ∙ (λ i. record { moduli = h.moduli; start = h.start; since = f i; all = g i })

credit-modulus : fixed_modulus 0 ≡ 100000000
unfolding fixed_modulus
credit-modulus = refl

pub fixed-meters-add-up : FixedMetersAddUp
fixed-meters-add-up z ok buffer bytes fits calls lent spare lend unloaded =
    let v₀ : World = formatted_world z buffer in
    let A : AddUp (found (after calls v₀)) (gained opened (history calls v₀ blank)) =
    subst (AddUp (found (after calls v₀))) (no-load calls v₀ blank opened unloaded) (meters-add-up z ok buffer bytes fits calls lent spare lend) in
    record {
      credit = A.credit;
      in-range = omega (arith, A.in-range, fixed-modulus 0 (omega arith), credit-modulus);
      rolls =
          λ m l u.
          let t : ℕ = total m (history calls v₀ blank) in
          let e : 0 + t ≡ t = omega arith in
          A.rolls m l u ∙ ap (λ (x : ℕ). x % modulus_of fixed_moduli m) e ∙ ap (λ (x : ℕ). t % x) (fixed-modulus m (omega (arith, u)));
    }
