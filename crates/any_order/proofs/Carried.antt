-- What holds in order holds in any order: the state and the reference machine are the same, and a mount finds the same pages.
use Prim.Native.Nat.{ℕ, ◌≤◌}
use mathlib.Core.List.{List, [], ◌∷◌}
use mathlib.Core.Path.{◌≡◌, sym, ap, ap₂, ◌∙◌, subst}
use native.Mathlib.Omega.{arith}
use Rattle.layout.specs.declared.Sizes.{Sizes}
use Rattle.layout.proofs.LayoutLaws.{legal}
use Rattle.words.specs.Words.{word_at}
use Rattle.state.specs.State.{State}
use Rattle.refinement.specs.Stores.{World}
use Rattle.refinement.specs.Calls.{world_of}
use Rattle.refinement.specs.Run.{formatted_world, after}
use Rattle.refinement.specs.Reference.{Reference, blank, recall_line}
use Rattle.refinement.specs.Statement.{AllLent}
use Rattle.refinement.specs.Beside.{Finds, follows}
use Rattle.refinement.specs.Totals.{found, account, opened}
use Rattle.refinement.proofs.MetersAddUp.{meters-add-up}
use Rattle.refinement.proofs.MountReadsBack.{mount-reads-back}
use Rattle.refinement.proofs.Tally.{adds-ext}
use Rattle.any_order.specs.AnyOrder.{Machine, Act, call, cut, fence, AllMay, in_order, acted_by, formatted_machine, Holds}
use Rattle.any_order.specs.Carried.{Carried, MetersCarried}
use Rattle.any_order.proofs.Theorem.{any_order}

lent-in-order : (acts : List Act) (m : Machine) → AllMay acts m → AllLent (in_order acts)
lent-in-order [] m may = tt
lent-in-order (call c ∷ xs) m may = (may.0, lent-in-order xs _ may.1)
lent-in-order (cut image ∷ xs) m may = (tt, lent-in-order xs _ may.1)
lent-in-order (fence ∷ xs) m may = lent-in-order xs _ may.1

pub carried : Carried
carried P always z ok buffer bytes fits acts may =
    let start : Machine = formatted_machine z buffer in
    let H = any_order z ok buffer bytes fits acts may in
    subst (λ (s : State). P z buffer s (acted_by acts start).reference) (sym H.state)
    (subst (λ (b : Reference). P z buffer (after (in_order acts) (formatted_world z buffer)).st b) (sym H.reference)
    (always z ok buffer bytes fits (in_order acts) (lent-in-order acts start may)))

pub meters-carried : MetersCarried
meters-carried z ok buffer bytes fits acts may spare lend image torn =
    let start : Machine = formatted_machine z buffer in
    let m : Machine = acted_by acts start in
    let v : World = formatted_world z buffer in
    let w : World = after (in_order acts) v in
    let b : Reference = follows (in_order acts) v blank in
    let lent = lent-in-order acts start may in
    let H : Holds z buffer m w b = any_order z ok buffer bytes fits acts may in
    let cut-finds = (H.survives image torn).finds in
    let all_found : Finds z w (recall_line b) = (mount-reads-back z ok buffer bytes fits (in_order acts) lent).0 in
    let same : (k : ℕ) → k ≤ 23 → found w k ≡ found (world_of m.world.st image) k =
    λ k low.
    let pages = (legal z ok).pages-low in
    ap (λ (l : List ℕ). word_at l 0)
    (all_found.found 0 k (omega (arith, pages)) (omega (arith, low))
    ∙ sym (ap (λ (r : Reference). recall_line r 0 k) H.reference)
    ∙ sym (cut-finds.found 0 k (omega (arith, pages)) (omega (arith, low)))) in
    adds-ext (found w) (found (world_of m.world.st image)) (account (in_order acts) v blank opened) same
    (meters-add-up z ok buffer bytes fits (in_order acts) lent spare lend)
