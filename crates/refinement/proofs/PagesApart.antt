-- Slots that have no page both have their pages apart, as a mount asks for.
use Prim.Native.Nat.{ℕ, ◌<◌}
use mathlib.Core.Bool.{true, not}
use mathlib.Core.Path.{◌≡◌, ap}
use lib.Dec.{eqb}
use borrow.Author.Tests.{eqb-false, ne_eqb}
use Rattle.bounded.proofs.Below.{all_made}
use Rattle.bounded.proofs.Tests.{case_on}
use Rattle.layout.specs.declared.Sizes.{Sizes}
use Rattle.replay.specs.declared.Table.{Table}
use Rattle.journal.specs.Slots.{no_page}
use Rattle.replay.specs.Table.{slot_in, pages_apart, page_apart}

pub apart-made : (z : Sizes) (t : Table) → ((s k : ℕ) → s < z.slots → k < s → ((slot_in t s).page ≡ no_page → ⊥) → (slot_in t s).page ≡ (slot_in t k).page → ⊥) → pages_apart z t.page ≡ true
apart-made z t h =
    all_made (page_apart t.page) z.slots
    (λ s l.
    case_on (eqb (slot_in t s).page no_page)
    (λ e. rw e)
    (λ e.
    rw e
    (all_made (λ k. not (eqb (slot_in t s).page (slot_in t k).page)) s
    (λ k m. ap not (ne_eqb (slot_in t s).page (slot_in t k).page (h s k l m (eqb-false (slot_in t s).page no_page e)))))))
