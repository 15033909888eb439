-- Where the stores of a round's operations go.
use Prim.Native.Nat.{ℕ, ◌+◌, ◌*◌, ◌<◌, ◌≤◌}
use mathlib.Core.List.{[]}
use mathlib.Core.Logic.{inl, inr}
use mathlib.Core.Path.{◌≡◌, refl, sym, subst}
use native.Mathlib.Omega.{arith}
use lib.Dec.{ltb}
use borrow.Author.Tests.{ltb-true, ltb-false}
use Rattle.bounded.proofs.Tests.{case_on}
use Rattle.layout.specs.declared.Sizes.{Sizes}
use Rattle.layout.specs.Layout.{Legal}
use Rattle.state.specs.State.{State}
use Rattle.state.specs.declared.Op.TheVariants.{Write, Commit, Consolidate, Checkpoint}
use Rattle.operations.specs.Operations.{needs}
use Rattle.refinement.specs.Stores.{store_at}
use Rattle.placing.specs.Placing.{InJournal, records_of, recorded_in, copies_of, Placed as Placing}
use Rattle.placing.proofs.Placed.{each_placed}
use Rattle.trial_laws.specs.Places.{OfFrames, OfJournal, OfTables, StoresPlaced}

-- a word of a record
of-journal : (z : Sizes) (a : ℕ) → InJournal z a → OfJournal z a
of-journal z a h = inr (h.from, h.below)

module _ (st : State) (legal : Legal st.sizes) where
  abbrev z : Sizes
  z = st.sizes

  placed : Placing st []
  placed = each_placed st [] legal

  commit-placed : (w i : ℕ) → OfJournal z (store_at st (Commit w) i)
  commit-placed w i =
      case_on (ltb i (4 * records_of st w))
      (λ t. of-journal z (store_at st (Commit w) i) (placed.records w i (ltb-true i (4 * records_of st w) t)))
      (λ t. inl (placed.head w i (ltb-false i (4 * records_of st w) t)))

  checkpoint-placed : (i : ℕ) → OfTables z (store_at st Checkpoint i)
  checkpoint-placed i =
      case_on (ltb i (3 * recorded_in st))
      (λ t. let h = placed.slots i (ltb-true i (3 * recorded_in st) t) in inr (omega (arith, h.from), h.below))
      (λ t. inl (placed.tail i (ltb-false i (3 * recorded_in st) t)))

  -- a consolidation copies before its last six stores
  needed : (p : ℕ) → needs st (Consolidate p) ≡ 8 * copies_of st p + 6
  unfolding needs
  needed p = refl

  copies-placed : (p i : ℕ) → i + 6 < needs st (Consolidate p) → OfFrames z (store_at st (Consolidate p) i)
  copies-placed p i h = omega (arith, placed.copies p i (omega (arith, needed p)))

  page-placed : (p i : ℕ) → i + 6 ≡ needs st (Consolidate p) → p < z.pages → OfTables z (store_at st (Consolidate p) i)
  page-placed p i h low =
      let e = placed.page p i (omega (arith, needed p)) in
      inr (omega (arith, e), omega (arith, e))

  freeing-placed : (p i : ℕ) → needs st (Consolidate p) < i + 6 → OfJournal z (store_at st (Consolidate p) i)
  freeing-placed p i h =
      let c = 8 * copies_of st p in
      case_on (ltb i (c + 5))
      (λ t. of-journal z (store_at st (Consolidate p) i) (placed.freeing p i (omega (arith, needed p)) (ltb-true i (c + 5) t)))
      (λ t. inl (placed.freed p i (ltb-false i (c + 5) t)))

pub stores-placed : StoresPlaced
stores-placed st legal =
    record {
      write = λ w p l o n i. omega arith;
      commit = commit-placed st legal;
      copies = copies-placed st legal;
      page = page-placed st legal;
      freeing = freeing-placed st legal;
      checkpoint = checkpoint-placed st legal;
    }
