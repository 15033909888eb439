-- What the code lends of the words, the spares and the map's entries, and tests as lists is what the definitions say of the state.
use Prim.Native.Nat.{ℕ, ◌+◌, ◌-◌, ◌≤◌}
use mathlib.Core.List.{List, ◌++◌}
use mathlib.Core.Path.{◌≡◌, ap, ap₂, ◌∙◌}
use native.Mathlib.Omega.{arith}
use lib.Dec.{eqb}
use lib.ListN.{length, take, drop, get_or}
use Rattle.bounded.specs.Below.{all_below}
use Rattle.bounded.specs.Count.{each_once}
use Rattle.bounded.specs.Tab.{tab}
use Rattle.bounded.proofs.Below.{all-ext}
use Rattle.bounded.proofs.Tab.{length-tab, get_or-tab}
use Rattle.layout.specs.declared.Sizes.{Sizes}
use Rattle.layout.specs.Layout.{Legal, frames}
use Rattle.state.specs.State.{own_frame}
use Rattle.replay.specs.Map.{names_kept}
use Rattle.state_words.specs.Decoded.{decoded}
use Rattle.state_words.proofs.Lent.{spares-front, map-front}

module _ (c : List ℕ) (long : length c ≡ 1280) (z : Sizes) (legal : Legal z) where
  abbrev spares : List ℕ
  spares = take (72 + z.slots - 72) (drop 72 c)

  abbrev entries : List ℕ
  entries = take (256 + z.pages - 256) (drop 256 c)

  spares-are : spares ≡ tab z.slots (λ s. get_or (decoded c).table.spare s 0)
  spares-are =
      let e : 72 + z.slots - 72 ≡ z.slots = omega arith in
      ap (λ (n : ℕ). take n (drop 72 c)) e ∙ spares-front c long z.slots legal.slots-high

  entries-are : entries ≡ tab z.pages (own_frame (decoded c))
  entries-are =
      let e : 256 + z.pages - 256 ≡ z.pages = omega arith in
      ap (λ (n : ℕ). take n (drop 256 c)) e ∙ map-front c long z.pages legal.pages-high

  many-spares : length spares ≡ z.slots
  many-spares = ap length spares-are ∙ length-tab z.slots (λ s. get_or (decoded c).table.spare s 0)

  many-entries : length entries ≡ z.pages
  many-entries = ap length entries-are ∙ length-tab z.pages (own_frame (decoded c))

  pub few : (length spares ≤ 16) × (length entries ≤ 1024)
  few = (omega (arith, many-spares, legal.slots-high), omega (arith, many-entries, legal.pages-high))

  pub parts-once : each_once (length spares + length entries) (spares ++ entries) ≡ each_once (frames z) (names_kept (own_frame (decoded c)) z (decoded c).table)
  unfolding names_kept
  parts-once =
      let n : length spares + length entries ≡ frames z = omega (arith, many-spares, many-entries) in
      ap₂ (λ (k : ℕ) (l : List ℕ). each_once k l) n (ap₂ (λ (a b : List ℕ). a ++ b) spares-are entries-are)

  pub entries-own : all_below (length entries) (λ i. eqb (get_or entries i 0) i) ≡ all_below z.pages (λ p. eqb (own_frame (decoded c) p) p)
  entries-own =
      ap (λ (k : ℕ). all_below k (λ i. eqb (get_or entries i 0) i)) many-entries
      ∙ all-ext (λ i. eqb (get_or entries i 0) i) (λ p. eqb (own_frame (decoded c) p) p) z.pages
      (λ p l. ap (λ (k : List ℕ). eqb (get_or k p 0) p) entries-are ∙ ap (λ (f : ℕ). eqb f p) (get_or-tab z.pages (own_frame (decoded c)) p 0 l))
