-- Where spares and homes name each frame once, they lie below F and no two of them are alike.
use Prim.Native.Nat.{ℕ, ◌+◌, ◌<◌}
use mathlib.Core.Path.{◌≡◌, sym, ap, ◌∙◌}
use native.Mathlib.Omega.{arith}
use lib.ListN.{get_or, get_or-append}
use lib.Seq.{get_or-append-add}
use Rattle.bounded.specs.Count.{Once}
use Rattle.bounded.specs.Tab.{tab}
use Rattle.bounded.proofs.Pigeonhole.{once-below, once-apart, entry-below, entries-apart}
use Rattle.bounded.proofs.Tab.{length-tab, get_or-tab}
use Rattle.layout.specs.declared.Sizes.{Sizes}
use Rattle.layout.specs.Layout.{frames}
use Rattle.replay.specs.declared.Table.{Table}
use Rattle.replay.specs.Table.{slot_in, home_of, frame_names}
use Rattle.names.proofs.Homes.{length-names}

-- the names at their places
module _ (r : ℕ → ℕ) (z : Sizes) (t : Table) where
  abbrev spare : ℕ → ℕ
  spare s = (slot_in t s).spare

  pub name-spare : (s : ℕ) → s < z.slots → get_or (frame_names r z t) s 0 ≡ spare s
  unfolding frame_names
  name-spare s l =
      get_or-append (tab z.slots spare) (tab z.pages (home_of r z t)) 0 s (omega (arith, length-tab z.slots spare))
      ∙ get_or-tab z.slots spare s 0 l

  pub name-home : (p : ℕ) → p < z.pages → get_or (frame_names r z t) (z.slots + p) 0 ≡ home_of r z t p
  unfolding frame_names
  name-home p l =
      ap (λ (k : ℕ). get_or (frame_names r z t) (k + p) 0) (sym (length-tab z.slots spare))
      ∙ get_or-append-add (tab z.slots spare) (tab z.pages (home_of r z t)) p 0
      ∙ get_or-tab z.pages (home_of r z t) p 0 l

module _ (r : ℕ → ℕ) (z : Sizes) (t : Table) (once : Once (frames z) (frame_names r z t)) where
  pub names_apart : (i j : ℕ) → i < frames z → j < frames z → get_or (frame_names r z t) i 0 ≡ get_or (frame_names r z t) j 0 → i ≡ j
  names_apart i j p q =
      entries-apart (frame_names r z t) (once-apart (frames z) (frame_names r z t) (length-names r z t) once) i j
      (omega (arith, length-names r z t)) (omega (arith, length-names r z t))

  pub names-low : (i : ℕ) → i < frames z → get_or (frame_names r z t) i 0 < frames z
  names-low i p =
      entry-below (frames z) (frame_names r z t) i (once-below (frames z) (frame_names r z t) (length-names r z t) once) (omega (arith, length-names r z t))

  pub spare_low : (s : ℕ) → s < z.slots → (slot_in t s).spare < frames z
  spare_low s l = omega (arith, name-spare r z t s l, names-low s (omega arith))

  pub home-low : (p : ℕ) → p < z.pages → home_of r z t p < frames z
  home-low p l = omega (arith, name-home r z t p l, names-low (z.slots + p) (omega arith))

  pub spares-apart : (s k : ℕ) → s < z.slots → k < z.slots → (slot_in t s).spare ≡ (slot_in t k).spare → s ≡ k
  spares-apart s k l m e = names_apart s k (omega arith) (omega arith) (name-spare r z t s l ∙ e ∙ sym (name-spare r z t k m))

  pub homes-apart : (p q : ℕ) → p < z.pages → q < z.pages → home_of r z t p ≡ home_of r z t q → p ≡ q
  homes-apart p q l m e =
      let x : z.slots + p ≡ z.slots + q = names_apart (z.slots + p) (z.slots + q) (omega arith) (omega arith) (name-home r z t p l ∙ e ∙ sym (name-home r z t q m)) in
      omega arith

  pub spare-home : (s p : ℕ) → s < z.slots → p < z.pages → (slot_in t s).spare ≡ home_of r z t p → ⊥
  spare-home s p l m e =
      let x : s ≡ z.slots + p = names_apart s (z.slots + p) (omega arith) (omega arith) (name-spare r z t s l ∙ e ∙ sym (name-home r z t p m)) in
      omega arith
