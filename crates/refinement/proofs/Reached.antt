-- What a list of calls reaches on a freshly formatted buffer: the world and the reference machine fed the same calls are related.
use Prim.Native.Nat.{ℕ, ◌≤◌}
use mathlib.Core.Bool.{true}
use mathlib.Core.List.{List, [], ◌∷◌}
use mathlib.Core.Logic.{inl}
use mathlib.Core.Path.{◌≡◌, refl, sym, ◌∙◌, subst}
use lib.ListN.{length, drop}
use Rattle.layout.specs.declared.Sizes.{Sizes}
use Rattle.layout.specs.Layout.{sizes_ok, image_length}
use Rattle.words.specs.Words.{Bytes}
use Rattle.refinement.specs.Stores.{World}
use Rattle.refinement.specs.Run.{Call, Result, exec, formatted_world, after}
use Rattle.refinement.specs.Beside.{follows, Always}
use Rattle.refinement.specs.Reference.{Reference, blank, turn}
use Rattle.refinement.specs.Statement.{Lent, AllLent}
use Rattle.refinement.proofs.Cases.{Invariant, narrow, standing-of}
use Rattle.refinement.proofs.CaseSound.{Kept, call-sound}
use Rattle.refinement.proofs.Start.{fresh-quiet, format-world}

pub record Reached (z : Sizes) (past : List ℕ) (v : World) (b : Reference) : Type 0 where
  pub sizes : v.st.sizes ≡ z
  pub related : Invariant past v b

-- the bytes past the image are as they were
pub past_same : {z : Sizes} {past : List ℕ} (v : World) (b : Reference) → Reached z past v b → drop (image_length z) v.image ≡ past
past_same {past = past} v b h =
    subst (λ (y : Sizes). drop (image_length y) v.image ≡ past) h.sizes (standing-of v b h.related).viewed.past-kept

-- where a format ended
pub reached-first : (z : Sizes) → sizes_ok z ≡ true → (buffer : List ℕ) → Bytes buffer → image_length z ≤ length buffer
    → Reached z (drop (image_length z) buffer) (formatted_world z buffer) blank
reached-first z ok buffer bytes fits =
    subst (λ (v : World). Reached z (drop (image_length z) buffer) v blank) (sym (format-world z ok buffer bytes fits))
    (record { sizes = refl; related = narrow (inl (inl (fresh-quiet z ok buffer bytes fits))) })

module _ {z : Sizes} {past : List ℕ} where
  -- after one call
  pub reached-next : (c : Call) → Lent c → (v : World) (b : Reference) → Reached z past v b
      → let d : Result = exec c v in Reached z past d.world (turn c d.number d.stores b)
  reached-next c lent v b h =
      let s : Kept past c v b = call-sound c lent v b h.related in
      record { sizes = s.sizes ∙ h.sizes; related = s.related }

  -- after a list
  pub reached : (calls : List Call) → AllLent calls → (v : World) (b : Reference) → Reached z past v b → Reached z past (after calls v) (follows calls v b)
  unfolding after follows
  reached [] lent v b h = h
  reached (c ∷ cs) lent v b h =
      let d : Result = exec c v in
      reached cs lent.1 d.world (turn c d.number d.stores b) (reached-next c lent.0 v b h)

-- a sentence on whatever is reached holds always
pub always : (P : Sizes → List ℕ → World → Reference → Type 0)
    → ((z : Sizes) (buffer : List ℕ) (v : World) (b : Reference) → Reached z (drop (image_length z) buffer) v b → P z buffer v b) → Always P
always P f z ok buffer bytes fits calls lent =
    f z buffer (after calls (formatted_world z buffer)) (follows calls (formatted_world z buffer) blank)
    (reached calls lent (formatted_world z buffer) blank (reached-first z ok buffer bytes fits))
