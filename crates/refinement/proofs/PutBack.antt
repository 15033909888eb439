-- An operation whose every store puts back the word that is there: after any of its stores the image is as it was, and after all of them the world is,
-- where the completed state is the one that asked for it.
use Prim.Native.Nat.{ℕ, ◌+◌, ◌*◌, ◌<◌, ◌≤◌}
use mathlib.Core.Bool.{false}
use mathlib.Core.List.{List}
use mathlib.Core.Path.{◌≡◌, refl, ap, ◌∙◌}
use native.Mathlib.Omega.{arith}
use lib.ListN.{length, get_or}
use Rattle.bounded.proofs.Below.{up-keeps}
use Rattle.words.specs.Words.{part, word, word_at}
use Rattle.words.proofs.WordLaws.{word-part}
use Rattle.image.specs.Lines.{line_words}
use Rattle.state.specs.State.{State}
use Rattle.state.specs.declared.Op.{Op}
use Rattle.operations.specs.Operations.{is_idle, needs}
use Rattle.refinement.specs.Stores.{store_made, stores_made, completed, stepped_by, left}
use Rattle.refinement.specs.Calls.{with_pending, world_of}
use Rattle.refinement.proofs.CallAsked.{needs-asked}
use Rattle.refinement.proofs.Steps.{run-all, run-image}
use Rattle.refinement.proofs.WriteMid.{line_word_is}

-- the words of the line that starts at word a
pub line_at : (img : List ℕ) (a i : ℕ) → i < 8 → 8 * a + 64 ≤ length img → get_or (line_words (part img (8 * a) 64)) i 0 ≡ word img (a + i)
line_at img a i m h =
    let e : 8 * a + 8 * i ≡ 8 * (a + i) = omega arith in
    line_word_is (part img (8 * a) 64) i m ∙ word-part img (8 * a) 64 (8 * i) (omega arith) h ∙ ap (word_at img) e

module _ (st : State) (img : List ℕ) (op : Op) (line : List ℕ) where
  abbrev asks : State
  asks = with_pending st op line

  module _ (back : (i : ℕ) → i < needs st op → store_made asks img op i ≡ img) where
    stores_back : (k : ℕ) → k ≤ needs st op → stores_made asks k img ≡ img
    stores_back k h =
        up-keeps (λ (x : List ℕ). x ≡ img) (λ i x. store_made asks x op (0 + i)) k img
        (λ i x m e. let j : 0 + i ≡ i = omega arith in ap (λ (y : List ℕ). store_made asks y op (0 + i)) e ∙ ap (store_made asks img op) j ∙ back i (omega arith)) refl

    pub image-back : (k : ℕ) → k ≤ left asks → (stepped_by k (world_of asks img)).image ≡ img
    image-back k h = run-image k (world_of asks img) h ∙ stores_back k (omega (arith, h, needs-asked st line op op))

    pub all_back : is_idle op ≡ false → 0 < needs st op → completed asks op ≡ st → stepped_by (left asks) (world_of asks img) ≡ world_of st img
    all_back some l same =
        let e : (stepped_by (left asks) (world_of asks img)).st ≡ st = run-all (world_of asks img) some (omega (arith, l, needs-asked st line op op)) ∙ same in
        λ i. record { st = e i; image = image-back (left asks) (omega arith) i }
