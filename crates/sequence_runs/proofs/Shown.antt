-- The bytes that a line prints are the reference machine's: demand 3 on the list of calls that was made.
use Prim.Native.Nat.{ℕ, zero, suc, ◌<◌, ◌≤◌}
use mathlib.Core.Bool.{false}
use mathlib.Core.List.{List, [], ◌∷◌}
use mathlib.Core.Path.{◌≡◌, refl, ap, ◌∙◌}
use native.Mathlib.Omega.{arith}
use lib.Dec.{eqb, ltb}
use lib.ListN.{length, get_or, drop, replicate, length-replicate}
use borrow.Author.Tests.{le-ltb}
use Rattle.bounded.proofs.Tab.{length-tab, get_or-tab}
use Rattle.words.specs.Words.{Bytes, word}
use Rattle.words.proofs.Parts.{get_d_over}
use Rattle.layout.specs.declared.Sizes.{Sizes}
use Rattle.layout.specs.Layout.{image_length}
use Rattle.mount.specs.Mount.{sizes_from}
use Rattle.mount.proofs.View.{View}
use Rattle.refinement.specs.Stores.{World}
use Rattle.refinement.specs.Run.{Call, checkpoint, recall, exec, after}
use Rattle.refinement.specs.Reference.{Reference, blank, recall_line}
use Rattle.refinement.specs.Recall.{recall_row}
use Rattle.refinement.specs.Statement.{Lent, AllLent}
use Rattle.refinement.proofs.Cases.{standing-of}
use Rattle.refinement.proofs.CaseSound.{call-sound}
use Rattle.refinement.proofs.Reached.{Reached, reached, reached-first}
use Rattle.refinement.proofs.RecallCall.{row_is}
use Rattle.sequence_runs.specs.Calls.{twelve, call_of}
use Rattle.sequence_runs.specs.Runs.{small, fresh_world, Ran, start, one_more, ran, first_byte}
use Rattle.sequence_runs.specs.Shown.{made, fed, BytesShown}

-- ---- the calls made

after-made : (k : ℕ) (cs : List ℕ) (r : Ran) → after (made k cs r.world) r.world ≡ (ran k cs r).world
unfolding made after ran one_more
after-made k [] r = refl
after-made k (c ∷ cs) r = after-made k cs (one_more (eqb (length cs) 0) k (call_of c) r)

-- a byte is one
byte : (b : ℕ) → b < 256 → Bytes (b ∷ [])
byte b h zero = h
byte b h (suc i) = omega arith

lent_at : (cs : List Call) (d : Call) → AllLent cs → Lent d → (i : ℕ) → Lent (get_or cs i d)
lent_at [] d h l i = l
lent_at (c ∷ cs) d h l zero = h.0
lent_at (c ∷ cs) d h l (suc i) = lent_at cs d h.1 l i

lent-call : (c : ℕ) → Lent (call_of c)
lent-call c =
    lent_at (checkpoint ∷ twelve) checkpoint
    (tt, (tt, (tt, (byte 1 (omega arith), (byte 1 (omega arith), (byte 2 (omega arith), (byte 2 (omega arith), (tt, (tt, (tt, (tt, (tt, (tt, tt))))))))))))) tt c

lent-made : (k : ℕ) (cs : List ℕ) (v : World) → AllLent (made k cs v)
unfolding made
lent-made k [] v = tt
lent-made k (c ∷ cs) v = (lent-call c, (tt, lent-made k cs _))

-- ---- the fresh image

zeros : (n : ℕ) → Bytes (replicate n 0)
zeros zero i = omega arith
zeros (suc n) zero = omega arith
zeros (suc n) (suc i) = zeros n i

fits : (n : ℕ) → image_length small ≤ n → image_length small ≤ length {A = ℕ} (replicate n 0)
fits n h = rw length-replicate h

fresh-reached : Reached small (drop (image_length small) (replicate 8320 0)) fresh_world blank
unfolding fresh_world
fresh-reached = reached-first small refl (replicate 8320 0) (zeros 8320) (fits 8320 (omega arith))

-- ---- what a recall shows there

module _ {past : List ℕ} (v : World) (b : Reference) (h : Reached small past v b) (l : ℕ) (low : l < 64) where
  sizes : sizes_from (word v.image) ≡ small
  sizes =
      let seen = (standing-of v b h.related).viewed in
      ap (λ (w : View). w.sizes) seen.shows ∙ seen.sizes-same ∙ h.sizes

  taken : recall_row v.image 0 l (replicate 64 0) ≡ 0
  taken =
      let one : (sizes_from (word v.image)).pages ≡ 1 = ap (λ (z : Sizes). z.pages) sizes in
      let t : ltb 63 l ≡ false = le-ltb 63 l (omega arith) in
      row_is v.image b (standing-of v b h.related).viewed 0 l (replicate 64 0) ∙ rw (one, t)

  shown : first_byte v l ≡ b.pages 0 l 0
  unfolding first_byte exec
  shown =
      let r = (call-sound (recall 0 l (replicate 64 0)) tt v b h.related).right.1 taken in
      ap (λ (t : List ℕ). get_or t 0 0) r
      ∙ get_d_over (replicate 64 0) 0 (recall_line b 0 l) (omega (arith, length-tab 64 (b.pages 0 l))) 0 (omega arith) (omega (arith, length-tab 64 (b.pages 0 l)))
      ∙ get_or-tab 64 (b.pages 0 l) 0 0 (omega arith)

pub bytes-shown : BytesShown
bytes-shown k calls l low =
    let v = (ran k calls start).world in
    let r = reached (made k calls fresh_world) (lent-made k calls fresh_world) fresh_world blank fresh-reached in
    shown v (fed k calls) (rw (after-made k calls start) at r) l low
