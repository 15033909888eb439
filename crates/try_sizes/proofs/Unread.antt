-- What is not read would change nothing.
use Prim.Native.Nat.{ℕ}
use mathlib.Core.Bool.{Bool, true, false, not, ◌&&◌, ◌||◌}
use mathlib.Core.List.{List, [], ◌∷◌, ◌++◌}
use mathlib.Core.Path.{◌≡◌, refl, ap, ◌∙◌}
use lib.Dec.{ltb, leb, eqb}
use lib.ListN.{length}
use borrow.Author.Tests.{lt-ltb, leb-false}
use Rattle.bounded.proofs.Tests.{or_left, or_right, row_keeps}
use Rattle.cutting.specs.Feeding.{Fed, fed_byte, fed, ended}
use Rattle.trial_lines.specs.Lines.{Work, work_of, acted, act}
use Rattle.try_sizes.specs.Program.{reads_on, NotRead}

past-last : (set : Bool) (n : ℕ) → set && leb n 1000 ≡ false → not set || ltb 1000 n ≡ true
past-last true n h = lt-ltb 1000 n (leb-false n 1000 h)
past-last false n h = refl

-- no line does
line-unread : (w : Work) (line : List ℕ) → reads_on w.lines w.set ≡ false → act w line ≡ w
unfolding acted
line-unread w line h =
    rw (or_left (eqb w.lines 0) (w.set && leb w.lines 1000) h, past-last w.set w.lines (or_right (eqb w.lines 0) (w.set && leb w.lines 1000) h))

fed-unread : (w : Work) → reads_on w.lines w.set ≡ false → (begun bytes : List ℕ) → (fed act (record { done = w; begun = begun }) bytes).done ≡ w
unfolding fed fed_byte
fed-unread w h begun [] = refl
fed-unread w h begun (b ∷ bytes) =
    row_keeps (λ (f : Fed Work). (fed act f bytes).done ≡ w) (eqb b 10) (record { done = act w begun; begun = [] }) (record { done = w; begun = begun ++ (b ∷ []) })
    (ap (λ (u : Work). (fed act (record { done = u; begun = [] }) bytes).done) (line-unread w begun h) ∙ fed-unread w h [] bytes)
    (fed-unread w h (begun ++ (b ∷ [])) bytes)

pub not-read : NotRead
unfolding ended
not-read s words image h begun bytes =
    let w = work_of s words image in
    let f = fed act (record { done = w; begun = begun }) bytes in
    let e = fed-unread w h begun bytes in
    row_keeps (λ (u : Work). u ≡ w) (eqb (length f.begun) 0) f.done (act f.done f.begun) e (rw e (line-unread w f.begun h))
