use mathlib.Core.Path.{◌≡◌, refl, sym, ap, ◌∙◌}
use mathlib.Core.List.{List, [], ◌∷◌}
use Prim.Native.Nat.{ℕ, ◌+◌}
use native.Mathlib.Omega.{arith}
use lib.ListN.{length, take, set, get_or}
use lib.Seq.{length-take-le, take_all}
use Rattle.std.proofs.lemmas.List.{take_more}
use Rattle.words.specs.Words.{over}
use Rattle.words.proofs.Over.{set-over}
use Rattle.words.proofs.Parts.{length_over, over-nil, over-over}
use Rattle.wording.proofs.put_text.Goals as goal

pub loop-k-init : goal.loop-k-init
loop-k-init c = sym (over-nil c.args.out.now c.args.at)

-- One byte more is laid.
pub loop-k-preserved : goal.loop-k-preserved
loop-k-preserved c =
    let x = c.args in
    let out = x.out.now in
    let k = c.loop-k.k in
    let xs = take k x.text.now in
    let b = get_or x.text.now k 0 in
    let long : length xs ≡ k = length-take-le k x.text.now (omega arith) in
    ap (λ (l : List ℕ). set l (x.at + k) b) c.loop-k.invariant
    ∙ set-over (over out x.at xs) (x.at + k) b (omega (arith, length_over out x.at xs (omega (arith, long))))
    ∙ ap (λ (n : ℕ). over (over out x.at xs) (x.at + n) (b ∷ [])) (sym long)
    ∙ over-over out x.at xs (b ∷ []) (omega (arith, long))
    ∙ ap (λ (l : List ℕ). over out x.at l) (sym (take_more x.text.now k 0 (omega arith)))

pub returns : goal.returns
returns c =
    record {
      laid = c.loop-k.invariant ∙ ap (λ (l : List ℕ). over c.args.out.now c.args.at l) (take_all c.loop-k.k c.args.text.now (omega arith));
      place = refl;
    }
