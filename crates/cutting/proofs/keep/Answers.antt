use mathlib.Core.Path.{◌≡◌, sym, ap, ◌∙◌}
use Prim.Native.Nat.{ℕ, ◌+◌, ◌≤◌}
use native.Mathlib.Omega.{arith}
use lib.ListN.{length}
use Rattle.cutting.specs.Pieces.{fitting}
use Rattle.cutting.proofs.Cutting.{length-fitting, keeps-none, keeps-copy}
use Rattle.cutting.proofs.keep.Goals as goal

-- n is how many bytes fit; with none the line stays, otherwise a part of it comes back as a copy of the input's.
pub returns-then-n-eq0 : goal.returns-then-n-eq0
returns-then-n-eq0 c =
    let x = c.args in
    let m : c.min-n.result ≡ length (fitting x.line.now x.have x.input.now x.from x.to) = omega (arith, length-fitting x.line.now x.have x.input.now x.from x.to) in
    let e : length (fitting x.line.now x.have x.input.now x.from x.to) ≡ 0 = sym m ∙ c.if-n-eq0.true in
    record { line_after = keeps-none x.line.now x.have x.input.now x.from x.to e; value = omega arith }

pub returns : goal.returns
returns c =
    let x = c.args in
    let n = c.min-n.result in
    let m : n ≡ length (fitting x.line.now x.have x.input.now x.from x.to) = omega (arith, length-fitting x.line.now x.have x.input.now x.from x.to) in
    let f : x.from + n ≤ length x.input.now = omega arith in
    let g : x.have + n ≤ length x.line.now = omega arith in
    record {
      line_after = keeps-copy x.line.now x.have x.input.now x.from x.to n c.copy_from_slice.new.self m f g c.copy_from_slice.ensures.after;
      value = ap (λ (n : ℕ). x.have + n) m;
    }
