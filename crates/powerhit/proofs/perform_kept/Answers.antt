use Rattle.std.proofs.Common.{◌≡◌, ℕ, ◌<◌, min, List, length, sym, arith, length-set, length-take-le}
use Rattle.powerhit.proofs.Going.{closed-end, goes-newline}
use Rattle.powerhit.proofs.perform_kept.Goals as goal

-- the newline has a place
inside : (line : List ℕ) {end : ℕ} (kept : ℕ) → end ≡ min kept 2047 → length line ≡ 2048 → end < length line
inside line kept e size = omega (arith, e, size)

pub slice_bounds-perform_lines-end : goal.slice_bounds-perform_lines-end
slice_bounds-perform_lines-end c = simp length-set (omega (arith, inside c.args.line.now c.args.s.kept c.smaller-end.ensures c.requires))

pub slice_bounds-perform_lines-end-2 : goal.slice_bounds-perform_lines-end-2
slice_bounds-perform_lines-end-2 c = sym (length-take-le _ _ (simp length-set (omega (arith, inside c.args.line.now c.args.s.kept c.smaller-end.ensures c.requires))))

pub perform_lines-requires : goal.perform_lines-requires
perform_lines-requires c =
    record {
      from_le_to = omega arith;
      to_value = closed-end c.args.line.now c.smaller-end.result (inside c.args.line.now c.args.s.kept c.smaller-end.ensures c.requires);
    }

pub returns : goal.returns
returns c =
    let lines = c.perform_lines.ensures in
    goes-newline c.smaller-end.result c.requires c.smaller-end.ensures lines

pub bounds-line-end : goal.bounds-line-end
bounds-line-end c = inside c.args.line.now c.args.s.kept c.smaller-end.ensures c.requires
