use Prim.Native.Nat.{ℕ}
use mathlib.Core.Path.{◌≡◌, refl, sym}
use native.Mathlib.Omega.{arith}
use lib.ListN.{length, take, replicate}
use lib.Seq.{length-take-le}
use Rattle.sequence_lines.proofs.put_line.Lts
use Rattle.sequence_lines.proofs.put_line.Tie
use Rattle.sequence_lines.proofs.put_line.Reads
use Rattle.sequence_lines.proofs.put_line.Goals as goal

abbrev At-Start : Type 0
At-Start = Lts.Start Tie.the-claims Reads.Pre Reads.Post Tie.handed_clauses

-- three places lent, as many as are asked for
places : (s : At-Start) → length {A = ℕ} (take s.args.n (replicate 3 0)) ≡ s.args.n
places s = length-take-le s.args.n (replicate 3 0) s.requires.n_bound

pub slice_bounds-put_parts-end : goal.slice_bounds-put_parts-end
slice_bounds-put_parts-end c = sym (places c.before.before.before)

pub slice_bounds-put_parts-end-2 : goal.slice_bounds-put_parts-end-2
slice_bounds-put_parts-end-2 c = sym (places c.before.before.before.before)

pub put_parts-requires : goal.put_parts-requires
put_parts-requires c = record {
  answers_len = refl;
  numbers_in_bounds = omega (arith, c.requires.n_bound, c.requires.at_in_bounds, places c.before.before.before.before);
}

pub returns : goal.returns
returns c = rw (← places c.before.before.before.before.before.before.before.before.before.before) c.put_parts.ensures
