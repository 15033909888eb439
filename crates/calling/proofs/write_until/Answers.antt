use Prim.Native.Nat.{◌-◌, ◌≤◌}
use mathlib.Core.Path.{sym}
use lib.ListN.{length}
use lib.Seq.{length-take-le}
use native.Mathlib.Omega.{arith}
use Rattle.calling.proofs.Copied.{Data, data-told, length-bytes, data-copied}
use Rattle.calling.proofs.write_until.Lts
use Rattle.calling.proofs.write_until.Tie
use Rattle.calling.proofs.write_until.Reads
use Rattle.calling.proofs.write_until.Goals as goal

abbrev At-Start : Type 0
At-Start = Lts.Start Tie.the-claims Reads.Pre Reads.Post Tie.handed_clauses

abbrev At-After-data_of-bytes : Type 0
At-After-data_of-bytes = Lts.After-data_of Tie.the-claims Reads.Pre Reads.Post Tie.handed_clauses

abbrev known : (s : At-Start) → Data s.args.count s.args.numbers.now
known s = data-told s.args.count s.args.numbers.now s.requires

pub overflow_sub-n : goal.overflow_sub-n
overflow_sub-n c = (known c.before.before).five

pub data_of-bytes-requires : goal.data_of-bytes-requires
data_of-bytes-requires c = let k = known c.before.before in (omega (arith, k.most), k.bytes)

-- the array holds the data
fits : (c : At-After-data_of-bytes) → c.before.before.args.count - 5 ≤ length c.data_of-bytes.result
fits c =
    omega (arith, (known c.before.before).most, length-bytes c.before.before.args.count c.before.before.args.numbers.now c.data_of-bytes.result c.data_of-bytes.ensures)

pub slice_bounds-bytes-end : goal.slice_bounds-bytes-end
slice_bounds-bytes-end c = fits c.before.before.before.before.before.before.before.before.before

pub slice_bounds-write-end : goal.slice_bounds-write-end
slice_bounds-write-end c = sym (length-take-le _ _ (fits c.before.before.before.before.before.before.before.before.before.before))

pub returns : goal.returns
returns c =
    let w = c.write in record {
      started = rw (← data-copied c.args.count c.args.numbers.now c.data_of-bytes.result c.data_of-bytes.ensures (known c.before.before.before.before.before.before.before.before.before.before.before.before.before.before.before).most) w.ensures.started;
      words = w.ensures.words;
    }
