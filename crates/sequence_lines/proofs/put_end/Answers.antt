use Prim.Native.Char.{code}
use native.Mathlib.Omega.{arith}
use Rattle.number_text.proofs.Puts.{put_then, put_as}
use Rattle.sequence_lines.proofs.Parted.{length_marked, parted-three}
use Rattle.sequence_lines.proofs.put_end.Goals as goal

pub put_marked-next-requires-2 : goal.put_marked-next-requires-2
put_marked-next-requires-2 c =
    let one = c.put_marked-next in
    let few = length_marked c.args.k (code ",") in
    omega arith

pub put_marked-requires : goal.put_marked-requires
put_marked-requires c =
    let one = c.put_marked-next in
    let two = c.put_marked-next-2 in
    let few = length_marked c.args.k (code ",") in
    let more = length_marked c.args.p.first (code ",") in
    omega arith

pub returns : goal.returns
returns c =
    let one = c.put_marked-next in
    let two = c.put_marked-next-2 in
    let three = c.put_marked in
    let few = length_marked c.args.k (code ",") in
    let more = length_marked c.args.p.first (code ",") in
    put_as (parted-three c.args.k c.args.p.first c.args.p.second)
    (put_then one.ensures (put_then two.ensures three.ensures (omega arith)) (omega arith))
