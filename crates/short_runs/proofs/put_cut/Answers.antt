use native.Mathlib.Omega.{arith}
use Rattle.short_runs.proofs.Printed.{roomed-low, cut-put}
use Rattle.short_runs.proofs.put_cut.Goals as goal

pub put_line-line-requires : goal.put_line-line-requires
put_line-line-requires c =
    record {
      n_bound = c.requires;
      at_in_bounds = omega (arith, roomed-low c.args.s.at, c.make_room-room.ensures, c.put_line-arg-1.given.0.1);
    }

pub returns : goal.returns
returns c =
    let room = c.make_room-room in
    cut-put c.args.s _ room.result.at _ c.args.k _ c.put_line-line.result _ room.ensures c.put_line-arg-1.given.0.1 c.put_line-line.auto.out c.put_line-line.ensures
