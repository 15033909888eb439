use mathlib.Core.Path.{◌≡◌}
use native.Mathlib.Omega.{arith}
use lib.Dec.{leb}
use Rattle.bounded.proofs.Below.{one-le}
use Rattle.state.specs.Wide.{entry_for}
use Rattle.state_words.specs.Decoded.{decoded}
use Rattle.op_log.proofs.LogPieces.{logged}
use Rattle.op_log.proofs.complete_log.Goals as goal

pub put_key-requires : goal.put_key-requires
put_key-requires c =
    let e : c.find_entry-e.result ≡ entry_for (decoded c.args.words.now).wide c.args.p c.args.l = rw c.requires.1 at c.find_entry-e.ensures in
    omega (arith, e, c.requires.3)

pub overflow_add-count : goal.overflow_add-count
overflow_add-count c =
    omega (arith, c.one_if.ensures, one-le (leb c.args.count c.find_entry-e.result), c.requires.2)

pub returns : goal.returns
returns c =
    logged (decoded c.args.words.now) _ _ _ c.args.wide c.args.count c.args.p c.args.l _ _ c.requires.0 c.requires.1 c.find_entry-e.ensures c.one_if.ensures c.put_key.ensures c.put_wide.ensures c.put_nothing.ensures
