use Prim.Native.Nat.{ℕ}
use mathlib.Core.List.{List, [], ◌++◌, append-nil}
use mathlib.Core.Path.{◌≡◌, sym, ap}
use native.Mathlib.Omega.{arith}
use lib.ListN.{take, drop, drop_of_length-le}
use lib.Seq.{length-take-le, take_all}
use Rattle.probing.proofs.call_lent.Goals as goal

pub slice_bounds-call-end-then-lent-buffer : goal.slice_bounds-call-end-then-lent-buffer
slice_bounds-call-end-then-lent-buffer c = let a = c.args in sym (length-take-le a.lent a.buffer.now (omega (arith, c.if-lent-buffer.true)))

pub returns-then-lent-buffer : goal.returns-then-lent-buffer
returns-then-lent-buffer c =
    let a = c.args in
    let call = c.call.ensures in
    record {
      turn = call.turn;
      bytes = ap (λ (l : List ℕ). l ++ drop a.lent a.buffer.now) call.bytes;
    }

pub returns : goal.returns
returns c =
    let a = c.args in
    let call = c.call-2.ensures in
    let all : take a.lent a.buffer.now ≡ a.buffer.now = take_all a.lent a.buffer.now c.if-lent-buffer.false in
    let none : drop a.lent a.buffer.now ≡ [] = drop_of_length-le a.buffer.now c.if-lent-buffer.false in
    rw (all, none, append-nil) record {
      turn = call.turn;
      bytes = call.bytes;
    }
