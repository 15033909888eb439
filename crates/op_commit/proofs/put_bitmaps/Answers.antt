use borrow.Author.Rules.{rules}
use Prim.Native.Nat.{◌<◌}
use mathlib.Core.Path.{refl, ap, ◌∙◌}
use native.Mathlib.Omega.{arith}
use Rattle.bounded.proofs.Below.{up_none, up_ends}
use Rattle.state_words.specs.Decoded.{decoded}
use Rattle.op_commit.specs.After.{with_bitmaps}
use Rattle.op_commit.proofs.Turns.{slot-low, bitmap-turn}
use Rattle.op_commit.proofs.put_bitmaps.Goals as goal

pub loop-j-init : goal.loop-j-init
loop-j-init c = ap (with_bitmaps (decoded c.args.words.now)) (up_none _ _)

pub held_at-m-requires : goal.held_at-m-requires
held_at-m-requires c = let h : c.held_slot-s.result < 16 = slot-low _ _ _ _ _ c.requires.0 c.held_slot-s.ensures in search rules

pub offset_bounds-before-s : goal.offset_bounds-before-s
offset_bounds-before-s c = let h : c.held_slot-s.result < 16 = slot-low _ _ _ _ _ c.requires.0 c.held_slot-s.ensures in search rules

pub bounds-before-s : goal.bounds-before-s
bounds-before-s c = let h : c.held_slot-s.result < 16 = slot-low _ _ _ _ _ c.requires.0 c.held_slot-s.ensures in search rules

pub put_bitmap-requires : goal.put_bitmap-requires
put_bitmap-requires c = slot-low _ _ _ _ _ c.requires.0 c.held_slot-s.ensures

pub loop-j-preserved : goal.loop-j-preserved
loop-j-preserved c =
    bitmap-turn (decoded c.args.words.now) (decoded c.loop-j.words) _ c.args.z c.args.w c.loop-j.j _ _ _ _ c.loop-j.invariant c.bitmaps_in-before.ensures c.held_slot-s.ensures c.held_at-m.ensures c.exclusive_or.ensures c.put_bitmap.ensures

pub returns : goal.returns
returns c =
    c.loop-j.invariant ∙ ap (with_bitmaps (decoded c.args.words.now)) (up_ends _ _ _ _ _ c.loop-j.auto.j-end c.loop-j-test.false refl)
