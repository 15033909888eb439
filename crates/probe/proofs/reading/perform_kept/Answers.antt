use Rattle.std.proofs.Common.{◌≡◌, ◌+◌, ◌%◌, ◌^◌, sym, refl, ap, arith, length-take-le}
use Rattle.probe.specs.Program.{roomed, stand}
use Rattle.probe.specs.declared.Session.{Session}
use Rattle.probe.proofs.Shown.{shows-performed}
use Rattle.probe.proofs.reading.perform_kept.Goals as goal

pub slice_bounds-perform-end-2 : goal.slice_bounds-perform-end-2
slice_bounds-perform-end-2 c = sym (length-take-le _ _ (omega arith))

pub returns : goal.returns
returns c f h =
    let p = c.perform-p in
    let k = c.smaller-k in
    let a = c.args in
    let m = c.make_room-next.result in
    let e = c.make_room-next.ensures.same in
    let lent : m.lent ≡ a.s.lent = ap (λ (x : Session). x.lent) e in
    let at : m.at ≡ roomed a.s.at = ap (λ (x : Session). x.at) e in
    let kept : m.kept ≡ a.s.kept = ap (λ (x : Session). x.kept) e in
    let all : k.result ≡ a.s.kept = omega (arith, k.ensures, h.begun.within) in
    shows-performed (stand a.s a.buffer.now a.words.now a.table.now a.line.now a.out.now) _ c.requires
    (rw (← at) (omega (arith, c.make_room-next.ensures.room)))
    (record {
      lines = ap (λ (x : Session). (x.lines + 1) % 2 ^ 64) e;
      kept = refl;
      bench = rw (← lent, ← all) p.ensures.bench;
      buffer = rw (← lent, ← all) p.ensures.buffer;
      text = rw (← lent, ← all, ← at) p.ensures.text;
      same_size = p.auto.out;
    })
    f h
