use borrow.Author.Rules.{rules}
use Rattle.std.specs.Prelude.{Err}
use mathlib.Core.Path.{◌≡◌, refl, sym, ap, ◌∙◌}
use Rattle.mount.specs.declared.Judged.{Judged}
use Rattle.mount.specs.Mount.{mount_of}
use Rattle.refinement.specs.Mount.{quiet_state, mount_call, mounted_state}
use Rattle.call_mount.proofs.Found.{mounted-quiet, homes-may, quiet-filled}
use Rattle.state_words.specs.Decoded.{decoded}
use Rattle.call_mount.proofs.Replaced.{replace-refused, replace-taken, copying-may, copying-left}
use Rattle.call_mount.proofs.mount.Goals as goal

pub returns-in_err-m : goal.returns-in_err-m
unfolding mount_call
returns-in_err-m c =
    let m = mount_of c.args.image.now in
    let same : c.from_residual.result ≡ Err c.in_err-m.field-0.0 = search rules in
    record {
      state = rw same (replace-refused (decoded c.args.words.now) (mounted_state m) m.row _ c.in_err-m.ensures);
      words = λ n. refl;
    }

pub put_homes-requires : goal.put_homes-requires
put_homes-requires c = homes-may c.args.image.now _ c.in_ok-m.ensures

pub returns-then-m-eq0 : goal.returns-then-m-eq0
unfolding mount_call
returns-then-m-eq0 c =
    let m = mount_of c.args.image.now in
    let h = c.in_ok-m.ensures in
    let filled = quiet-filled c.args.image.now _ h _ _ c.put_quiet.ensures c.put_homes.ensures in
    record {
      state = replace-taken (decoded c.args.words.now) (mounted_state m) m.row _ h.0 (filled ∙ mounted-quiet m (sym (ap (λ (x : Judged). x.count) h.1) ∙ c.if-m-eq0.true));
      words = λ n. absurd (n refl);
    }

pub put_copying-requires : goal.put_copying-requires
put_copying-requires c =
    let h = c.in_ok-m.ensures in
    copying-may c.args.image.now _ _ h.1 c.if-m-eq0.false (quiet-filled c.args.image.now _ h _ _ c.put_quiet.ensures c.put_homes.ensures) h.0

pub returns : goal.returns
unfolding mount_call
returns c =
    let m = mount_of c.args.image.now in
    let h = c.in_ok-m.ensures in
    let filled = quiet-filled c.args.image.now _ h _ _ c.put_quiet.ensures c.put_homes.ensures in
    record {
      state = replace-taken (decoded c.args.words.now) (mounted_state m) m.row _ h.0 (copying-left c.args.image.now _ _ h.1 c.if-m-eq0.false filled _ c.put_copying.ensures);
      words = λ n. absurd (n refl);
    }
