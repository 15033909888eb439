use borrow.Author.Rules.{rules}
use mathlib.Core.Path.{◌≡◌, refl, sym, ap, ◌∙◌}
use Rattle.std.specs.Prelude.{Err}
use Rattle.bounded.proofs.Tests.{row-yes, row-no}
use Rattle.state.specs.declared.Pending.{Pending}
use Rattle.answers.specs.Answers.{number_of}
use Rattle.call_write.proofs.Asking.{write-merge, idle-is}
use Rattle.state_words.specs.Decoded.{decoded}
use Rattle.call_write.proofs.Writing.{write-refused, write-nothing, write-asks, write-started}
use Rattle.call_write.proofs.write_valid.Goals as goal

pub returns-in_err-found : goal.returns-in_err-found
returns-in_err-found c =
    let a = c.args in
    let same : c.from_residual.result ≡ Err c.in_err-found.field-0.0 = search rules in
    record {
      started = rw same (write-refused (decoded a.words.now) a.image.now a.writer a.span.page a.span.line a.span.offset a.span.length a.«data».now _ c.in_err-found.ensures a.until);
      words = λ n. refl;
    }

pub merged-merged-requires : goal.merged-merged-requires
merged-merged-requires c =
    let a = c.args in
    rw c.requires.0 (write-merge (decoded a.words.now) a.image.now a.writer a.span.page a.span.line a.span.offset a.span.length a.«data».now _ c.in_ok-found.ensures)

pub returns-then-found-merged : goal.returns-then-found-merged
returns-then-found-merged c =
    let a = c.args in
    let f = c.in_ok-found.ensures in
    let nothing = idle-is (decoded a.words.now) a.image.now a.writer a.span.page a.span.line a.span.offset a.span.length a.«data».now _ f _ (rw c.requires.0 at c.merged-merged.ensures.changed) in
    record {
      started = write-nothing (decoded a.words.now) a.image.now a.writer a.span.page a.span.line a.span.offset a.span.length a.«data».now _ f a.until (sym nothing ∙ c.if-found-merged.true) _ refl;
      words = λ n. refl;
    }

pub start-requires : goal.start-requires
start-requires c =
    let a = c.args in
    let line = rw c.requires.0 at c.merged-merged.ensures.words in
    write-asks (decoded a.words.now) a.image.now a.writer a.span.page a.span.line a.span.offset a.span.length a.«data».now _ c.in_ok-found.ensures a.until _ _ _ line (c.wide.ensures ∙ row-yes _ _ _ c.if-found.true) c.pending-p.ensures _ _ c.requires.0 c.requires.1

pub returns-then-found : goal.returns-then-found
returns-then-found c =
    let a = c.args in
    let f = c.in_ok-found.ensures in
    let line = rw c.requires.0 at c.merged-merged.ensures.words in
    let nothing = idle-is (decoded a.words.now) a.image.now a.writer a.span.page a.span.line a.span.offset a.span.length a.«data».now _ f _ (rw c.requires.0 at c.merged-merged.ensures.changed) in
    let h = c.start.ensures in
    record {
      started = write-started (decoded a.words.now) a.image.now a.writer a.span.page a.span.line a.span.offset a.span.length a.«data».now _ f a.until _ _ _ line (c.wide.ensures ∙ row-yes _ _ _ c.if-found.true) c.pending-p.ensures (sym nothing ∙ c.if-found-merged.false) _ _ c.requires.0 c.requires.1 _ _ _ h.answer h.image h.words;
      words = λ n. absurd (n (ap number_of h.answer));
    }

pub put_line-requires : goal.put_line-requires
put_line-requires c =
    let a = c.args in
    let line = rw c.requires.0 at c.merged-merged.ensures.words in (
      write-asks (decoded a.words.now) a.image.now a.writer a.span.page a.span.line a.span.offset a.span.length a.«data».now _ c.in_ok-found.ensures a.until _ _ _ line (row-no _ _ _ _ c.if-found.false c.narrow.ensures) c.pending-p-2.ensures _ _ c.requires.0 c.requires.1,
      ap (λ (q : Pending). q.op) c.pending-p-2.ensures ∙ c.narrow.ensures,
    )

pub returns : goal.returns
returns c =
    let a = c.args in
    let f = c.in_ok-found.ensures in
    let line = rw c.requires.0 at c.merged-merged.ensures.words in
    let nothing = idle-is (decoded a.words.now) a.image.now a.writer a.span.page a.span.line a.span.offset a.span.length a.«data».now _ f _ (rw c.requires.0 at c.merged-merged.ensures.changed) in
    let h = c.put_line.ensures in
    record {
      started = write-started (decoded a.words.now) a.image.now a.writer a.span.page a.span.line a.span.offset a.span.length a.«data».now _ f a.until _ _ _ line (row-no _ _ _ _ c.if-found.false c.narrow.ensures) c.pending-p-2.ensures (sym nothing ∙ c.if-found-merged.false) _ _ c.requires.0 c.requires.1 _ _ _ h.answer h.image h.words;
      words = λ n. absurd (n (ap number_of h.answer));
    }
