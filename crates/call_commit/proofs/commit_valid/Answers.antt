use borrow.Author.Rules.{rules}
use mathlib.Core.Path.{◌≡◌, refl, sym, ap, ◌∙◌}
use Rattle.std.specs.Prelude.{Err}
use Rattle.state.specs.declared.Places.{Places}
use Rattle.answers.specs.Answers.{number_of}
use Rattle.state_words.specs.Decoded.{decoded}
use Rattle.call_commit.proofs.Calls.{refused, copy-allowed, commit-allowed, copy-came, commit-came}
use Rattle.call_commit.proofs.commit_valid.Goals as goal

pub returns-in_err-commit_row : goal.returns-in_err-commit_row
returns-in_err-commit_row c =
    let same : c.from_residual.result ≡ Err c.in_err-commit_row.field-0.0 = search rules in
    record {
      started = rw same (refused (decoded c.args.words.now) c.args.image.now c.args.writer c.args.until _ c.in_err-commit_row.ensures);
      words = λ n. refl;
    }

pub ask-requires : goal.ask-requires
ask-requires c =
    copy-allowed (decoded c.args.words.now) c.args.image.now c.args.writer c.in_ok-commit_row.ensures _ _ c.requires.0 c.requires.1

pub returns-then-at-writer : goal.returns-then-at-writer
returns-then-at-writer c =
    let h = c.ask.ensures in
    let wide = ap (λ (p : Places). p.wide) c.requires.1 in
    record {
      started = copy-came (decoded c.args.words.now) c.args.image.now c.args.writer c.in_ok-commit_row.ensures c.ask.result _ _ c.args.until (sym wide ∙ c.if-at-writer.true) h.started;
      words = λ n. absurd (n (ap number_of h.answer));
    }

pub commit_narrow-requires : goal.commit_narrow-requires
commit_narrow-requires c =
    let wide = ap (λ (p : Places). p.wide) c.requires.1 in
    commit-allowed (decoded c.args.words.now) c.args.image.now c.args.writer c.in_ok-commit_row.ensures _ _ c.requires.0 c.requires.1 (λ q. c.if-at-writer.false (wide ∙ q))

pub returns : goal.returns
returns c =
    let h = c.commit_narrow.ensures in
    let wide = ap (λ (p : Places). p.wide) c.requires.1 in
    record {
      started = commit-came (decoded c.args.words.now) c.args.image.now c.args.writer c.in_ok-commit_row.ensures c.commit_narrow.result _ _ c.args.until (λ q. c.if-at-writer.false (wide ∙ q)) h.started;
      words = λ n. absurd (n (ap number_of h.answer));
    }
