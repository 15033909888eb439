use native.Mathlib.Omega.{arith}
use Rattle.reason_reading.specs.Reading.{guess, guess_for}
use Rattle.reason_reading.proofs.Guessing.{after-le}
use Rattle.reason_reading.proofs.guess_of.Goals as goal

pub place_after-line_at-requires : goal.place_after-line_at-requires
place_after-line_at-requires c = omega (arith, after-le c.takes_writer-has_writer.result 1, c.place_after-page_at.ensures)

pub place_after-holder_at-requires : goal.place_after-holder_at-requires
place_after-holder_at-requires c =
    let page = c.place_after-page_at.result in
    omega (arith, after-le c.takes_writer-has_writer.result 1, c.place_after-page_at.ensures, after-le c.takes_page-has_page.result page, c.place_after-line_at.ensures)

pub returns : goal.returns
unfolding guess guess_for
returns c = cc
