use Rattle.state_words.specs.Decoded.{decoded}
use Rattle.script.proofs.Shown.{shown-refused, shown-past, shown-byte}
use Rattle.script.proofs.turns.read_byte.Goals as goal

pub returns-then-number-ne0 : goal.returns-then-number-ne0
returns-then-number-ne0 c =
    let number = c.number_of-number in
    let read = c.read-answer in
    let a = c.args in
    shown-refused (decoded a.words.now) a.image.now a.writer a.page a.line a.offset read.result _
    number.ensures read.ensures.number.0 c.if-number-ne0.true

pub returns-then-offset-gt63 : goal.returns-then-offset-gt63
returns-then-offset-gt63 c =
    let number = c.number_of-number in
    let read = c.read-answer in
    let a = c.args in
    shown-past (decoded a.words.now) a.image.now a.writer a.page a.line a.offset read.result _
    number.ensures read.ensures.number.0 c.if-number-ne0.false c.if-offset-gt63.true

pub returns : goal.returns
returns c =
    let number = c.number_of-number in
    let read = c.read-answer in
    let a = c.args in
    shown-byte (decoded a.words.now) a.image.now a.writer a.page a.line a.offset read.result _
    number.ensures read.ensures.number.0 _ read.ensures.bytes c.if-number-ne0.false c.if-offset-gt63.false
