-- The outcome at a place of bytes is that at the place of the words that they hold. Assumes nothing.
use Rattle.std.proofs.Common.{[], ap, ◌∙◌, arith}
use Rattle.reports.specs.Altitude.{form_of}
use Rattle.reports.specs.Records.{report_of}
use Rattle.lines.specs.declared.Received.{Received}
use Rattle.lines.proofs.ByteWords.{words_length, bytes_as_words}
use Rattle.manners.proofs.bytes.U8Element.outcome_at.Goals as goal

pub returns : goal.returns
returns c =
    let a = c.args in
    let n = words_length a.line.now in
    let short = c.requires.short in
    let whole = c.requires.whole in
    ap (λ (r : Received). r.outcome) c.read.ensures
    ∙ (bytes_as_words (form_of a.form) a.line.now a.place (report_of (form_of a.form) []) (omega arith) (omega arith)).0
