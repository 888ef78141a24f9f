-- `line_writer::bytes::answer` meets its contract. Assumes nothing.
use Rattle.std.proofs.Common.{ap, ◌∙◌}
use Rattle.line_writer.specs.Deciding.{lent_answer}
use Rattle.line_writer.proofs.Decided.{byte_rows}
use Rattle.line_writer.proofs.bytes.answer.Goals as goal

pub returns : goal.returns
returns c = c.answer.ensures ∙ ap (lent_answer _ _ _) c.words_of-made.ensures ∙ byte_rows _ _ _ _
