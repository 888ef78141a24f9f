-- `line_writer::wide::write` meets its contract: what is answered and left is what the definition of words has. Assumes nothing.
use Rattle.line_writer.proofs.Decided.{wide_writes}
use Rattle.line_writer.proofs.wide.write.Goals as goal

pub returns : goal.returns
returns c = wide_writes _ _ _ _ _ _ c.write.ensures.answers c.write.ensures.leaves
