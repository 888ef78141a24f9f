-- `line_writer::bytes::write` meets its contract: what is answered and left is what the definition of bytes has. Assumes nothing.
use Rattle.line_writer.proofs.Decided.{byte_writes}
use Rattle.line_writer.proofs.bytes.write.Goals as goal

pub returns : goal.returns
returns c = byte_writes _ _ _ _ _ _ c.write.ensures.answers c.write.ensures.leaves
