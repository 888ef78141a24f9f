-- `line_writer::bytes::BytesLent::put` meets its contract: the bytes of the words so far stand at the start of the part. Assumes nothing.
use Rattle.std.proofs.Common.{◌≡◌, ◌++◌, ◌*◌, take, drop}
use Rattle.lines.specs.Bytes.{bytes_of}
use Rattle.line_writer.proofs.bytes.BytesLent.put.Given as goal

abbrev pub invariant-loop-i : goal.invariant-loop-i
invariant-loop-i l = l.part ≡ bytes_of (take l.i l.words) ++ drop (l.i * 2) l.initial.part
