-- Bytes hold half as many words, where they are even in number. Assumes nothing.
use Rattle.std.proofs.Common.{arith}
use Rattle.lines.proofs.ByteWords.{words_length}
use Rattle.manners.proofs.bytes.U8Element.count_words.Goals as goal

pub returns : goal.returns
returns c = let n = words_length c.args.line.now in omega arith
