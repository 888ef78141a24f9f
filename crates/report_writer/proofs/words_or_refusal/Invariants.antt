-- The words before the index are those of the data.
use Rattle.std.proofs.Common.{◌≡◌, length, map, take}
use Rattle.words.specs.Word.{word_of}
use Rattle.report_writer.proofs.words_or_refusal.Given as goal

abbrev pub invariant-loop-i : goal.invariant-loop-i
invariant-loop-i g l = record { long : length l.word-items ≡ length l.each; same : take l.i l.word-items ≡ map word_of (take l.i l.each) }
