-- `manners::bytes::list` meets its contract: what is listed of bytes that are few enough and even in number is what the rows say. Assumes nothing.
use Rattle.std.proofs.Common.{refl, sym, ◌∙◌, length, arith}
use Rattle.lines.proofs.ByteWords.{words_length}
use Rattle.manners.proofs.Answered.{bytes_taken, bytes_not_taken, gives_refusal, gives_bytes}
use Rattle.manners.proofs.bytes.list.Goals as goal

pub returns-in-Some : goal.returns-in-Some
returns-in-Some c = gives_refusal (bytes_not_taken _ _ _ (sym c.refusal_of_bytes.ensures ∙ c.in-Some.is)) refl

pub returns : goal.returns
returns c =
    let taken = bytes_taken _ (sym c.refusal_of_bytes.ensures ∙ c.in_default.is) in
    gives_bytes _ _ taken.0 taken.1 c.list.ensures

pub invariant_of-list : goal.invariant_of-list
invariant_of-list c =
    let n = words_length c.args.line.now in
    let taken = bytes_taken (length c.args.line.now) (sym c.refusal_of_bytes.ensures ∙ c.in_default.is) in
    let short = taken.0 in
    let even = taken.1 in
    record { short = omega arith; whole = omega arith }
