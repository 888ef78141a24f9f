-- `manners::wide::list` meets its contract: what is listed of a line that is short enough is what the rows say. Assumes nothing.
use Rattle.std.proofs.Common.{refl, sym, ◌∙◌, arith}
use Rattle.manners.proofs.Answered.{words_taken, words_not_taken, gives_refusal, gives_wide}
use Rattle.manners.proofs.wide.list.Goals as goal

pub returns-in-Some : goal.returns-in-Some
returns-in-Some c = gives_refusal (words_not_taken _ _ _ (sym c.refusal_of_words.ensures ∙ c.in-Some.is)) refl

pub returns : goal.returns
returns c = gives_wide _ _ (words_taken _ (sym c.refusal_of_words.ensures ∙ c.in_default.is)) c.list.ensures

pub invariant_of-list : goal.invariant_of-list
invariant_of-list c =
    let short = words_taken _ (sym c.refusal_of_words.ensures ∙ c.in_default.is) in
    record { short = short; whole = omega arith }
