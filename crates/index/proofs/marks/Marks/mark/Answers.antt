-- `index::marks::Marks::mark` meets its contract: the word of a number gets its bit, and no other. Assumes nothing.
use Rattle.std.proofs.Common.{ℕ, ◌<◌, ◌/◌, length, ap, ◌∙◌, set, arith}
use Rattle.std.specs.Prelude.{◌||◌, eqb}
use Rattle.index.proofs.Twice.{in_words, marks_it}
use Rattle.index.proofs.marks.Marks.mark.Goals as goal

pub returns-clause-now : goal.returns-clause-now
returns-clause-now c m =
    let words = c.args.self.now.words in
    let x = c.from-x.result in
    let e = c.from-x.ensures in
    let there : x / 64 < length words = omega (arith, e) in
    ap (λ (w : ℕ). in_words (set words (x / 64) w) m) c.with_mark.ensures
    ∙ marks_it words x there m
    ∙ ap (λ (n : ℕ). eqb n m || in_words words m) e
