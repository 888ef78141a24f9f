-- `line_reader::line::run_at` meets its contract. Assumes nothing.
use lib.ListN.{replicate}
use mathlib.Core.List.{[], ◌∷◌}
use Rattle.reports.specs.Altitude.{form_of}
use Rattle.line_reader.proofs.Places.{answer_law, faulty_law}
use Rattle.line_reader.proofs.line.run_at.Goals as goal

pub returns-then-run : goal.returns-then-run
returns-then-run g c = faulty_law c.places-run.ensures (form_of c.args.form) (replicate 7 0) _ c.if-run.true c.answer.ensures

pub returns : goal.returns
returns g c =
    answer_law c.places-run.ensures (form_of c.args.form) _ _
    (λ i.
    c.word.ensures i
    ∷ c.word-2.ensures i
    ∷ c.word-3.ensures i
    ∷ c.word-4.ensures i
    ∷ c.word-5.ensures i
    ∷ c.word-6.ensures i
    ∷ c.word-7.ensures i
    ∷ [])
    c.answer-2.ensures
