-- `field_writer::given::Given::answer` meets its contract: 30 before 31. Assumes nothing.
use mathlib.Core.Path.{sym, ◌∙◌}
use lib.ListN.{length}
use Rattle.field_writer.proofs.Left.{taken_row}
use Rattle.field_writer.proofs.given.Given.answer.Goals as goal

pub bits-n-requires : goal.bits-n-requires
bits-n-requires c =
    let g = c.args.self.now in
    taken_row g.place g.given g.row g.values g.in_table g.its_row g.its_values g.list.now (length g.text.now) (sym c.is_taken.ensures ∙ c.if-not-is_taken.false)
