-- `fields::table::ruled` meets its contract: what is written in front leaves the rest. Assumes nothing.
use Rattle.std.proofs.lemmas.List.{drop-replicate}
use Rattle.fields.specs.declared.Rule.TheVariants.{Spare}
use Rattle.fields.proofs.table.ruled.Goals as goal

pub returns : goal.returns
returns g c = rw (c.copy_from_slice.ensures.after, drop-replicate g.row.N 11 Spare)
