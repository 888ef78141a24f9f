-- `field_reader::typed::Typed::steps` meets its contract. Assumes nothing.
use mathlib.Core.Path.{◌≡◌, ◌∙◌}
use Rattle.fields.specs.Table.{count_in}
use Rattle.fields.proofs.Rows.{count_small, count_whole}
use Rattle.field_reader.proofs.Small.{small}
use Rattle.field_reader.proofs.typed.Typed.steps.Goals as goal

pub returns : goal.returns
returns c =
    let f = c.args.self.now in
    let p = small f.bytes.now f.before f.place f.row f.values f.in_table f.its_row f.its_values in
    let e : c.count_in.result ≡ count_in f.row f.values = c.count_in.ensures ∙ count_whole f.row f.values p in
    (e, rw e (count_small f.row f.values p))
