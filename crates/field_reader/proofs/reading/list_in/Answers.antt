-- `field_reader::reading::list_in` meets its contract. Assumes nothing.
use mathlib.Core.Path.{◌≡◌, refl, sym, ◌∙◌}
use Rattle.std.proofs.Common.{zero-add}
use Rattle.std.specs.Prelude.{Some}
use Rattle.fields.specs.Table.{place_of}
use Rattle.fields.specs.Reading.{type_of, list_in}
use Rattle.field_reader.proofs.reading.list_in.Goals as goal

pub returns : goal.returns
unfolding list_in
returns c =
    let here : place_of (type_of c.args.b.now 0) ≡ Some c.in-Some.place = rw (← c.type_at-code.ensures) (sym c.find.ensures ∙ c.in-Some.is) in
    let e = c.new.ensures in
    rw here (c.list.ensures ∙ rw (e.what_it_is.0, e.what_it_is.1, e.where_it_is.0, e.where_it_is.1, zero-add) refl)
