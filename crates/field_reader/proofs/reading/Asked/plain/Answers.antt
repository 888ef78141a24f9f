-- `field_reader::reading::Asked::plain` meets its contract: the tests in the document's order. Assumes nothing.
use mathlib.Core.Path.{◌≡◌, refl, sym, ◌∙◌}
use mathlib.Core.Bool.{false, not}
use Rattle.std.specs.Prelude.{Some}
use Rattle.fields.specs.Table.{place_of, row_at}
use Rattle.fields.specs.Reading.{type_of, same_way_as, not_relayed, sized_by, values_at}
use Rattle.fields.proofs.Rows.{found_code}
use Rattle.field_reader.specs.Steps.{plain_of, row_read}
use Rattle.field_reader.proofs.Order.{placed, same_is}
use Rattle.field_reader.proofs.reading.Asked.plain.Goals as goal
use Rattle.field_reader.proofs.reading.Asked.plain.Goals.{After-ne, After-is_sized-sized}

-- the place of the code is that of the field's type
here : (c : After-ne) → place_of (type_of c.args.self.now.bytes.now c.args.before) ≡ Some c.in-Some.place
here c = rw (← c.requires.1) (sym c.find.ensures ∙ c.in-Some.is)

by_row : (c : After-ne) →
    let a = c.args in
    let f = a.self.now in
    plain_of f.bytes.now f.count a.before f.way ≡ row_read f.bytes.now f.count a.before f.way c.in-Some.place
by_row c = placed _ _ _ _ _ (here c)

way-is : (c : After-ne) → not (same_way_as (row_at c.in-Some.place).way c.args.self.now.way) ≡ c.ne.result
way-is c = rw (← c.row_at.ensures, ← same_is c.row_at.result.way c.args.self.now.way) (sym c.ne.ensures)

relayed-is : (c : After-is_sized-sized) → not_relayed (row_at c.in-Some.place).code c.args.before ≡ c.not_relayed-relayed.result
relayed-is c = rw (found_code _ _ (sym c.find.ensures ∙ c.in-Some.is)) (sym c.not_relayed-relayed.ensures)

sized-is : (c : After-is_sized-sized) →
    let a = c.args in
    let f = a.self.now in
    sized_by f.count a.before (row_at c.in-Some.place) (values_at f.bytes.now a.before c.in-Some.place) ≡ c.is_sized-sized.result
sized-is c =
    let e = c.new-field.ensures in
    rw (← e.what_it_is.0, ← e.what_it_is.1, ← e.where_it_is.1) (sym c.is_sized-sized.ensures)

pub returns-then-ne : goal.returns-then-ne
unfolding row_read
returns-then-ne c =
    let h = (goal.at.returns-then-ne c).After-ne in
    rw (by_row h, way-is h ∙ c.if-ne.true) refl

pub returns-then-relayed : goal.returns-then-relayed
unfolding row_read
returns-then-relayed c =
    let h = (goal.at.returns-then-relayed c).After-ne in
    let k = (goal.at.returns-then-relayed c).After-is_sized-sized in
    rw (by_row h, way-is h ∙ c.if-ne.false, relayed-is k ∙ c.if-relayed.true) refl

pub returns-then-not-sized : goal.returns-then-not-sized
unfolding row_read
returns-then-not-sized c =
    let h = (goal.at.returns-then-not-sized c).After-ne in
    let k = (goal.at.returns-then-not-sized c).After-is_sized-sized in
    let r : c.not_relayed-relayed.result ≡ false = cc in
    rw (by_row h, way-is h ∙ c.if-ne.false, relayed-is k ∙ r, sized-is k ∙ c.if-not-sized.true) refl

pub returns : goal.returns
unfolding row_read
returns c =
    let h = (goal.at.returns c).After-ne in
    let k = (goal.at.returns c).After-is_sized-sized in
    let e = c.new-field.ensures in
    rw (by_row h, way-is h ∙ c.if-ne.false, relayed-is k ∙ c.if-relayed.false, sized-is k ∙ c.if-not-sized.false)
    (c.judged.ensures ∙ rw (e.what_it_is.0, e.what_it_is.1, e.where_it_is.0, e.where_it_is.1, e.where_it_is.2) refl)
