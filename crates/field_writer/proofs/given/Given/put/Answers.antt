-- `field_writer::given::Given::put` meets its contract: the groups of parts one after the other are all the parts. Assumes nothing.
use mathlib.Core.Path.{◌≡◌, refl}
use Prim.Native.Nat.{◌*◌, ◌≤◌}
use native.Mathlib.Omega.{arith}
use lib.ListN.{length}
use Rattle.fields.specs.Table.{row_at, RowSmall}
use Rattle.fields.specs.Reading.{listed}
use Rattle.fields.specs.Writing.{numbers_in, put_field}
use Rattle.fields.proofs.Rows.{widths_narrow}
use Rattle.fields.proofs.Entries.{product}
use Rattle.fields.proofs.Puts.{list_fits_room}
use Rattle.fields.proofs.Taking.{Taken, taken, text_small, groups}
use Rattle.field_writer.proofs.Left.{taken_row}
use Rattle.field_writer.proofs.given.Given.put.Goals as goal
use Rattle.field_writer.proofs.given.Given.put.Goals.{After-bits-size, Start}

told : (c : Start) → let g = c.args.self.now in Taken g.place g.given g.list.now (length g.text.now)
told c = taken _ _ _ _ c.requires

small : (c : Start) → let g = c.args.self.now in RowSmall g.row g.values
small c =
    let g = c.args.self.now in
    taken_row g.place g.given g.row g.values g.in_table g.its_row g.its_values g.list.now (length g.text.now) c.requires

listed-is : (c : After-bits-size) → let g = c.args.self.now in c.listed-n.result ≡ listed g.place (numbers_in g.given)
listed-is c = let g = c.args.self.now in rw (← g.its_values, ← g.its_row) c.listed-n.ensures

-- what is small enough for a sum
bounds : (c : After-bits-size) →
    let g = c.args.self.now in
    (c.head_bits-at.result ≤ 16) × (g.row.base ≤ 96) × (g.row.step ≤ 80) × (c.listed-n.result ≤ 30) × (g.row.step * c.listed-n.result ≤ 80 * 30)
bounds c =
    let g = c.args.self.now in
    let m = g.all_thirty in
    let t : Taken g.place g.given g.list.now (length g.text.now) = taken _ _ _ _ c.requires in
    let p : RowSmall g.row g.values = taken_row g.place g.given g.row g.values g.in_table g.its_row g.its_values g.list.now (length g.text.now) c.requires in
    let room = list_fits_room (row_at g.place).step (listed g.place (numbers_in g.given)) g.list.now t.list in
    let n : c.listed-n.result ≤ 30 = rw (listed-is c) (omega arith) in
    (c.head_bits-at.ensures.1, p.base, p.step, n, product g.row.step c.listed-n.result 80 30 p.step n)

pub listed-n-requires : goal.listed-n-requires
listed-n-requires c = small ((goal.at.listed-n-requires c).Start)

pub bits-size-requires : goal.bits-size-requires
bits-size-requires c = small ((goal.at.bits-size-requires c).Start)

pub put_parts-requires : goal.put_parts-requires
put_parts-requires c =
    let g = c.args.self.now in
    let b = bounds ((goal.at.put_parts-requires c).After-bits-size) in
    (omega arith, rw g.its_widths (widths_narrow g.place g.in_table))

pub overflow_add-at : goal.overflow_add-at
overflow_add-at c = omega (arith, bounds ((goal.at.overflow_add-at c).After-bits-size))

pub put_entries-requires : goal.put_entries-requires
put_entries-requires c = let b = bounds ((goal.at.put_entries-requires c).After-bits-size) in (omega arith, b.2, b.3)

pub overflow_add-at-2 : goal.overflow_add-at-2
overflow_add-at-2 c = omega (arith, bounds ((goal.at.overflow_add-at-2 c).After-bits-size))

pub overflow_mul-step : goal.overflow_mul-step
overflow_mul-step c = omega (arith, (bounds ((goal.at.overflow_mul-step c).After-bits-size)).4)

pub overflow_add-at-3 : goal.overflow_add-at-3
overflow_add-at-3 c = omega (arith, bounds ((goal.at.overflow_add-at-3 c).After-bits-size))

pub put_text-requires : goal.put_text-requires
put_text-requires c =
    let g = c.args.self.now in
    let p = small ((goal.at.put_text-requires c).Start) in
    let t = text_small g.row g.values p in
    let n : length g.text.now ≤ 460 = rw ((told ((goal.at.put_text-requires c).Start)).text, ← g.its_row, ← g.its_values) t in
    (omega (arith, bounds ((goal.at.put_text-requires c).After-bits-size)), omega arith)

pub returns : goal.returns
unfolding put_field
returns c =
    let g = c.args.self.now in
    let m = g.all_thirty in
    let h = (goal.at.returns c).After-bits-size in
    let b = bounds h in
    rw (c.write.ensures, c.put_text.ensures, c.put_entries.ensures, c.put_parts.ensures, c.put_head.ensures, listed-is h, g.its_widths, c.head_bits-at.ensures.0, g.its_values, g.its_row, c.bits-size.ensures.0, groups g.place g.given g.list.now g.text.now c.args.s.now g.in_table (omega (arith, listed-is h)))
    refl
