-- `field_items::items::field_count` meets its contract. Assumes nothing.
use mathlib.Core.Path.{sym, ap, ◌∙◌}
use Rattle.fields.proofs.Rows.{found_within}
use Rattle.fields.proofs.Taking.{numbers_length}
use Rattle.field_items.specs.Items.{tally_of, items_of_field}
use Rattle.field_items.proofs.Laws.{tally_pairs, items_length}
use Rattle.field_items.proofs.items.field_count.Goals as goal

pub returns-in-Some : goal.returns-in-Some
unfolding items_of_field
returns-in-Some c =
    let e = rw c.numbers-v.ensures at (sym c.find.ensures ∙ c.in-Some.is) in
    let f = c.args.f in (
      rw e (c.tally.ensures.0 ∙ ap tally_of c.items_at.ensures ∙ sym (tally_pairs _ _ (items_length _ (found_within _ _ e) ∙ sym (numbers_length f)))),
      c.tally.ensures.1,
    )
