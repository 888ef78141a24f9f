-- `field_items::given::Gathered::record` meets its contract: each part by what is given for its item. Assumes nothing.
use mathlib.Core.Path.{ap, ◌∙◌}
use Rattle.fields.specs.declared.Record.TheVariants.{Single, Relay}
use Rattle.field_items.proofs.Laws.{field_is}
use Rattle.field_items.proofs.given.Gathered.record.Goals as goal

pub returns-in-Some : goal.returns-in-Some
returns-in-Some c =
    let e = c.field_at-inner.ensures ∙ field_is c.args.self.now.0 c.values.result c.items_at.result c.args.i c.values.ensures c.items_at.ensures in
    rw (← c.found.ensures, c.in-Some.is) (ap (Relay c.in-Some.sensor) e)

pub returns-in-None : goal.returns-in-None
returns-in-None c =
    let e = c.field_at-inner.ensures ∙ field_is c.args.self.now.0 c.values.result c.items_at.result c.args.i c.values.ensures c.items_at.ensures in
    rw (← c.found.ensures, c.in-None.is) (ap Single e)
