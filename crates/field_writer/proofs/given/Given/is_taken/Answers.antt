-- `field_writer::given::Given::is_taken` meets its contract. Assumes nothing.
use borrow.Author.Rules.{rules}
use mathlib.Core.Path.{◌≡◌, refl, sym, ap, ◌∙◌}
use mathlib.Core.List.{map}
use lib.ListN.{length}
use Rattle.std.proofs.lemmas.List.{length-map}
use Rattle.fields.specs.declared.Faults.{Faults}
use Rattle.fields.specs.Table.{row_at, widths_at, rules_at, has_fault, Quiet, RowSmall}
use Rattle.fields.specs.Numbers.{part_rule_number}
use Rattle.fields.specs.Lists.{list_fits}
use Rattle.fields.specs.Reading.{listed}
use Rattle.fields.specs.Writing.{numbers_in, fit_all, takes_at}
use Rattle.fields.proofs.Rows.{widths_narrow, rest_quiet}
use Rattle.fields.proofs.Values.{within_quiet}
use Rattle.fields.proofs.Taking.{fit_numbers}
use Rattle.field_writer.proofs.Left.{fits_small}
use Rattle.field_writer.proofs.given.Given.is_taken.Goals as goal
use Rattle.field_writer.proofs.given.Given.is_taken.Goals.{After-faults_by-found, After-fit_all, After-list_fits, Else-not-fit_all}

fit : (c : After-fit_all) → let g = c.args.self.now in fit_all (widths_at g.place) (numbers_in g.given) ≡ c.fit_all.result
fit c = let g = c.args.self.now in rw (← g.its_widths, ← g.its_values) (sym c.fit_all.ensures)

unused : (c : After-faults_by-found) → let g = c.args.self.now in has_fault 2 (rules_at g.place) (numbers_in g.given) ≡ c.faults_by-found.result.unused
unused c =
    let g = c.args.self.now in
    let fit : fit_all (widths_at g.place) (numbers_in g.given) ≡ c.fit_all.result = rw (← g.its_widths, ← g.its_values) (sym c.fit_all.ensures) in
    let f = fit_numbers g.place g.given g.in_table (fit ∙ c.if-not-fit_all.false) in
    let k = c.rules_at-rules.ensures in
    let n : length c.rules_at-rules.result ≡ 11 = search rules in
    let m : length (map part_rule_number c.rules_at-rules.result) ≡ 11 = length-map _ _ ∙ n in
    let q : Quiet g.widths (rules_at g.place) g.values = rw (g.its_widths, g.its_values) (rest_quiet g.place _ g.in_table f) in
    let e : c.faults_by-found.result ≡ record { spare = has_fault 1 (rules_at g.place) g.values; unused = has_fault 2 (rules_at g.place) g.values } =
    c.faults_by-found.ensures ∙ rw k (within_quiet _ _ _ (rw k at m) (search rules) q) in
    rw (← g.its_values) (sym (ap (λ (x : Faults). x.unused) e))

small : (c : Else-not-fit_all) → let g = c.args.self.now in RowSmall g.row g.values
small c =
    let g = c.args.self.now in
    fits_small g.place g.given g.row g.values g.in_table g.its_row g.its_values (rw (← g.its_widths) (sym c.fit_all.ensures ∙ c.if-not-fit_all.false))

list-ok : (c : After-list_fits) → let g = c.args.self.now in list_fits (row_at g.place).step (listed g.place (numbers_in g.given)) g.list.now ≡ c.list_fits.result
list-ok c = let g = c.args.self.now in rw (← g.its_values, ← g.its_row, ← c.listed.ensures) (sym c.list_fits.ensures)

pub returns-then-not-head_fits : goal.returns-then-not-head_fits
unfolding takes_at
returns-then-not-head_fits c = rw (sym c.head_fits.ensures ∙ c.if-not-head_fits.true)

pub fit_all-requires : goal.fit_all-requires
fit_all-requires c = let g = c.args.self.now in rw g.its_widths (widths_narrow g.place g.in_table)

pub returns-then-not-fit_all : goal.returns-then-not-fit_all
unfolding takes_at
returns-then-not-fit_all c =
    rw (sym c.head_fits.ensures ∙ c.if-not-head_fits.false, fit ((goal.at.returns-then-not-fit_all c).After-fit_all) ∙ c.if-not-fit_all.true)

pub returns-then-found : goal.returns-then-found
unfolding takes_at
returns-then-found c =
    let h = (goal.at.returns-then-found c).After-faults_by-found in
    rw (sym c.head_fits.ensures ∙ c.if-not-head_fits.false, fit ((goal.at.returns-then-found c).After-fit_all) ∙ c.if-not-fit_all.false, unused h ∙ c.if-found.true)

pub listed-requires : goal.listed-requires
listed-requires c = small ((goal.at.listed-requires c).Else-not-fit_all)

pub text_length-requires : goal.text_length-requires
text_length-requires c = small ((goal.at.text_length-requires c).Else-not-fit_all)

pub returns-then-list_fits : goal.returns-then-list_fits
unfolding takes_at
returns-then-list_fits c =
    let g = c.args.self.now in
    let h = (goal.at.returns-then-list_fits c).After-faults_by-found in
    rw (sym c.head_fits.ensures ∙ c.if-not-head_fits.false, fit ((goal.at.returns-then-list_fits c).After-fit_all) ∙ c.if-not-fit_all.false, unused h ∙ c.if-found.false, list-ok ((goal.at.returns-then-list_fits c).After-list_fits) ∙ c.if-list_fits.true, c.text_length.ensures, g.its_values, g.its_row)
    refl

pub returns-else-list_fits : goal.returns-else-list_fits
unfolding takes_at
returns-else-list_fits c =
    let h = (goal.at.returns-else-list_fits c).After-faults_by-found in
    rw (sym c.head_fits.ensures ∙ c.if-not-head_fits.false, fit ((goal.at.returns-else-list_fits c).After-fit_all) ∙ c.if-not-fit_all.false, unused h ∙ c.if-found.false, list-ok ((goal.at.returns-else-list_fits c).After-list_fits) ∙ c.if-list_fits.false, c.if-list_fits.false)
    refl
