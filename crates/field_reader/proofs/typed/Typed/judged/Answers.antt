-- `field_reader::typed::Typed::judged` meets its contract: spares before values, values before blocks. Assumes nothing.
use borrow.Author.Rules.{rules}
use mathlib.Core.Path.{◌≡◌, sym, ap, ◌∙◌}
use mathlib.Core.List.{map}
use lib.ListN.{length}
use Rattle.std.proofs.lemmas.List.{length-map}
use Rattle.fields.specs.declared.Faults.{Faults}
use Rattle.fields.specs.Numbers.{part_rule_number}
use Rattle.fields.specs.Table.{rules_at, has_fault}
use Rattle.fields.specs.Lists.{any_unused}
use Rattle.fields.specs.Reading.{blocks_by}
use Rattle.field_reader.specs.Steps.{judged_by}
use Rattle.fields.proofs.Values.{within_quiet}
use Rattle.field_reader.proofs.Small.{quiet}
use Rattle.field_reader.proofs.typed.Typed.judged.Goals as goal
use Rattle.field_reader.proofs.typed.Typed.judged.Goals.{After-any_unused, After-faults_by-found}

-- the faults are those of the table's rules
found : (c : After-faults_by-found) →
    let f = c.args.self.now in
    c.faults_by-found.result ≡ record { spare = has_fault 1 (rules_at f.place) f.values; unused = has_fault 2 (rules_at f.place) f.values }
found c =
    let f = c.args.self.now in
    let e = c.rules_at-rules.ensures in
    let n : length c.rules_at-rules.result ≡ 11 = search rules in
    let m : length (map part_rule_number c.rules_at-rules.result) ≡ 11 = length-map _ _ ∙ n in
    c.faults_by-found.ensures ∙ rw (f.its_widths, e) (within_quiet _ _ _ (rw e at m) (search rules) (quiet f.bytes.now f.before f.place f.values f.in_table f.its_values))

-- a spare bit is one
spare : (c : After-faults_by-found) → has_fault 1 (rules_at c.args.self.now.place) c.args.self.now.values ≡ c.faults_by-found.result.spare
spare c = sym (ap (λ (f : Faults). f.spare) (found c))

-- a value is not in use
unused : (c : After-faults_by-found) → has_fault 2 (rules_at c.args.self.now.place) c.args.self.now.values ≡ c.faults_by-found.result.unused
unused c = sym (ap (λ (f : Faults). f.unused) (found c))

-- a block is not in use
block : (c : After-any_unused) →
    let f = c.args.self.now in
    any_unused (blocks_by f.bytes.now f.before f.row f.values) ≡ c.any_unused.result
block c = rw (← c.block_count.ensures.0) (sym c.any_unused.ensures)

pub returns-then-found : goal.returns-then-found
unfolding judged_by
returns-then-found c = rw (spare ((goal.at.returns-then-found c).After-faults_by-found) ∙ c.if-found.true)

pub returns-then-found-2 : goal.returns-then-found-2
unfolding judged_by
returns-then-found-2 c =
    let h = (goal.at.returns-then-found-2 c).After-faults_by-found in
    rw (spare h ∙ c.if-found.false, unused h ∙ c.if-found-2.true)

pub returns-then-any_unused : goal.returns-then-any_unused
unfolding judged_by
returns-then-any_unused c =
    let h = (goal.at.returns-then-any_unused c).After-faults_by-found in
    rw (spare h ∙ c.if-found.false, unused h ∙ c.if-found-2.false, block ((goal.at.returns-then-any_unused c).After-any_unused) ∙ c.if-any_unused.true)

pub returns : goal.returns
unfolding judged_by
returns c =
    let h = (goal.at.returns c).After-faults_by-found in
    rw (spare h ∙ c.if-found.false, unused h ∙ c.if-found-2.false, block ((goal.at.returns c).After-any_unused) ∙ c.if-any_unused.false, c.field_at.ensures)
