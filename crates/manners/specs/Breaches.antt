-- The breaches of a line (document 02, Ticket 6), over its runs, their words and bits; and the same from what the reader answers. Definitions only.
use Rattle.std.specs.Prelude.{ℕ, Bool, cond, List, [], ◌∷◌, map, Option, Some, None}
use Rattle.rows.specs.Rows.{Row, row, first_of}
use Rattle.reports.specs.declared.Report.{Report}
use Rattle.reports.specs.Altitude.{AltitudeForm}
use Rattle.reports.specs.Runs.{read_run, is_accepted}
use Rattle.lines.specs.declared.What.{What}
use Rattle.lines.specs.declared.What.TheVariants as W
use Rattle.lines.specs.declared.Outcome.{Outcome}
use Rattle.lines.specs.Stretches.{Run, runs, gathered}
use Rattle.manners.specs.declared.Rule.{Rule}
use Rattle.manners.specs.declared.Rule.TheVariants as R
use Rattle.manners.specs.Numbers.{rule_number}
use Rattle.manners.specs.Rules.{broken, breaks}

-- a breach: the place of its run's first word, and the rule
pub record Breach : Type 0 where
  pub place : ℕ
  pub rule : Rule

abbrev pub breach : ℕ → Rule → Breach
breach place rule = record { place = place; rule = rule }

-- ---- over the runs

-- the rules in their order
abbrev pub rules : List Rule
rules = R.SubstitutionMode3a ∷ R.RelayWithoutModeC ∷ R.ModeCAllZeros ∷ R.MapStopBelowStart ∷ []

-- those that pass a test
abbrev pub passing : (Rule → Bool) → List Rule → List Rule
passing test [] = []
passing test (rule ∷ more) = cond (test rule) (rule ∷ passing test more) (passing test more)

-- the rules that words break, in their order
abbrev pub broken_by : List ℕ → List Rule
broken_by ws = passing (λ rule. broken rule ws) rules

-- an accepted run has a breach for each rule that its words break; a refused run has none
abbrev pub breaches_of : AltitudeForm → Run → List Breach
breaches_of form r = cond (is_accepted (read_run form r.words)) (map (breach r.place) (broken_by r.words)) []

-- "The list has exactly the breaches, by place and then in this order."
abbrev pub breaches : AltitudeForm → List ℕ → List Breach
breaches form line = gathered (breaches_of form) (runs line)

-- the numbers of a list: two a breach, the place and the rule's number
unfoldable pub numbers_of : List Breach → List ℕ
numbers_of [] = []
numbers_of (b ∷ bs) = b.place ∷ rule_number b.rule ∷ numbers_of bs

-- ---- from what the reader answers

-- it is asked with link 0: a breach has no link number (document 02, Ticket 7)
abbrev pub manners_link : ℕ
manners_link = 0

-- the first rule that a record breaks; AtMostOneOfRecord (Claims.antt) says that it breaks no other
abbrev pub rule_rows : Report → List (Row (Option Rule))
rule_rows r = map (λ rule. row (breaks r rule) (Some rule)) rules

abbrev pub found_of : Report → Option Rule
found_of r = first_of (rule_rows r) None

-- a refused run, a line that is not taken and the end have no breach
abbrev pub found_in : What → Option Rule
found_in (W.Accepted r) = found_of r
found_in (W.Refused q) = None
found_in W.End = None

abbrev pub list_of : ℕ → Option Rule → List Breach
list_of place None = []
list_of place (Some rule) = breach place rule ∷ []

-- what an outcome brings to the list
abbrev pub brought_by : Outcome → List Breach
brought_by o = list_of o.first (found_in o.what)
