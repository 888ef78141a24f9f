-- The number of each rule, as it stands in a list of breaches, and the number that document 02 gives the refusal of Ticket 6. Definitions only.
use Rattle.std.specs.Prelude.{ℕ}
use Rattle.manners.specs.declared.Rule.{Rule}
use Rattle.manners.specs.declared.Rule.TheVariants as R
use Rattle.manners.specs.declared.MannersRefusal.{MannersRefusal}
use Rattle.manners.specs.declared.MannersRefusal.TheVariants as M

abbrev pub rule_number : Rule → ℕ
rule_number R.SubstitutionMode3a = 1
rule_number R.RelayWithoutModeC = 2
rule_number R.ModeCAllZeros = 3
rule_number R.MapStopBelowStart = 4

abbrev pub manners_number : MannersRefusal → ℕ
-- list buffer too small
manners_number M.ListTooSmall = 52
