-- The numbers that the definitions name rules and faults with. Definitions only.
use Rattle.std.specs.Prelude.{ℕ, cond, ◌==◌, None, Option, Some}
use Rattle.fields.specs.declared.Rule.{Rule}
use Rattle.fields.specs.declared.Rule.TheVariants as R
use Rattle.fields.specs.declared.Fault.{Fault}
use Rattle.fields.specs.declared.Fault.TheVariants as F

-- as specs/Table.antt names them: any, spare, not_zero, one, up_to4, up_to5, advisory
abbrev pub part_rule_number : Rule → ℕ
part_rule_number R.Any = 0
part_rule_number R.Spare = 1
part_rule_number R.NotZero = 2
part_rule_number R.One = 3
part_rule_number R.UpTo4 = 4
part_rule_number R.UpTo5 = 5
part_rule_number R.Advisory = 6

-- and back: a number that none of them has is any value, as `fault_of` has it
abbrev pub part_rule_numbered : ℕ → Rule
part_rule_numbered n =
    cond (n == 1) R.Spare
    (cond (n == 2) R.NotZero
    (cond (n == 3) R.One
    (cond (n == 4) R.UpTo4
    (cond (n == 5) R.UpTo5
    (cond (n == 6) R.Advisory R.Any)))))

-- 0 where nothing is wrong
abbrev pub fault_number : Option Fault → ℕ
fault_number None = 0
fault_number (Some F.Spare) = 1
fault_number (Some F.Unused) = 2
