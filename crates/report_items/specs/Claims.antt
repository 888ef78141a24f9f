-- What is claimed of the report that a C program gives. Statements only; proofs/Claims.antt proves them.
use Rattle.std.specs.Prelude.{ℕ, ◌%◌, ◌^◌, ◌<◌, ◌≤◌, ◌≡◌, List, ◌↔◌, ℤ, pos, negsuc, length}
use Rattle.pairs.specs.Pairs.{pairs_in}
use Rattle.reports.specs.declared.Report.{Report}
use Rattle.reports.specs.declared.altitude.Form.{Form}
use Rattle.reports.specs.Altitude.{AltitudeForm, form_of}
use Rattle.reports.specs.Kinds.{kind_of, kind_number}
use Rattle.reports.specs.Layouts.{Takes}
use Rattle.report_items.specs.Items.{last, items_of, item_of}
use Rattle.report_items.specs.Given.{item_given, given, unfit}

-- the items are those of a report: whole, as many as it has, and for each item's number what it has
pub record ItemsOf (r : Report) (items : List ℕ) : Type 0 where
  pub whole : length items % 16 ≡ 0
  pub many : length (pairs_in items) ≡ length (items_of r)
  pub each : (n : ℕ) → 0 < n → n ≤ last → item_given (pairs_in items) n ≡ item_of r n

-- -32768 to 32767: what sixteen bits hold with a sign
abbrev pub InSixteenBits : ℤ → Type 0
InSixteenBits (pos n) = n < 2 ^ 15
InSixteenBits (negsuc n) = n < 2 ^ 15

-- what is asked of a form of the altitude: whatever it can write, sixteen bits hold
abbrev pub FitsSixteenBits : AltitudeForm → Type 0
FitsSixteenBits form = (z : ℤ) → form.bits_of z < 4096 → InSixteenBits z

-- each form that a call can be given is so
abbrev pub FormsFit : Type 0
FormsFit = (form : Form) → FitsSixteenBits (form_of form)

-- a report that the writer takes is given by its own kind and its own items, in any order, and by nothing else
abbrev pub GivenExactly : Type 0
GivenExactly =
    (form : AltitudeForm) → FitsSixteenBits form → (r : Report) → Takes form r
    → (kind : ℕ) (items : List ℕ) → (given kind items ≡ r) ↔ ((kind ≡ kind_number (kind_of r)) × ItemsOf r items)

-- what stands for no record is refused by the writer
abbrev pub NoneIsTaken : Type 0
NoneIsTaken = (form : AltitudeForm) → Takes form unfit → ⊥
