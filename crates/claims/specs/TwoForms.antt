-- Document 02, Ticket 5, "The other negative altitude": what the new form of the altitude answers, by what document 01's answers, in reading and in
-- writing, and that nothing else differs between the two. Definitions and statements; proofs/TwoForms.antt proves them.
use Rattle.std.specs.Prelude.{ℕ, ◌≡◌, Bool, true, false, not, cond, List, [], ◌∷◌, eqb, ℤ, pos, neg_ℤ, nat_abs, ◌-ℤ◌, drop, Err, Ok, Result}
use Rattle.refusals.specs.declared.LineRefusal.{LineRefusal}
use Rattle.refusals.specs.declared.LineRefusal.TheVariants.{MinusZero, ValueTooLarge}
use Rattle.refusals.specs.Numbers.{line_number}
use Rattle.words.specs.Tests.{all}
use Rattle.words.specs.Word.{bit}
use Rattle.reports.specs.declared.Height.{Height}
use Rattle.reports.specs.declared.Height.TheVariants as H
use Rattle.reports.specs.declared.Dabs.{Dabs}
use Rattle.reports.specs.declared.Atcrbs.{Atcrbs}
use Rattle.reports.specs.declared.Report.{Report}
use Rattle.reports.specs.declared.Report.TheVariants as R
use Rattle.reports.specs.declared.altitude.Form.{Form}
use Rattle.reports.specs.Altitude.{AltitudeForm, negative, sign_magnitude, twos_complement, form_of}
use Rattle.reports.specs.Claims.{InRange}
use Rattle.reports.specs.Forms.{is_seven}
use Rattle.reports.specs.Kinds.{kind_of}
use Rattle.reports.specs.Records.{report_of}
use Rattle.reports.specs.Layouts.{words_of, Fits, takes, written}
use Rattle.reports.specs.Runs.{read_run}
use Rattle.reports.specs.Values.{counted_of}
use Rattle.lines.specs.declared.What.{What}
use Rattle.lines.specs.declared.What.TheVariants as W
use Rattle.lines.specs.declared.Outcome.{Outcome}
use Rattle.lines.specs.Line.{run_in, outcome_of, read_at}
use Rattle.lines.specs.Bytes.{words_in, read_bytes}
use Rattle.lines.specs.Writing.{Writes}
use Rattle.lines.specs.ByteWriting.{WritesBytes}
use Rattle.index.specs.Entries.{file_of, entry_of}
use Rattle.reports.specs.declared.RunRefusal.{RunRefusal}
use Rattle.lines.specs.declared.NotWritten.{NotWritten}
use Rattle.reports.specs.Runs.{refused_at}

-- ---- a report with another altitude

-- the record with this height
abbrev pub dabs_with : Dabs → Height → Dabs
dabs_with d h = record {
  test = d.test;
  primary = d.primary;
  spi = d.spi;
  reinforced = d.reinforced;
  code7700 = d.code7700;
  code7600 = d.code7600;
  faa = d.faa;
  range = d.range;
  azimuth = d.azimuth;
  alert = d.alert;
  relay = d.relay;
  time = d.time;
  address = d.address;
  height = h;
}

abbrev pub atcrbs_with : Atcrbs → Height → Atcrbs
atcrbs_with a h = record {
  test = a.test;
  mode3a = a.mode3a;
  spi = a.spi;
  reinforced = a.reinforced;
  code7700 = a.code7700;
  code7600 = a.code7600;
  faa = a.faa;
  range = a.range;
  azimuth = a.azimuth;
  confidence = a.confidence;
  transition = a.transition;
  false_target = a.false_target;
  relay = a.relay;
  time = a.time;
  code = a.code;
  file = a.file;
  height = h;
}

-- an altitude as f makes it; any other height stays
abbrev pub height_by : (ℤ → ℤ) → Height → Height
height_by f (H.Altitude z) = H.Altitude (f z)
height_by f (H.Carried n) = H.Carried n
height_by f (H.Cd c n) = H.Cd c n
height_by f (H.Mtd c n) = H.Mtd c n
height_by f (H.Rdas c n) = H.Rdas c n

-- a report with its altitude as f makes it; a report without an altitude stays
abbrev pub altitude_by : (ℤ → ℤ) → Report → Report
altitude_by f (R.Search s) = R.Search s
altitude_by f (R.Strobe s) = R.Strobe s
altitude_by f (R.Map m) = R.Map m
altitude_by f (R.Status s) = R.Status s
altitude_by f (R.Rtqc s) = R.Rtqc s
altitude_by f (R.Dabs d) = R.Dabs (dabs_with d (height_by f d.height))
altitude_by f (R.Atcrbs a) = R.Atcrbs (atcrbs_with a (height_by f a.height))
altitude_by f (R.Mtd m) = R.Mtd m
altitude_by f (R.Rdas r) = R.Rdas r

-- whether a report has an altitude of which a test holds
abbrev pub of_height : (ℤ → Bool) → Height → Bool
of_height test (H.Altitude z) = test z
of_height test (H.Carried n) = false
of_height test (H.Cd c n) = false
of_height test (H.Mtd c n) = false
of_height test (H.Rdas c n) = false

abbrev pub of_altitude : (ℤ → Bool) → Report → Bool
of_altitude test (R.Search s) = false
of_altitude test (R.Strobe s) = false
of_altitude test (R.Map m) = false
of_altitude test (R.Status s) = false
of_altitude test (R.Rtqc s) = false
of_altitude test (R.Dabs d) = of_height test d.height
of_altitude test (R.Atcrbs a) = of_height test a.height
of_altitude test (R.Mtd m) = false
of_altitude test (R.Rdas r) = false

-- ---- reading

-- v below zero in document 01's form is -2048 - v in the new one, by the same twelve bits
abbrev pub turn : ℤ → ℤ
turn v = cond (negative v) (neg_ℤ (pos 2048) -ℤ v) v

abbrev pub turned : Report → Report
turned r = altitude_by turn r

-- minus zero is -2048
abbrev pub lowest : Report → Report
lowest r = altitude_by (λ z. neg_ℤ (pos 2048)) r

abbrev pub is_minus_zero : LineRefusal → Bool
is_minus_zero q = eqb (line_number q) (line_number MinusZero)

-- the answer to a run in the new form, from the one in document 01's
abbrev pub answer_anew : List ℕ → Result Report RunRefusal → Result Report RunRefusal
answer_anew ws (Ok r) = Ok (turned r)
answer_anew ws (Err refusal) = cond (is_minus_zero refusal.why) (Ok (lowest (report_of sign_magnitude ws))) (Err refusal)

abbrev pub NewReading : Type 0
NewReading = (ws : List ℕ) → read_run twos_complement ws ≡ answer_anew ws (read_run sign_magnitude ws)

-- so minus zero is -2048: where document 01's form gives 9, the new one reads a report with that altitude
abbrev pub MinusZeroIsLowest : Type 0
MinusZeroIsLowest =
    (ws : List ℕ) (o : ℕ) → read_run sign_magnitude ws ≡ refused_at MinusZero o
    → (r : Report) × (read_run twos_complement ws ≡ Ok r) × (of_altitude (λ z. all (negative z ∷ eqb (nat_abs z) 2048 ∷ [])) r ≡ true)

-- bits 79-90 are an altitude whose first bit is one: seven words, bit 12 zero, bit 6 one and bit 79 one
abbrev pub low_altitude : List ℕ → Bool
low_altitude ws = all (is_seven ws ∷ not (bit ws 12) ∷ bit ws 6 ∷ bit ws 79 ∷ [])

-- where they are not, the two readings are equal; and a report that has no altitude below zero is the same turned
pub record EqualReadings : Type 0 where
  pub by_bits : (ws : List ℕ) → low_altitude ws ≡ false → read_run twos_complement ws ≡ read_run sign_magnitude ws
  pub by_record : (r : Report) → of_altitude negative r ≡ false → turned r ≡ r

-- the kind, the file number and the values of a report do not depend on its altitude
pub record RestStays : Type 0 where
  pub kind : (f : ℤ → ℤ) (r : Report) → kind_of (altitude_by f r) ≡ kind_of r
  pub file : (f : ℤ → ℤ) (r : Report) → file_of (altitude_by f r) ≡ file_of r
  pub values : (f : ℤ → ℤ) (r : Report) → counted_of (altitude_by f r) ≡ counted_of r

-- the same at a place of a line: what is found is the new answer to the run there, and the three places stay
abbrev pub what_anew : List ℕ → What → What
what_anew ws (W.Accepted r) = W.Accepted (turned r)
what_anew ws (W.Refused q) = cond (is_minus_zero q) (W.Accepted (lowest (report_of sign_magnitude ws))) (W.Refused q)
what_anew ws W.End = W.End

abbrev pub outcome_anew : List ℕ → Outcome → Outcome
outcome_anew ws o = outcome_of (what_anew ws o.what) o.first o.after o.named

-- the run at a place, or behind the idle words there
abbrev pub run_from : List ℕ → ℕ → List ℕ
run_from line place = run_in (drop place line)

abbrev pub NewOutcome : Type 0
NewOutcome = (line : List ℕ) (place : ℕ) → read_at twos_complement line place ≡ outcome_anew (run_from line place) (read_at sign_magnitude line place)

abbrev pub NewOutcomeOfBytes : Type 0
NewOutcomeOfBytes =
    (bytes : List ℕ) (place : ℕ)
    → read_bytes twos_complement bytes place ≡ outcome_anew (run_from (words_in bytes) place) (read_bytes sign_magnitude bytes place)

-- 9 is never given in the new form
abbrev pub NeverMinusZero : Type 0
NeverMinusZero = (line : List ℕ) (place : ℕ) → (read_at twos_complement line place).what ≡ W.Refused MinusZero → ⊥

abbrev pub NeverMinusZeroInBytes : Type 0
NeverMinusZeroInBytes = (bytes : List ℕ) (place : ℕ) → (read_bytes twos_complement bytes place).what ≡ W.Refused MinusZero → ⊥

-- whether minus zero was found
abbrev pub is_nine : What → Bool
is_nine (W.Accepted r) = false
is_nine (W.Refused q) = is_minus_zero q
is_nine W.End = false

-- where it was not, the index is brought the same in both forms
abbrev pub SameEntry : Type 0
SameEntry =
    (bytes : List ℕ) (place scan : ℕ) → is_nine (read_bytes sign_magnitude bytes place).what ≡ false
    → entry_of (read_bytes twos_complement bytes place) scan ≡ entry_of (read_bytes sign_magnitude bytes place) scan

-- ---- writing

-- 11 follows the form's range. An altitude outside it gets 11. One inside it is never the reason: what else stands in the report decides, in both
-- forms alike
pub record ElevenFollows : Type 0 where
  pub outside : (form : Form) (r : Report) (z : ℤ) → of_altitude (λ v. true) r ≡ true → (InRange form z → ⊥)
      → written (form_of form) (altitude_by (λ v. z) r) ≡ Err ValueTooLarge
  pub inside : (form : Form) (r : Report) (z : ℤ) → InRange form z
      → takes (form_of form) (altitude_by (λ v. z) r) ≡ takes sign_magnitude (altitude_by (λ v. pos 0) r)

-- a report without an altitude below zero is written alike in both forms
abbrev pub EqualWriting : Type 0
EqualWriting = (r : Report) → of_altitude negative r ≡ false → written twos_complement r ≡ written sign_magnitude r

-- and one that document 01's form takes has in the new form, with its altitude turned, the same words
abbrev pub TurnedWords : Type 0
TurnedWords = (r : Report) → Fits sign_magnitude r → Fits twos_complement (turned r) × (words_of twos_complement (turned r) ≡ words_of sign_magnitude r)

-- two calls of a writer answer and leave the same, on a line of words and on bytes
pub record WriteAlike (f : AltitudeForm) (r : Report) (g : AltitudeForm) (s : Report) : Type 0 where
  pub words : (line : List ℕ) (place : ℕ) (answer : Result ℕ NotWritten) (exit : List ℕ) → Writes f line place r answer exit → Writes g line place s answer exit
  pub bytes : (bytes : List ℕ) (place : ℕ) (answer : Result ℕ NotWritten) (exit : List ℕ)
      → WritesBytes f bytes place r answer exit → WritesBytes g bytes place s answer exit

pub record SameCalls : Type 0 where
  pub equal : (r : Report) → of_altitude negative r ≡ false → WriteAlike sign_magnitude r twos_complement r
  pub turned : (r : Report) → Fits sign_magnitude r → WriteAlike sign_magnitude r twos_complement (turned r)
