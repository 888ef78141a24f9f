-- What is claimed of the forms of the altitude, and of reports in any sound form: demand 2, and each refusal exactly under its condition. Statements
-- only; proofs/Claims.antt, Altitudes.antt, Demand2.antt and Refusals.antt prove them.
use Rattle.std.specs.Prelude.{ℕ, ◌≤◌, ◌<◌, ◌≡◌, true, false, List, [], ◌∷◌, ◌↔◌, ◌⊎◌, ℤ, pos, negsuc, length, get_or, Ok}
use Rattle.rows.specs.Claims.{FirstIs}
use Rattle.refusals.specs.declared.LineRefusal.{LineRefusal}
use Rattle.words.specs.Word.{wider_than_a_word, even, first}
use Rattle.reports.specs.declared.Report.{Report}
use Rattle.reports.specs.declared.altitude.Form.{Form}
use Rattle.reports.specs.declared.altitude.Form.TheVariants as F
use Rattle.reports.specs.Altitude.{AltitudeForm, Sound, sign_magnitude, twos_complement, form_of, form_number, chosen}
use Rattle.words.specs.Layout.{twelve_each}
use Rattle.reports.specs.Layouts.{layout_of, words_of, Fits, Takes, as_written, written}
use Rattle.reports.specs.Conditions.{HasLayout}
use Rattle.reports.specs.Runs.{refused_at, table_of, judged, read_run}

-- ---- the forms of the altitude

-- each form that a call can be given, document 01's and the other one, is one of those of which the claims below speak
abbrev pub FormsSound : Type 0
FormsSound = (form : Form) → Sound (form_of form)

-- -least to greatest
abbrev pub Within : ℕ → ℕ → ℤ → Type 0
Within least greatest (pos n) = n ≤ greatest
Within least greatest (negsuc n) = n < least

abbrev pub InRange : Form → ℤ → Type 0
InRange F.SignMagnitude z = Within 2047 2047 z
InRange F.TwosComplement z = Within 2048 2047 z

-- these altitudes have twelve bits, and no others
abbrev pub RangeOfEach : Type 0
RangeOfEach = (form : Form) (z : ℤ) → ((form_of form).bits_of z < 4096) ↔ InRange form z

-- every pattern is valid in the new form: none is refused, and twelve bits are the bits of the altitude that they say
pub record EveryPatternValid : Type 0 where
  pub none_refused : (n : ℕ) → twos_complement.refused n ≡ false
  pub has_altitude : (n : ℕ) → n < 4096 → twos_complement.bits_of (twos_complement.altitude n) ≡ n

-- from C: each form is chosen by its number, document 01's by 0, and the new one by any other number
pub record NumbersOfForms : Type 0 where
  pub own : (form : Form) → chosen (form_number form) ≡ form_of form
  pub document : chosen 0 ≡ sign_magnitude
  pub any_other : (n : ℕ) → 0 < n → chosen n ≡ twos_complement

-- ---- demand 2: each statement of one form, and then of every sound form

-- a run is the report r exactly when its words are those of r, and r's values fit their fields
abbrev pub Demand2In : AltitudeForm → Type 0
Demand2In form = (ws : List ℕ) (r : Report) → (read_run form ws ≡ Ok r) ↔ ((ws ≡ words_of form r) × Fits form r)

abbrev pub Demand2 : Type 0
Demand2 = (form : AltitudeForm) → Sound form → Demand2In form

-- a run is accepted exactly when it has one of the layouts, by bit numbers; and that is to be the words of a record that fits
abbrev pub AcceptedExactly : Type 0
AcceptedExactly = (form : AltitudeForm) (ws : List ℕ) → ((r : Report) × (read_run form ws ≡ Ok r)) ↔ HasLayout form ws

abbrev pub LayoutIsWordsIn : AltitudeForm → Type 0
LayoutIsWordsIn form = (ws : List ℕ) → HasLayout form ws ↔ ((r : Report) × (ws ≡ words_of form r) × Fits form r)

abbrev pub LayoutIsWords : Type 0
LayoutIsWords = (form : AltitudeForm) → Sound form → LayoutIsWordsIn form

-- every layout has twelve bits a word, so that what is claimed of such layouts by bit numbers (LaidOut of words) is claimed of each report's
abbrev pub TwelveBitsAWord : Type 0
TwelveBitsAWord = (form : AltitudeForm) (r : Report) → twelve_each (layout_of form r) ≡ true

-- a report has four words or seven
abbrev pub FourOrSeven : Type 0
FourOrSeven = (form : AltitudeForm) (r : Report) → (length (words_of form r) ≡ 4) ⊎ (length (words_of form r) ≡ 7)

-- an accepted run's record written out again gives the same words, and the writer, where it takes the record, hands them out
abbrev pub WrittenAgainIn : AltitudeForm → Type 0
WrittenAgainIn form =
    (ws : List ℕ) (r : Report) → read_run form ws ≡ Ok r → (words_of form r ≡ ws) × (Takes form r → written form r ≡ as_written ws)

abbrev pub WrittenAgain : Type 0
WrittenAgain = (form : AltitudeForm) → Sound form → WrittenAgainIn form

-- a record that the writer takes, written and read, gives the same record
abbrev pub ReadBackIn : AltitudeForm → Type 0
ReadBackIn form = (r : Report) → Takes form r → (written form r ≡ as_written (words_of form r)) × (read_run form (words_of form r) ≡ Ok r)

abbrev pub ReadBack : Type 0
ReadBack = (form : AltitudeForm) → Sound form → ReadBackIn form

-- the writer takes every record that can be read
abbrev pub TakesWhatFits : Type 0
TakesWhatFits = (form : AltitudeForm) (r : Report) → Fits form r → Takes form r

-- ---- the refusals

-- a refusal is given exactly where its row's condition holds and none of an earlier row does
abbrev pub RefusedExactly : Type 0
RefusedExactly = (form : AltitudeForm) (ws : List ℕ) (q : LineRefusal) (o : ℕ) → (read_run form ws ≡ refused_at q o) ↔ FirstIs (table_of form ws) (refused_at q o)

-- ---- for the line

-- the first seven words, with 0 for those that are not there
abbrev pub first_seven : List ℕ → List ℕ
first_seven ws = get_or ws 0 0 ∷ get_or ws 1 0 ∷ get_or ws 2 0 ∷ get_or ws 3 0 ∷ get_or ws 4 0 ∷ get_or ws 5 0 ∷ get_or ws 6 0 ∷ []

-- no more than those are looked at once the count and the first too wide and first even word are known
abbrev pub FirstSeven : Type 0
FirstSeven = (form : AltitudeForm) (ws : List ℕ) (n w e : ℕ) → judged form (first_seven ws) n w e ≡ judged form ws n w e

-- so what is judged of a run's first seven words, its length and its first too wide and first even word is what the whole run is read as
abbrev pub JudgedIsRead : Type 0
JudgedIsRead = (form : AltitudeForm) (ws : List ℕ) → judged form (first_seven ws) (length ws) (first wider_than_a_word ws) (first even ws) ≡ read_run form ws
