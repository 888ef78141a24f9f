-- The three demands on the converter, sentence by sentence, in their order. Each sentence stands in the user's own words; the definition under it
-- says it, by the definitions and claims of the crates below. Where altitudes matter it is said for every sound altitude form; each form that a call
-- can be given is one (`forms` under MeanWhatIsPrinted), and InEachForm says demands 2 and 3 for each of them. A reader is given a link number too
-- (document 02, Ticket 7): "Demand 2's round trip is read for a fixed link number; demand 3 speaks of lines read with one number", and so they are said
-- here. Laws on what is found (`read_by`, `read_at`, `read_bytes`, `calls`, `outcomes`) are laws on what the readers answer by ReadWithOneNumber. Demands,
-- at the end, gathers all, and proofs/Demands.antt proves it as one value. Statements only, with what they need to be said.
use Rattle.std.specs.Prelude.{ℕ, ◌+◌, ◌-◌, ◌/◌, ◌%◌, ◌≤◌, ◌≡◌, true, List, [], ◌∷◌, ◌++◌, ◌↔◌, T, ℤ, length, take, drop, replicate, Err, None, Ok, Option, Result, Some}
use Rattle.std.specs.Float.{binary64}
use Rattle.std.specs.Float.Ieee.{fits}
use Rattle.refusals.specs.declared.LineRefusal.{LineRefusal}
use Rattle.refusals.specs.declared.FieldRefusal.{FieldRefusal}
use Rattle.words.specs.Claims as words
use Rattle.words.specs.Word.{idle}
use Rattle.measures.specs.Claims as measures
use Rattle.bits.specs.Bits.{Bytes}
use Rattle.reports.specs.Claims as reports
use Rattle.reports.specs.declared.Report.{Report}
use Rattle.reports.specs.declared.altitude.Form.{Form}
use Rattle.reports.specs.Altitude.{AltitudeForm, Sound, form_of}
use Rattle.reports.specs.Layouts.{words_of}
use Rattle.reports.specs.Runs.{read_run}
use Rattle.reports.specs.Values.{Counted, Yields}
use Rattle.lines.specs.Claims as lines
use Rattle.lines.specs.declared.What.{What}
use Rattle.lines.specs.declared.What.TheVariants as W
use Rattle.lines.specs.declared.Received.{Received}
use Rattle.lines.specs.Line.{most, outcome_of}
use Rattle.lines.specs.Bytes.{most_bytes, words_in}
use Rattle.lines.specs.Links.{last_link, received_on, read_on, read_bytes_on, outcomes_on}
use Rattle.lines.specs.Spaced.{Spaced, line_of, reports_of, AllFit, Apart}
use Rattle.lines.specs.Writing.{Writes}
use Rattle.lines.specs.ByteWriting.{WritesBytes}
use Rattle.fields.specs.Claims as fields
use Rattle.fields.specs.declared.Direction.{Direction}
use Rattle.fields.specs.declared.Record.{Record}
use Rattle.fields.specs.Reading.{answer_of, read_field, text_of}
use Rattle.fields.specs.Writing.{takes, bits_in, way_in, bytes_in, written_of, left_of}
use Rattle.claims.specs.Numbers.{NumbersDiffer, NoNumberIsZero}
use Rattle.claims.specs.Twelve.{Twelve}
use Rattle.claims.specs.Printed.{AsPrinted, OnlyPrinted, EntriesAsPrinted, RulesAsPrinted, AllHaveRules}
use Rattle.measures.specs.declared.Measured.{Measured}
use Rattle.lines.specs.Writing.{not_written}

-- ---- demand 1

-- what a promise of an answer and of a buffer at exit allows: one of each, whatever was given
abbrev pub AllowsOne : {A : Type 0} → (A → List ℕ → Type 0) → Type 0
AllowsOne {A} P = (a : A) × (exit : List ℕ) × P a exit × ((b : A) (left : List ℕ) → P b left → (b ≡ a) × (left ≡ exit))

-- what the writer of fields promises
pub record WritesField (r : Record) (l : List ℤ) (t s : List ℕ) (answer : Result ℕ FieldRefusal) (exit : List ℕ) : Type 0 where
  pub answers : answer ≡ written_of r l t s
  pub leaves : exit ≡ left_of r l t s

-- "The reader and the writer take every input there is, of every length, damaged or not, and end. Nobody has to test a line before handing
-- it in." That a call asks for nothing and returns is no claim here: the checker holds every function to it, and no public one has a
-- `requires`. They are wide::read and bytes::read of line_reader; wide::write, bytes::write and bytes::answer of line_writer; read, judge and text
-- of field_reader's reading; write and answer of field_writer's writing. A reader's promise is an equation with a definition that answers every
-- input; a writer's allows one answer and one buffer at exit (words, bytes, fields). On a line, from a place and with a link number that are taken, every
-- outcome but the end goes on (onward), and a line of n words is done within (n + 1) / 2 rounded down, plus one, calls (enough)
pub record TakeEveryInputAndEnd : Type 0 where
  pub words : (form : AltitudeForm) (line : List ℕ) (place : ℕ) (r : Report) → AllowsOne (Writes form line place r)
  pub bytes : (form : AltitudeForm) (bytes : List ℕ) (place : ℕ) (r : Report) → AllowsOne (WritesBytes form bytes place r)
  pub fields : (r : Record) (l : List ℤ) (t s : List ℕ) → AllowsOne (WritesField r l t s)
  pub onward : lines.Onward
  pub enough : lines.CallsEnough

-- the line is taken, and has only idle words from the place on
abbrev pub OnlyIdleLeft : List ℕ → ℕ → Type 0
OnlyIdleLeft line place = (length line ≤ most) × (place ≤ length line) × (drop place line ≡ replicate (length line - place) idle)

-- the bytes are taken, and the line of the words that they hold has only idle words from the place on
abbrev pub OnlyIdleBytesLeft : List ℕ → ℕ → Type 0
OnlyIdleBytesLeft bytes place = (length bytes ≤ most_bytes) × (length bytes % 2 ≡ 0) × OnlyIdleLeft (words_in bytes) place

-- "What can't be accepted gets one numbered refusal": a place has a report, a refusal or the end, and the end is told exactly where only
-- idle words are left and the link number is one from 0 to 15, so no word is passed over without a name; a number names one refusal, and 0 names none
pub record OneNumberedRefusal : Type 0 where
  pub end : (form : AltitudeForm) (link : ℕ) (line : List ℕ) (place : ℕ)
      → ((read_on form link line place).outcome.what ≡ W.End) ↔ ((link ≤ last_link) × OnlyIdleLeft line place)
  pub end_of_bytes : (form : AltitudeForm) (link : ℕ) (bytes : List ℕ) (place : ℕ)
      → ((read_bytes_on form link bytes place).outcome.what ≡ W.End)
      ↔ ((link ≤ last_link) × OnlyIdleBytesLeft bytes place)
  pub numbers : NumbersDiffer
  pub none_is_0 : NoNumberIsZero

-- "A skip without a name is the fault I want designed out": every word of a line is idle, in a report or in a refused run, and the words of
-- the outcomes, as a line is read, are all of those that are not idle
pub record NoSkipWithoutAName : Type 0 where
  pub words_add : lines.TotalsAdd
  pub words_counted : lines.TotalsCounted

-- "given exactly under that number's condition": in reading and in writing, of words, of bytes and of fields, the refusal is that of the
-- first row of document 01's table whose condition holds, and it names that row's place. In reading a line the row of the link (document 02, Ticket 7)
-- stands in front
pub record GivenExactly : Type 0 where
  pub reading_words : lines.ReaderRefuses
  pub reading_bytes : lines.ByteReaderRefuses
  pub places : lines.PlacesGiven
  pub writing_words : lines.WriterRefuses
  pub writing_bytes : lines.ByteWriterRefuses
  pub reading_fields : fields.RefusedExactly
  pub writing_fields : fields.WriterRefuses

-- "and a refusal leaves the lent buffers untouched": those lent to a writer, by its promise. Those lent to a reader are lent for reading
-- alone (`&[T]`), which the language holds it to
pub record LeavesUntouched : Type 0 where
  pub words : (form : AltitudeForm) (line : List ℕ) (place : ℕ) (r : Report) (q : LineRefusal) (p : ℕ) (exit : List ℕ)
      → Writes form line place r (not_written q p) exit → exit ≡ line
  pub bytes : (form : AltitudeForm) (bytes : List ℕ) (place : ℕ) (r : Report) (q : LineRefusal) (p : ℕ) (exit : List ℕ)
      → WritesBytes form bytes place r (not_written q p) exit → exit ≡ bytes
  pub fields : (r : Record) (l : List ℤ) (t s : List ℕ) (q : FieldRefusal) (exit : List ℕ)
      → WritesField r l t s (Err q) exit → exit ≡ s

-- ---- demand 2

-- the floats of a report's values are doubles, as `f64` has them
abbrev pub Doubles : Option Measured → Type 0
Doubles (Some m) = T (fits binary64 m.range) × T (fits binary64 m.azimuth) × T (fits binary64 m.time)
Doubles None = Unit {0}

-- "Reports and link data fields mean what FAA-RD-80-14, with its errata and the readings written in document 01, says they mean." What they
-- mean is defined twice, by bit numbers as the tables print it and by the widths of what is written, and the two are one: a run is read as a
-- report exactly when its words are the report's, and a field as a record exactly when its bytes are the record's. The bit numbers of reports
-- stand in reports/specs/Records.antt, the patterns that tell the form in Forms.antt, those of fields in Printed.antt. The weights of counts are
-- the printed ones, in the definitions and in the code's types, a report's counts have one range, azimuth and time in doubles, and the worked cases hold
pub record MeanWhatIsPrinted : Type 0 where
  pub runs : reports.Demand2
  pub forms : reports.FormsSound
  pub layouts : words.LaidOut
  pub of_twelve_bits : reports.TwelveBitsAWord
  pub of_four_or_seven : reports.FourOrSeven
  pub fields : fields.FieldsMean
  pub fields_by_bits : AsPrinted
  pub no_other_type : OnlyPrinted
  pub rules_by_bits : RulesAsPrinted
  pub rules_of_all : AllHaveRules
  pub lists_by_bits : (s : List ℕ) (k : ℕ) → EntriesAsPrinted s k
  pub weights : measures.WeightsAsPrinted
  pub weights_in_code : measures.WeightsInCode
  pub values : (c : Counted) (x y : Option Measured) → Doubles x → Doubles y → Yields c x → Yields c y → x ≡ y
  pub twelve : Twelve

-- a field's bytes, count and direction are those of a record, a list and a text that the writer takes
abbrev pub HasFieldLayout : List ℕ → ℕ → Direction → Record → Type 0
HasFieldLayout s n w r =
    (l : List ℤ) × (t : List ℕ) × (s ≡ bytes_in r l t) × (n ≡ bits_in r) × (w ≡ way_in r) × (takes r l t ≡ true) × (length l ≡ 30) × Bytes t

-- "A message is accepted exactly when it has one of those layouts": a run by its bits, and by the words that a layout makes; a field by its
-- bits (none of the table's conditions holds), and by the bytes that are written for a record
pub record AcceptedExactly : Type 0 where
  pub runs : reports.AcceptedExactly
  pub runs_by_words : reports.LayoutIsWords
  pub fields : fields.AcceptedExactly
  pub fields_by_bytes : (s : List ℕ) (n : ℕ) (w : Direction) (r : Record) → Bytes s → (answer_of s n w ≡ Ok r) ↔ HasFieldLayout s n w r

-- the words of a line from a place up to another
abbrev pub between : ℕ → ℕ → List ℕ → List ℕ
between first after line = take (after - first) (drop first line)

-- a report has the words of the run that it was read from, there on the line, of words and of bytes; read with this link number
pub record WordsThere (form : AltitudeForm) (link : ℕ) : Type 0 where
  pub on_a_line : (line : List ℕ) (place : ℕ) (r : Report) → let o = (read_on form link line place).outcome in o.what ≡ W.Accepted r
      → words_of form r ≡ between o.first o.after line
  pub on_bytes : (bytes : List ℕ) (place : ℕ) (r : Report) → let o = (read_bytes_on form link bytes place).outcome in o.what ≡ W.Accepted r
      → words_of form r ≡ between o.first o.after (words_in bytes)

-- "its record written out again gives the same bits": of a run, there on the line (there); and the writer puts a field's bytes into any lent bytes
-- that have room, of which those behind stay
pub record WrittenAgain : Type 0 where
  pub runs : reports.WrittenAgain
  pub there : (form : AltitudeForm) → Sound form → (link : ℕ) → WordsThere form link
  pub fields : (s : List ℕ) (n : ℕ) (w : Direction) (r : Record) → Bytes s → answer_of s n w ≡ Ok r
      → (b : List ℕ) → Bytes b → length s ≤ length b
      → WritesField r (read_field s n w).list (text_of s n w) b (Ok n) (s ++ drop (length s) b)

-- a report read at the place where it was written, of words and of bytes; read with this link number
pub record ReadThere (form : AltitudeForm) (link : ℕ) : Type 0 where
  pub on_a_line : (line : List ℕ) (place : ℕ) (r : Report) (next : ℕ) (exit : List ℕ) → Writes form line place r (Ok next) exit
      → read_on form link exit place ≡ received_on link (outcome_of (W.Accepted r) place (next - 1) place)
  pub in_bytes : (bytes : List ℕ) (place : ℕ) (r : Report) (next : ℕ) (exit : List ℕ) → WritesBytes form bytes place r (Ok next) exit
      → read_bytes_on form link exit place ≡ received_on link (outcome_of (W.Accepted r) place (next - 1) place)

-- "and, of those the writer takes, a record written and read gives the same record": a report where it was written (there); and a record with its
-- list and its text. A list has thirty numbers, and a text is bytes
pub record ReadAgain : Type 0 where
  pub runs : reports.ReadBack
  pub runs_taken : reports.TakesWhatFits
  pub there : (form : AltitudeForm) → Sound form → (link : ℕ) → link ≤ last_link → ReadThere form link
  pub fields : (r : Record) (l : List ℤ) (t b : List ℕ) (n : ℕ) (exit : List ℕ) → length l ≡ 30 → Bytes t → Bytes b
      → WritesField r l t b (Ok n) exit
      → (read_field (take ((n + 7) / 8) exit) n (way_in r) ≡ record { answer = Ok r; list = l })
      × (text_of (take ((n + 7) / 8) exit) n (way_in r) ≡ t)

-- ---- demand 3

-- document 02, Ticket 7: "demand 3 speaks of lines read with one number." The laws on whole lines, here and above, speak of what is found: `read_at` and
-- `read_bytes` at a place, `calls` and `outcomes` on a line. With a link number from 0 to 15 the readers answer just that, each outcome with that
-- number: one call (one_call), and calls one after the other (calls). Bytes are read as the words that they hold (bytes)
pub record ReadWithOneNumber : Type 0 where
  pub one_call : lines.WithItsNumber
  pub calls : lines.OnOneLink
  pub bytes : lines.BytesAsTheirWords

-- "Take two lists of acceptable reports, each written with at least one idle word between neighbours and any number at the ends, within
-- 32,768 words. If the lines are equal, so are the lists": and calls of the writer leave such lines
pub record EqualLinesEqualLists : Type 0 where
  pub lists : lines.EqualLists
  pub written : lines.WrittenSo

-- the reports among outcomes, in order
abbrev pub reports_in : List Received → List Report
reports_in [] = []
reports_in (r ∷ rs) = among r.outcome.what (reports_in rs)
  where
    among : What → List Report → List Report
    among (W.Accepted r) rs = r ∷ rs
    among (W.Refused q) rs = rs
    among W.End rs = rs

-- the reports of a line that is read with this link number are the list that was written
abbrev pub ListBack : AltitudeForm → ℕ → Type 0
ListBack form link =
    (ss : List Spaced) (tail : ℕ) → AllFit form ss → Apart ss → length (line_of form ss tail) ≤ most
    → reports_in (outcomes_on (read_run form) link (line_of form ss tail)) ≡ reports_of ss

-- "and reading the line gives the list back": every outcome is a report, with its places, up to the end; and the reports are the list
pub record ReadingGivesTheList : Type 0 where
  pub outcomes_are : lines.ReadsBack
  pub reader : lines.ReaderReturns
  pub list : (form : AltitudeForm) → Sound form → (link : ℕ) → link ≤ last_link → ListBack form link

-- "On any line of that length or less, read from its start, each unbroken stretch of non-idle words gets exactly one outcome, in order: the
-- one those words get alone, places moved along": of the stretches, and what they are
pub record OneOutcomeEach : Type 0 where
  pub outcomes_are : lines.OneEach
  pub stretches : lines.RunsAre

-- "Replace the words between two idle words that stay by equally many others: every outcome outside is the same."
abbrev pub OutsideStays : Type 0
OutsideStays = lines.Replaced

-- ---- demands 2 and 3 in each form of the altitude

-- document 02, Ticket 5: "Demands 2 and 3 are read for one form at a time, the same for reader and writer." What is said above of every sound form,
-- here of one. By `reader` the outcomes of a list, with their places, are those of ReadsBack
pub record InOneForm (form : AltitudeForm) : Type 0 where
  pub runs : reports.Demand2In form
  pub layouts : reports.LayoutIsWordsIn form
  pub written_again : reports.WrittenAgainIn form
  pub words_there : (link : ℕ) → WordsThere form link
  pub read_back : reports.ReadBackIn form
  pub read_there : (link : ℕ) → link ≤ last_link → ReadThere form link
  pub equal_lists : lines.EqualListsIn form
  pub reader : lines.Returns (read_run form) form
  pub list_back : (link : ℕ) → link ≤ last_link → ListBack form link

abbrev pub InEachForm : Type 0
InEachForm = (form : Form) → InOneForm (form_of form)

-- ---- all of them

pub record Demands : Type 0 where
  pub take_every_input : TakeEveryInputAndEnd
  pub one_refusal : OneNumberedRefusal
  pub no_skip : NoSkipWithoutAName
  pub given_exactly : GivenExactly
  pub untouched : LeavesUntouched
  pub meaning : MeanWhatIsPrinted
  pub accepted : AcceptedExactly
  pub written_again : WrittenAgain
  pub read_again : ReadAgain
  pub one_number : ReadWithOneNumber
  pub equal_lists : EqualLinesEqualLists
  pub list_back : ReadingGivesTheList
  pub one_each : OneOutcomeEach
  pub replaced : OutsideStays
  pub each_form : InEachForm
