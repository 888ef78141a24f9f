-- The change requests of document 02 that have landed, sentence by sentence. Each sentence stands in document 02's words; the definition under it says
-- it, by the definitions and claims of the crates below. Requests, at the end, gathers all, and proofs/Requests.antt proves it as one value.
-- Statements only.
use Rattle.std.specs.Prelude.{ℕ, ◌≤◌, ◌<◌, ◌≡◌, List, [], Result}
use Rattle.words.specs.Claims as words
use Rattle.reports.specs.Claims as reports
use Rattle.fields.specs.declared.Direction.{Direction}
use Rattle.frames.specs.Frame.{frame_of, Fits}
use Rattle.frames.specs.Writing.{Writes}
use Rattle.frames.specs.Claims as frames
use Rattle.refusals.specs.declared.LineRefusal.{LineRefusal}
use Rattle.refusals.specs.declared.LineRefusal.TheVariants.{NoSuchLink}
use Rattle.refusals.specs.Numbers.{line_number}
use Rattle.lines.specs.declared.What.TheVariants as W
use Rattle.lines.specs.Links.{last_link, read_bytes_on}
use Rattle.lines.specs.Claims as lines
use Rattle.index.specs.declared.Entry.{Entry}
use Rattle.index.specs.declared.Indexed.{Indexed}
use Rattle.index.specs.declared.IndexRefusal.{IndexRefusal}
use Rattle.index.specs.Entries.{uncorrelated, number_in, entry_of}
use Rattle.index.specs.Indexing.{Indexes}
use Rattle.index.specs.Claims as index
use Rattle.reports.specs.Altitude.{AltitudeForm, Sound}
use Rattle.manners.specs.Listing.{Lists, ListsBytes}
use Rattle.manners.specs.Breaches.{manners_link}
use Rattle.manners.specs.Claims as manners
use Rattle.claims.specs.Demands.{AllowsOne, InEachForm, WordsThere, ReadThere, ReadWithOneNumber, ListBack}
use Rattle.claims.specs.Twelve.{InTheNewForm, WrittenInTheNewForm}
use Rattle.claims.specs.TwoForms as forms
use Rattle.claims.specs.Numbers.{NumbersDiffer, NoNumberIsZero}
use Rattle.claims.specs.OneSegment as segment
use Rattle.claims.specs.Folds.{FoldsAnswerTheSame}

-- ---- Ticket 1: frame the communications channel

-- "Read and write them: flag 01111110, address, control, field, frame check sequence, flag, with a zero inserted after five ones (document 004,
-- 5.1 and 5.2; check sequence as in ISO/IEC 13239). Between flags, after removing inserted zeros, 32 to 2040 bits. Address is 11000000 to the
-- sensor, 10000000 from it; control is carried." frames/specs/Frame.antt says what these bits are. A stretch between two flags is accepted exactly
-- when they stand there (accepted). Inserting zeros and taking them out undo each other, and no flag stands in what was written. The check
-- sequence is that of the standard's known frames, and it finds what it must
pub record ReadAndWriteThem : Type 0 where
  pub accepted : frames.AcceptedExactly
  pub zeros_taken_out : frames.TakenOut
  pub zeros_put_in : frames.PutIn
  pub no_flag_inside : frames.NoFlagInside
  pub known_checks : frames.KnownChecks
  pub remainder : frames.Remainder
  pub burst_found : frames.BurstFound
  pub one_flip_found : frames.OneFlipFound
  pub two_flips_found : frames.TwoFlipsFound

-- "A shared flag is allowed, nothing between two flags is idle, a place with only flags, one or more, from it on answers "end", a frame without a
-- field is valid."
pub record FlagsAndIdle : Type 0 where
  pub shared_flags_and_idle : frames.ListReadsBack
  pub written_on_a_shared_flag : frames.WrittenOn
  pub end : frames.EndExactly
  pub no_field : (way : Direction) (control : ℕ) → control < 256 → Fits (frame_of way control [])

-- "A frame, or refusal 40, 42 or 43 in reading, answers the place of its closing flag; other refusals give the place back." The rows of
-- frames/specs/Reading.antt have the places (refusals); of a frame it is the flag that ends it (frame); the writer gives the place back (writing)
pub record PlacesAnswered : Type 0 where
  pub refusals : frames.ReaderRefuses
  pub frame : frames.WrittenAgain
  pub writing : frames.RefusedStays

-- "The writer writes both flags. The input is lent bytes, a bit count and a bit place." What it answers and leaves is one for every input, and
-- bits beside the frame stay
pub record TheWriter : Type 0 where
  pub allows_one : (bytes : List ℕ) (count place : ℕ) (way : Direction) (control : ℕ) (field : List ℕ) (n : ℕ)
      → AllowsOne (Writes bytes count place way control field n)
  pub others_stay : frames.OthersStay

-- "Demands 2 and 3 keep their text for reports; frames get their own round trip." Both ways, for one frame in lent bytes and for lists of them; and
-- a stream that is read comes to an end
pub record TheirOwnRoundTrip : Type 0 where
  pub written_and_read : frames.WrittenReads
  pub wherever_it_stands : frames.ReadsBack
  pub read_and_written : frames.ReadWrites
  pub field_handed_out : frames.HandedOut
  pub equal_lists : frames.EqualLists
  pub calls_enough : frames.CallsEnough
  pub not_behind : frames.NotBehind

-- "Refusals, in order: 44 count over the lent bits, or no flag at the place; 41 five ones with no inserted zero after them, before the closing flag
-- or, without one, the end; 45 no closing flag; 40 length, also of a field to be written; 43 check sequence; 42 neither address; 46 writer without
-- room, nothing written."
pub record FrameRefusals : Type 0 where
  pub reading : frames.ReaderRefuses
  pub writing : frames.WriterRefuses
  pub nothing_written : frames.RefusedStays
  pub numbers : NumbersDiffer
  pub none_is_0 : NoNumberIsZero

pub record Ticket1 : Type 0 where
  pub read_and_write : ReadAndWriteThem
  pub flags_and_idle : FlagsAndIdle
  pub places : PlacesAnswered
  pub writer : TheWriter
  pub round_trip : TheirOwnRoundTrip
  pub refusals : FrameRefusals

-- ---- Ticket 2: one-segment ELM from the aircraft

-- "A sensor sends downlink ELMs of 120 bits and we refuse them. The figure ends its first text at 120; the two-segment minimum stands among the
-- blocks from the earth to the air. For type 42, Length 0 is one segment and accepted, bare or relayed, read or written." The rule is the row of type 42 in
-- fields/specs/Table.antt: it asks nothing of Length. Demand 2 says that a field that is written is read again; it is about these fields too. The
-- C calls of field_host are promised by the same definitions
pub record OneSegmentAccepted : Type 0 where
  pub bare_read : segment.BareRead
  pub relayed_read : segment.RelayedRead
  pub bare_written : segment.BareWritten
  pub relayed_written : segment.RelayedWritten

-- "Type 22 keeps its minimum."
pub record UplinkKeepsItsMinimum : Type 0 where
  pub read : segment.UplinkRead
  pub written : segment.UplinkWritten

-- "Refusals: 28 and 30 lose this case." 28 loses exactly this case in reading (value), and 30 in writing (taken). One segment, which was refused, is
-- now accepted (one_segment_read) and written (one_segment_written). Every other field is answered as before (others_read), and every other record is
-- written as before (others_written). Another count is still 26 (count), and a spare bit is still 27 (spares). The table keeps its rows and widths
-- (table)
pub record RefusalsLoseThisCase : Type 0 where
  pub value : segment.NotInUseBefore
  pub one_segment_read : segment.OneSegmentRead
  pub others_read : segment.OthersReadAsBefore
  pub count : segment.CountStays
  pub spares : segment.SparesStay
  pub taken : segment.TakenBefore
  pub one_segment_written : segment.OneSegmentWritten
  pub others_written : segment.OthersWrittenAsBefore
  pub table : segment.RowsAndWidthsStay

pub record Ticket2 : Type 0 where
  pub accepted : OneSegmentAccepted
  pub uplink : UplinkKeepsItsMinimum
  pub refusals : RefusalsLoseThisCase

-- ---- Ticket 3: last report per file number

-- "Keep an index beside the line: a lent table of at most 512 entries, each with file number, kind, place of the run and scan number given by the
-- caller." index/specs/Entries.antt has the entry of an outcome. Any table and any entry get one answer, and leave one table
abbrev pub OneAnswerOneTable : Type 0
OneAnswerOneTable =
    (table : List Entry) (e : Entry) →
    (a : Result Indexed IndexRefusal) × (exit : List Entry) × Indexes table e a exit × ((b : Result Indexed IndexRefusal) (left : List Entry) → Indexes table e b left → (b ≡ a) × (left ≡ exit))

-- "It takes accepted ATCRBS, MTD and RDAS reports, substitution included; any other outcome leaves it as it is. File number 0 means uncorrelated and is
-- never entered; it marks an unused entry." The number of an accepted run is said by the printed bits (number). A refused run and the end have none
-- (refused, end). Number 0 is answered with "left", and no other number is (left); it leaves the table as it was (stays)
pub record TakesReportsWithANumber : Type 0 where
  pub number : index.NumberAsPrinted
  pub refused : (q : LineRefusal) → number_in (W.Refused q) ≡ uncorrelated
  pub end : number_in W.End ≡ uncorrelated
  pub left : index.LeftExactly
  pub stays : index.ZeroStays

-- "Used entries stand first, and a new number takes the first unused one. A later report replaces the earlier in its entry." The calls keep such a
-- table (kept). A number's entry is found where it stands (found), and else it is missing (missing)
pub record EntersAndReplaces : Type 0 where
  pub new : index.EnteredExactly
  pub later_report : index.ReplacedExactly
  pub kept : index.NeverBroken
  pub found : index.FoundExactly
  pub missing : index.MissingExactly

-- "The index must equal the one worked out afresh from the reports seen." Only calls that were not refused count. It holds after any calls on a table of
-- unused entries (from_unused). Such a table, and any other that is not broken, holds an index at first (begins); more calls keep it (onward), and so
-- do the calls on all outcomes of a line, worked out from the line's runs (line). If all numbers fit, no call is refused (all_fit). "Display users
-- click a track and want its latest report": what is found is the last one seen (clicked)
pub record EqualsTheOneWorkedOutAfresh : Type 0 where
  pub from_unused : index.FromUnused
  pub begins : index.Begins
  pub onward : index.Onward
  pub all_fit : index.RoomForAll
  pub line : index.OverALine
  pub clicked : index.FoundIsLatest

-- "Refusals, in order: 50 table over 512, a used entry after an unused one, or a number held twice; 51 table full and a number other than 0 not in it.
-- Both leave the table as it was."
pub record IndexRefusals : Type 0 where
  pub entering : index.EnterRefuses
  pub finding : index.FindRefuses
  pub broken : index.BrokenExactly
  pub full : index.FullExactly
  pub stays : index.RefusedStays
  pub numbers : NumbersDiffer
  pub none_is_0 : NoNumberIsZero

pub record Ticket3 : Type 0 where
  pub one_answer : OneAnswerOneTable
  pub takes : TakesReportsWithANumber
  pub enters : EntersAndReplaces
  pub afresh : EqualsTheOneWorkedOutAfresh
  pub refusals : IndexRefusals

-- ---- Ticket 4: show the parity rule

-- "New staff read our parity leaf and can't see the rule in its chain of folds. Write it as counting the ones of the thirteen-bit word and asking
-- whether the count is odd." words/specs/Word.antt has the rule as `odd`, and the leaf `words::is_odd` promises it. The ones that are counted are
-- those among bits 1 to 13 (counted), and the answer is whether their number is odd (asked). If one bit is turned over, whichever it is, the answer
-- turns (each_bit). Of the two words with the same twelve data bits exactly one has an odd count: bit 13 makes it so (bit_13)
pub record CountsTheOnes : Type 0 where
  pub counted : words.OnesByBits
  pub asked : words.OddByBits
  pub each_bit : words.FlipTurnsParity
  pub bit_13 : words.OneWordForData

-- "Its promise stays, and no caller changes." The contract of the leaf is the line that it was. The chain of folds gives the answer that it promises,
-- for every number that the leaf takes (folds). That no caller changes is about the code; docs/landings/04-parity.md has it from the commits
pub record ItsPromiseStays : Type 0 where
  pub folds : FoldsAnswerTheSame

pub record Ticket4 : Type 0 where
  pub counts : CountsTheOnes
  pub stays : ItsPromiseStays

-- ---- Ticket 5: the other negative altitude

-- "One sensor maker sends bits 79-90 as a twelve-bit two's complement number. Section 4.1.17 says "signed binary integer" and can be read so. Reading
-- and writing an altitude now take the form as an input, and every caller passes it on from the public call." The promise of each of these calls has
-- the form in it: judge of report_reader, words_of of report_writer, wide::read and bytes::read of line_reader, wide::write, bytes::write and
-- bytes::answer of line_writer, and the C calls. What the new form reads is told by what document 01's reads: of a run (run, lowest), at a place of a
-- line (place) and of bytes (place_of_bytes). Where no altitude has its first bit one, nothing differs (same); and nothing else of a report depends on its
-- altitude (rest), so the index is brought the same (entry). A report without an altitude below zero is written alike (written), and any other that
-- document 01's form takes has the same words with its altitude turned (words); so the calls of the writers answer and leave the same (calls). What is said
-- of a place is of what is found there; the readers answer it with a link number (`given` of Ticket 7)
pub record TheFormAsAnInput : Type 0 where
  pub run : forms.NewReading
  pub lowest : forms.MinusZeroIsLowest
  pub place : forms.NewOutcome
  pub place_of_bytes : forms.NewOutcomeOfBytes
  pub same : forms.EqualReadings
  pub rest : forms.RestStays
  pub entry : forms.SameEntry
  pub written : forms.EqualWriting
  pub words : forms.TurnedWords
  pub calls : forms.SameCalls

-- "From C it is a number: 0 is document 01's form, any other the new one. The lister uses document 01's." Of the lister it is claimed in
-- listing/specs/Claims.antt (`DocumentForm`)
abbrev pub FormsFromC : Type 0
FormsFromC = reports.NumbersOfForms

-- "Document 01's form stays one choice, with its cases. In the new form the range is -2048 to 2047 and each pattern is valid." The cases are those of
-- Demands (`twelve`); beside them stand those of the new form (cases, written_cases)
pub record RangeAndPatterns : Type 0 where
  pub ranges : reports.RangeOfEach
  pub patterns : reports.EveryPatternValid
  pub cases : InTheNewForm
  pub written_cases : WrittenInTheNewForm

-- "Demands 2 and 3 are read for one form at a time, the same for reader and writer. What is common is proved once over both." What is common is proved
-- of every sound form; that both are sound (sound) is all that demands 2 and 3 need of each
pub record OneFormAtATime : Type 0 where
  pub demands : InEachForm
  pub sound : reports.FormsSound

-- "Refusals: 9 is never given in the new form; 11 follows its range."
pub record RefusalsOfAltitudes : Type 0 where
  pub never_9 : forms.NeverMinusZero
  pub never_9_in_bytes : forms.NeverMinusZeroInBytes
  pub eleven : forms.ElevenFollows

pub record Ticket5 : Type 0 where
  pub input : TheFormAsAnInput
  pub from_c : FormsFromC
  pub range : RangeAndPatterns
  pub one_form : OneFormAtATime
  pub refusals : RefusalsOfAltitudes

-- ---- Ticket 6: check a sensor's manners

-- "Site technicians want to know whether a new sensor follows rules between fields that we accept either way. Over a line, list each breach with the
-- run's place: an ATCRBS substitution report with bit 5 set (4.2.7); a relayed DABS report with bit 6 zero (4.1.4); an ATCRBS report with bit 6 one,
-- bit 12 zero and altitude field all zeros, which the technician wants to see although sea level may look so; a Map whose stop is below its start."
-- manners/specs/Rules.antt has the four rules, by the printed bits of a run and over the record; for an accepted run the two are the same (same), and
-- what the code finds in the record is the rule that the bits break (found). No run and no record breaks two (one, one_of_record). In
-- this order they have the numbers 1 to 4 (numbers). Eight runs are worked out (worked)
pub record TheRules : Type 0 where
  pub same : manners.SameOfRecord
  pub found : manners.FoundExactly
  pub one : manners.AtMostOne
  pub one_of_record : manners.AtMostOneOfRecord
  pub numbers : manners.RulesNumbered
  pub worked : manners.Worked

-- "The list has exactly the breaches, by place and then in this order." A breach is in the list exactly where an accepted run breaks the rule at that
-- place (exactly); the places rise (by_place). It is what the outcomes of demand 3 bring (outcomes). It does not depend on the altitude's form
-- (both_forms). Parts of a line that meet at idle words have their own breaches (parts), and words that are replaced between two idle words change no
-- breach outside (outside). No line has more than 6,553, and a list for so many is never too small (no_more)
pub record ExactlyTheBreaches : Type 0 where
  pub exactly : manners.ExactlyTheBreaches
  pub by_place : manners.ByPlace
  pub outcomes : manners.FromTheOutcomes
  pub both_forms : manners.SameInBothForms
  pub parts : manners.Splits
  pub outside : manners.Replaced
  pub no_more : manners.NoMore

-- "An accepted line stays accepted." At each place of the list the reader answers the report that breaks the rule (read). A call refuses no line for
-- what stands on it: a line that is short enough is listed if the list has room (listed, bytes_listed). The line is lent for reading alone, which the
-- language holds the call to, and no definition of the reader names a rule; neither is a claim here
pub record StaysAccepted : Type 0 where
  pub read : manners.ReadThere
  pub listed : manners.ListedExactly
  pub bytes_listed : manners.ByteListedExactly

-- "Refusals: 2, then 52 list buffer too small, with nothing written." In bytes 14 stands between them. What stands behind the list stays (behind).
-- Bytes are answered as the words that they hold (bytes), and two bytes hold each number of the list (numbers_in_bytes)
pub record MannersRefusals : Type 0 where
  pub words : manners.ListRefuses
  pub of_bytes : manners.ByteListRefuses
  pub nothing_written : manners.RefusedStays
  pub behind : manners.BehindStays
  pub bytes : manners.BytesAsWords
  pub numbers_in_bytes : manners.NumbersInBytes
  pub numbers : NumbersDiffer
  pub none_is_0 : NoNumberIsZero

-- any line and any list get one answer, and leave one list, of words and of bytes
pub record OneAnswerOneList : Type 0 where
  pub words : (form : AltitudeForm) (line list : List ℕ) → AllowsOne (Lists form line list)
  pub bytes : (form : AltitudeForm) (bytes list : List ℕ) → AllowsOne (ListsBytes form bytes list)

pub record Ticket6 : Type 0 where
  pub one_answer : OneAnswerOneList
  pub rules : TheRules
  pub list : ExactlyTheBreaches
  pub stays : StaysAccepted
  pub refusals : MannersRefusals

-- ---- Ticket 7: which link it came on

-- "A site has several parallel surveillance links (section 3). Give every outcome, report or refusal, a link number 0 to 15 that the caller
-- supplies." lines/specs/Links.antt has what the readers answer with a number. wide::read and bytes::read of line_reader promise it, and so does each
-- C call that reads a line at a place. With a number from 0 to 15 the answer is what is found there, and that number (given). The last number is 15
-- (fifteen). Whatever number is given, that of the outcome is one from 0 to 15 (in_range). The manners are read with link 0 (manners); so is a
-- listing, which is claimed in listing/specs/Claims.antt (`LinkZero`)
pub record LinkOfEveryOutcome : Type 0 where
  pub fifteen : last_link ≡ 15
  pub given : lines.WithItsNumber
  pub in_range : lines.NumberInRange
  pub manners : manners_link ≡ 0

-- "It is no part of the words and doesn't change them." Two readings with two numbers differ in the number alone (alone), and so the index is brought
-- the same (entry; siamrung_index_enter promises this entry, `entry_at` of index_host). The line is lent for reading alone, which the language holds a
-- reader to, and no definition of a word, of the answer to a run or of a writer names a link; neither is a claim here
pub record NoPartOfTheWords : Type 0 where
  pub alone : lines.DifferInTheNumber
  pub entry : (form : AltitudeForm) (link other : ℕ) (bytes : List ℕ) (place scan : ℕ) → link ≤ last_link → other ≤ last_link
      → entry_of (read_bytes_on form other bytes place).outcome scan ≡ entry_of (read_bytes_on form link bytes place).outcome scan

-- "Demand 2's round trip is read for a fixed link number; demand 3 speaks of lines read with one number." They stand so in Demands.antt. Demand 2, on a
-- line: a report has the words that it was read from (words), and is read where it was written (back). Demand 3: the outcomes of its laws, each with
-- the one number (one_number), and the list of reports (list)
pub record FixedNumber : Type 0 where
  pub words : (form : AltitudeForm) → Sound form → (link : ℕ) → WordsThere form link
  pub back : (form : AltitudeForm) → Sound form → (link : ℕ) → link ≤ last_link → ReadThere form link
  pub one_number : ReadWithOneNumber
  pub list : (form : AltitudeForm) → Sound form → (link : ℕ) → link ≤ last_link → ListBack form link

-- "Refusals: 13 link number above 15, tested before 2, with places as for 2 and link 0." It is given exactly for such a number (exactly), whatever line and
-- place are given with it, with the caller's place three times and link 0 (gives). It stands first in the readers' tables (rows, byte_rows)
pub record LinkRefusal : Type 0 where
  pub exactly : lines.NoSuchLinkExactly
  pub gives : lines.NoSuchLinkGives
  pub rows : lines.ReaderRefuses
  pub byte_rows : lines.ByteReaderRefuses
  pub thirteen : line_number NoSuchLink ≡ 13
  pub numbers : NumbersDiffer
  pub none_is_0 : NoNumberIsZero

pub record Ticket7 : Type 0 where
  pub every_outcome : LinkOfEveryOutcome
  pub no_part : NoPartOfTheWords
  pub fixed : FixedNumber
  pub refusal : LinkRefusal

-- ---- all of them

pub record Requests : Type 0 where
  pub ticket_1 : Ticket1
  pub ticket_2 : Ticket2
  pub ticket_3 : Ticket3
  pub ticket_4 : Ticket4
  pub ticket_5 : Ticket5
  pub ticket_6 : Ticket6
  pub ticket_7 : Ticket7
