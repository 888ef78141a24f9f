-- What is claimed of lines: demands 1 and 3. Statements only, with what they need to be said; the laws on whole lines hold for any answer
-- to a run. Proved in proofs/: the file is named at each.
use Rattle.std.specs.Prelude.{ℕ, ◌+◌, ◌-◌, ◌/◌, ◌%◌, ◌≤◌, ◌<◌, ◌↔◌, ◌⊎◌, Bool, true, false, cond, ◌≡◌, List, [], ◌∷◌, ◌++◌, map, ltb, length, take, drop, replicate, Ok, Result}
use Rattle.rows.specs.Claims.{FirstIs}
use Rattle.refusals.specs.declared.LineRefusal.{LineRefusal}
use Rattle.refusals.specs.declared.LineRefusal.TheVariants.{NoSuchLink, WrongLength}
use Rattle.words.specs.Word.{idle, flipped}
use Rattle.reports.specs.declared.Report.{Report}
use Rattle.reports.specs.declared.kinds.Kind.TheVariants as K
use Rattle.reports.specs.Kinds.{kind_of}
use Rattle.reports.specs.Altitude.{AltitudeForm, Sound, sign_magnitude}
use Rattle.reports.specs.Layouts.{words_of, Fits}
use Rattle.reports.specs.Records.{report_of}
use Rattle.reports.specs.declared.RunRefusal.{RunRefusal}
use Rattle.reports.specs.Runs.{read_run, refused_at}
use Rattle.lines.specs.declared.What.{What}
use Rattle.lines.specs.declared.What.TheVariants as W
use Rattle.lines.specs.declared.Outcome.{Outcome}
use Rattle.lines.specs.declared.Received.{Received}
use Rattle.lines.specs.Line.{most, outcome_of, end_of, not_taken_at, placed, is_report, is_refusal, is_end, read_by, read_at, calls, outcomes}
use Rattle.lines.specs.Bytes.{most_bytes, words_in, read_bytes}
use Rattle.lines.specs.Links.{last_link, received_on, read_by_on, read_on, read_bytes_on, calls_on, outcomes_on}
use Rattle.lines.specs.ByteWriting.{byte_writer_rows, write_bytes, bytes_left}
use Rattle.lines.specs.Stretches.{Run, runs, runs_at, gathered, idle_words, reported_words, refused_words}
use Rattle.lines.specs.Spaced.{Spaced, line_of, reports_of, AllFit, Apart, back}
use Rattle.lines.specs.Rows.{rows_on, byte_rows_on}
use Rattle.lines.specs.Writing.{not_written, writer_rows, write_at, left_as, puts, taken}

-- what looks at the words of a run
abbrev pub Answer : Type 0
Answer = List ℕ → Result Report RunRefusal

-- ---- demand 1: each refusal exactly under its condition (proofs/Refused.antt)

-- a refusal is given, with all its places and its link, exactly where its row is the first of the table that holds
abbrev pub ReaderRefuses : Type 0
ReaderRefuses =
    (form : AltitudeForm) (link : ℕ) (line : List ℕ) (place : ℕ) (r : Received) → is_refusal r.outcome.what ≡ true
    → (read_on form link line place ≡ r) ↔ FirstIs (rows_on form link line place) r

abbrev pub ByteReaderRefuses : Type 0
ByteReaderRefuses =
    (form : AltitudeForm) (link : ℕ) (bytes : List ℕ) (place : ℕ) (r : Received) → is_refusal r.outcome.what ≡ true
    → (read_bytes_on form link bytes place ≡ r) ↔ FirstIs (byte_rows_on form link bytes place) r

abbrev pub WriterRefuses : Type 0
WriterRefuses =
    (form : AltitudeForm) (line : List ℕ) (place : ℕ) (r : Report) (q : LineRefusal) (p : ℕ)
    → (write_at form line place r ≡ not_written q p) ↔ FirstIs (writer_rows form line place r) (not_written q p)

abbrev pub ByteWriterRefuses : Type 0
ByteWriterRefuses =
    (form : AltitudeForm) (bytes : List ℕ) (place : ℕ) (r : Report) (q : LineRefusal) (p : ℕ)
    → (write_bytes form bytes place r ≡ not_written q p) ↔ FirstIs (byte_writer_rows form bytes place r) (not_written q p)

-- and these are the places: of a run the place of its first word, the place after its last, and the word that is named, at the refusal's
-- offset or, of a report, its first; of a link number, a line or a place that is not taken the caller's place three times
pub record PlacesGiven : Type 0 where
  pub refused_run : (first n o : ℕ) (q : LineRefusal) → placed first n (refused_at q o) ≡ outcome_of (W.Refused q) first (first + n) (first + o)
  pub report : (first n : ℕ) (r : Report) → placed first n (Ok r) ≡ outcome_of (W.Accepted r) first (first + n) (first + 0)
  pub not_taken : (q : LineRefusal) (place : ℕ) → not_taken_at q place ≡ outcome_of (W.Refused q) place place place

-- ---- the link (document 02, Ticket 7; proofs/Linked.antt)

-- with a number from 0 to 15 a reader answers what is found at the place, and that number
pub record WithItsNumber : Type 0 where
  pub any : (answer : Answer) (link : ℕ) (line : List ℕ) (place : ℕ) → link ≤ last_link
      → read_by_on answer link line place ≡ received_on link (read_by answer line place)
  pub words : (form : AltitudeForm) (link : ℕ) (line : List ℕ) (place : ℕ) → link ≤ last_link
      → read_on form link line place ≡ received_on link (read_at form line place)
  pub bytes : (form : AltitudeForm) (link : ℕ) (bytes : List ℕ) (place : ℕ) → link ≤ last_link
      → read_bytes_on form link bytes place ≡ received_on link (read_bytes form bytes place)

-- so two readings with two such numbers differ in the number alone
pub record DifferInTheNumber : Type 0 where
  pub words : (form : AltitudeForm) (link other : ℕ) (line : List ℕ) (place : ℕ) → link ≤ last_link → other ≤ last_link
      → read_on form other line place ≡ received_on other (read_on form link line place).outcome
  pub bytes : (form : AltitudeForm) (link other : ℕ) (bytes : List ℕ) (place : ℕ) → link ≤ last_link → other ≤ last_link
      → read_bytes_on form other bytes place ≡ received_on other (read_bytes_on form link bytes place).outcome

-- the number of an outcome is always one from 0 to 15
pub record NumberInRange : Type 0 where
  pub words : (form : AltitudeForm) (link : ℕ) (line : List ℕ) (place : ℕ) → (read_on form link line place).link ≤ last_link
  pub bytes : (form : AltitudeForm) (link : ℕ) (bytes : List ℕ) (place : ℕ) → (read_bytes_on form link bytes place).link ≤ last_link

-- 13 is given exactly for a number above 15
pub record NoSuchLinkExactly : Type 0 where
  pub words : (form : AltitudeForm) (link : ℕ) (line : List ℕ) (place : ℕ)
      → ((read_on form link line place).outcome.what ≡ W.Refused NoSuchLink) ↔ (last_link < link)
  pub bytes : (form : AltitudeForm) (link : ℕ) (bytes : List ℕ) (place : ℕ)
      → ((read_bytes_on form link bytes place).outcome.what ≡ W.Refused NoSuchLink) ↔ (last_link < link)

-- whatever the line is, the outcome then has the caller's place for all three places, and link 0
pub record NoSuchLinkGives : Type 0 where
  pub words : (form : AltitudeForm) (link : ℕ) (line : List ℕ) (place : ℕ) → last_link < link
      → read_on form link line place ≡ received_on 0 (outcome_of (W.Refused NoSuchLink) place place place)
  pub bytes : (form : AltitudeForm) (link : ℕ) (bytes : List ℕ) (place : ℕ) → last_link < link
      → read_bytes_on form link bytes place ≡ received_on 0 (outcome_of (W.Refused NoSuchLink) place place place)

-- bytes that are few enough and even in number are read as the words that they hold, with every number
abbrev pub BytesAsTheirWords : Type 0
BytesAsTheirWords =
    (form : AltitudeForm) (link : ℕ) (bytes : List ℕ) (place : ℕ) → length bytes ≤ most_bytes → length bytes % 2 ≡ 0
    → read_bytes_on form link bytes place ≡ read_on form link (words_in bytes) place

-- a line that is read with one number from 0 to 15 has the outcomes of which the laws below speak, each with that number
pub record OnOneLink : Type 0 where
  pub calls_are : (answer : Answer) (link k : ℕ) (line : List ℕ) (place : ℕ) → link ≤ last_link
      → calls_on answer link k line place ≡ map (received_on link) (calls answer k line place)
  pub outcomes_are : (answer : Answer) (link : ℕ) (line : List ℕ) → link ≤ last_link
      → outcomes_on answer link line ≡ map (received_on link) (outcomes answer line)

-- ---- demand 1: the calls come to an end (proofs/Walked.antt, proofs/Outcomes.antt)

-- every outcome but the end goes on: the place after it lies beyond the caller's and within the line
abbrev pub Onward : Type 0
Onward =
    (answer : Answer) (line : List ℕ) (place : ℕ) → length line ≤ most → place ≤ length line →
    (read_by answer line place ≡ end_of (length line))
    ⊎ ((is_end (read_by answer line place).what ≡ false) × (place < (read_by answer line place).after) × ((read_by answer line place).after ≤ length line))

-- continuing from the place given, a line of n words is finished within (n + 1) / 2 rounded down, plus one, calls
abbrev pub CallsEnough : Type 0
CallsEnough =
    (answer : Answer) (line : List ℕ) (k : ℕ) → length line ≤ most → (length line + 1) / 2 + 1 ≤ k → calls answer k line 0 ≡ outcomes answer line

-- ---- demand 3: the unbroken stretches (proofs/Stretched.antt)

-- words none of which is idle
abbrev pub Solid : List ℕ → Type 0
Solid [] = Unit {0}
Solid (w ∷ ws) = (w ≡ idle → ⊥) × Solid ws

-- runs from a place on: each has a word, none is idle, and an idle word parts it from the next
abbrev pub Stretches : ℕ → List Run → Type 0
Stretches p [] = Unit {0}
Stretches p (r ∷ rs) = (p ≤ r.place) × (0 < length r.words) × Solid r.words × Stretches (r.place + length r.words + 1) rs

-- a line of n words, from a place on: these runs, and idle words elsewhere
unfoldable pub shown : ℕ → List Run → ℕ → List ℕ
shown p [] n = replicate (n - p) idle
shown p (r ∷ rs) n = replicate (r.place - p) idle ++ (r.words ++ shown (r.place + length r.words) rs n)

-- the runs of a line are its unbroken stretches: such runs they are, and the line is they and idle words
abbrev pub RunsAre : Type 0
RunsAre = (line : List ℕ) → Stretches 0 (runs line) × (shown 0 (runs line) (length line) ≡ line)

-- ---- the walk from outcome to outcome (proofs/Walked.antt): whatever is worked out of a line by reading it run after run goes by these two laws

-- the outcome of a run on its line
abbrev pub outcome_of_run : Answer → Run → Outcome
outcome_of_run answer r = placed r.place (length r.words) (answer r.words)

-- the run that reading at a place meets: idle words up to it, its words there, an outcome that it gets from the place and from its own
pub record Meets (answer : Answer) (line : List ℕ) (place : ℕ) (r : Run) : Type 0 where
  pub ahead : place ≤ r.place
  pub some : 0 < length r.words
  pub solid : Solid r.words
  pub inside : r.place + length r.words ≤ length line
  pub idle_before : take (r.place - place) (drop place line) ≡ replicate (r.place - place) idle
  pub there : take (length r.words) (drop r.place line) ≡ r.words
  pub outcome : read_by answer line place ≡ outcome_of_run answer r
  pub again : read_by answer line r.place ≡ outcome_of_run answer r

-- the induction. Let P speak of a place and of the runs from there on. It holds at the end, where no run is left. It holds at a place if it holds behind
-- the run that is met there. Then it holds at every place
abbrev pub AlongTheWalk : Type 1
AlongTheWalk =
    (answer : Answer) (line : List ℕ) → length line ≤ most → (P : ℕ → List Run → Type 0) →
    ((place : ℕ) → place ≤ length line → read_by answer line place ≡ end_of (length line) → P place []) →
    ((place : ℕ) (r : Run) → Meets answer line place r → let behind = r.place + length r.words in P behind (runs_at line behind) → P place (r ∷ runs_at line behind)) →
    (place : ℕ) → place ≤ length line → P place (runs_at line place)

-- the step: what the runs from a place on bring is what the outcome there brings, and behind it what the runs from the place after it bring. `of_run`
-- says what a run brings; `of_outcome` says the same from its outcome; the end brings nothing
abbrev pub StepByStep : Type 1
StepByStep =
    (answer : Answer) (line : List ℕ) → length line ≤ most → (X : Type 0) (of_run : Run → List X) (of_outcome : Outcome → List X) →
    of_outcome (end_of (length line)) ≡ [] → ((r : Run) → of_outcome (outcome_of_run answer r) ≡ of_run r) →
    (place : ℕ) → place ≤ length line →
    gathered of_run (runs_at line place) ≡ of_outcome (read_by answer line place) ++ gathered of_run (runs_at line (read_by answer line place).after)

-- ---- demand 3: one outcome for each stretch (proofs/Outcomes.antt)

-- an outcome with its places moved along
abbrev pub moved : ℕ → Outcome → Outcome
moved p o = outcome_of o.what (p + o.first) (p + o.after) (p + o.named)

-- what the words of a run get alone, as a line of their own, places moved along
abbrev pub alone : Answer → Run → Outcome
alone answer r = moved r.place (read_by answer r.words 0)

-- on any line of at most 32,768 words, read from its start, each unbroken stretch of non-idle words gets exactly one outcome, in order:
-- the one that those words get alone, places moved along; then comes the end
abbrev pub OneEach : Type 0
OneEach = (answer : Answer) (line : List ℕ) → length line ≤ most → outcomes answer line ≡ map (alone answer) (runs line) ++ (end_of (length line) ∷ [])

-- from a place the line is read as if it began there, places moved along: from inside a stretch the run begins at the place
abbrev pub FromThere : Type 0
FromThere =
    (answer : Answer) (line : List ℕ) (place : ℕ) → length line ≤ most → place ≤ length line → read_by answer line place ≡ moved place (read_by answer (drop place line) 0)

-- ---- demand 3: a line in parts (proofs/Parts.antt)

-- empty, or ending in idle
abbrev pub EndsIdle : List ℕ → Type 0
EndsIdle ws = (ws ≡ []) ⊎ ((front : List ℕ) × (ws ≡ front ++ (idle ∷ [])))

-- empty, or beginning with idle
abbrev pub BeginsIdle : List ℕ → Type 0
BeginsIdle ws = (ws ≡ []) ⊎ ((rest : List ℕ) × (ws ≡ idle ∷ rest))

-- the outcomes before the end
unfoldable pub before_end : List Outcome → List Outcome
before_end [] = []
before_end (o ∷ os) = cond (is_end o.what) [] (o ∷ before_end os)

-- a line in three parts that meet at idle words has the outcomes of the parts, moved along
abbrev pub Splits : Type 0
Splits =
    (answer : Answer) (pre mid post : List ℕ) → EndsIdle pre → BeginsIdle post → length (pre ++ (mid ++ post)) ≤ most →
    outcomes answer (pre ++ (mid ++ post))
    ≡ before_end (outcomes answer pre)
    ++ (map (moved (length pre)) (before_end (outcomes answer mid)) ++ map (moved (length pre + length mid)) (outcomes answer post))

-- the outcomes whose first word does not lie from one place up to another
unfoldable pub outside : ℕ → ℕ → List Outcome → List Outcome
outside lo hi [] = []
outside lo hi (o ∷ os) =
    cond (ltb o.first lo) (o ∷ outside lo hi os) (cond (ltb o.first hi) (outside lo hi os) (o ∷ outside lo hi os))

-- the words between two idle words that stay are replaced by equally many others: every outcome outside is the same
abbrev pub Replaced : Type 0
Replaced =
    (answer : Answer) (a x y b : List ℕ) → length x ≡ length y → length (a ++ (idle ∷ (x ++ (idle ∷ b)))) ≤ most →
    outside (length a + 1) (length a + 1 + length x) (outcomes answer (a ++ (idle ∷ (x ++ (idle ∷ b)))))
    ≡ outside (length a + 1) (length a + 1 + length x) (outcomes answer (a ++ (idle ∷ (y ++ (idle ∷ b)))))

-- document 01, "Three easy errors": a flipped bit is not always seen. In an ATCRBS report bit 13 of 1022 is flipped, which makes it idle; what
-- was one report is then a refused run and the Search report of the last four words (proofs/Flipped.antt)
pub record FlippedBit : Type 0 where
  pub before : outcomes (read_run sign_magnitude) (3333 ∷ 1281 ∷ 1022 ∷ 868 ∷ 1281 ∷ 2048 ∷ 647 ∷ [])
      ≡ outcome_of (W.Accepted (report_of sign_magnitude (3333 ∷ 1281 ∷ 1022 ∷ 868 ∷ 1281 ∷ 2048 ∷ 647 ∷ []))) 0 7 0
      ∷ end_of 7
      ∷ []
  pub of_atcrbs : kind_of (report_of sign_magnitude (3333 ∷ 1281 ∷ 1022 ∷ 868 ∷ 1281 ∷ 2048 ∷ 647 ∷ [])) ≡ K.Atcrbs
  pub one_bit : flipped 13 1022 ≡ idle
  pub after : outcomes (read_run sign_magnitude) (3333 ∷ 1281 ∷ 1023 ∷ 868 ∷ 1281 ∷ 2048 ∷ 647 ∷ [])
      ≡ outcome_of (W.Refused WrongLength) 0 2 0
      ∷ outcome_of (W.Accepted (report_of sign_magnitude (868 ∷ 1281 ∷ 2048 ∷ 647 ∷ []))) 3 7 3
      ∷ end_of 7
      ∷ []
  pub of_search : kind_of (report_of sign_magnitude (868 ∷ 1281 ∷ 2048 ∷ 647 ∷ [])) ≡ K.Search

-- ---- totals (proofs/Totals.antt)

-- every word is idle, in a report or in a refused run
abbrev pub TotalsAdd : Type 0
TotalsAdd = (answer : Answer) (line : List ℕ) → idle_words line + reported_words answer line + refused_words answer line ≡ length line

-- the words of the outcomes of a kind
unfoldable pub spanned : (What → Bool) → List Outcome → ℕ
spanned test [] = 0
spanned test (o ∷ os) = cond (test o.what) (o.after - o.first) 0 + spanned test os

-- they can be counted while the line is read
abbrev pub TotalsCounted : Type 0
TotalsCounted =
    (answer : Answer) (line : List ℕ) → length line ≤ most →
    (spanned is_report (outcomes answer line) ≡ reported_words answer line) × (spanned is_refusal (outcomes answer line) ≡ refused_words answer line)

-- ---- demand 3: lists of reports (proofs/Back.antt, proofs/Written.antt)

-- an answer that gives each report that fits for its words
abbrev pub Returns : Answer → AltitudeForm → Type 0
Returns answer form = (r : Report) → Fits form r → answer (words_of form r) ≡ Ok r

-- a list of reports that fit, written with at least one idle word between neighbours and any number at the ends, reads back with its places
abbrev pub ReadsBack : Type 0
ReadsBack =
    (answer : Answer) (form : AltitudeForm) → Returns answer form → (ss : List Spaced) (tail : ℕ) → AllFit form ss → Apart ss →
    length (line_of form ss tail) ≤ most →
    outcomes answer (line_of form ss tail) ≡ back form 0 ss ++ (end_of (length (line_of form ss tail)) ∷ [])

-- the reader in a sound form of the altitude is such an answer
abbrev pub ReaderReturns : Type 0
ReaderReturns = (form : AltitudeForm) → Sound form → Returns (read_run form) form

-- two such lists whose lines are equal are equal
abbrev pub EqualListsIn : AltitudeForm → Type 0
EqualListsIn form =
    (ss ts : List Spaced) (m n : ℕ) → AllFit form ss → Apart ss → AllFit form ts → Apart ts →
    length (line_of form ss m) ≤ most → line_of form ss m ≡ line_of form ts n → reports_of ss ≡ reports_of ts

abbrev pub EqualLists : Type 0
EqualLists = (form : AltitudeForm) → Sound form → EqualListsIn form

-- calls of the writer one after the other on a line of idle words leave such a list: the reports that were not refused
abbrev pub WrittenSo : Type 0
WrittenSo =
    (form : AltitudeForm) (n place : ℕ) (rs : List Report) → place ≤ n →
    (ss : List Spaced)
    × (tail : ℕ)
    × AllFit form ss
    × Apart ss
    × (reports_of ss ≡ taken form (replicate n idle) place rs)
    × (puts form (replicate n idle) place rs ≡ line_of form ss tail)

-- ---- the writer (proofs/Written.antt)

-- a line with these words in it from a place on, and all others as they were
abbrev pub put : List ℕ → ℕ → List ℕ → List ℕ
put line place ws = take place line ++ (ws ++ drop (length ws) (drop place line))

-- an accepted call is its two leaves: the words, and then one idle word right behind them
abbrev pub Composed : Type 0
Composed =
    (form : AltitudeForm) (line : List ℕ) (place next : ℕ) (r : Report) → write_at form line place r ≡ Ok next →
    left_as (Ok next) line place (words_of form r)
    ≡ put (put line place (words_of form r)) (place + length (words_of form r)) (replicate 1 idle)

-- an accepted call changes nothing outside its words, from the place up to the one that it gives; a refused one changes nothing
abbrev pub OnlyItsWords : Type 0
OnlyItsWords =
    (form : AltitudeForm) (line : List ℕ) (place next : ℕ) (r : Report) → write_at form line place r ≡ Ok next →
    (length (left_as (Ok next) line place (words_of form r)) ≡ length line)
    × (take place (left_as (Ok next) line place (words_of form r)) ≡ take place line)
    × (drop next (left_as (Ok next) line place (words_of form r)) ≡ drop next line)

abbrev pub RefusedLeaves : Type 0
RefusedLeaves =
    (form : AltitudeForm) (line : List ℕ) (place p : ℕ) (r : Report) (q : LineRefusal) → write_at form line place r ≡ not_written q p →
    (p ≡ place) × (left_as (write_at form line place r) line place (words_of form r) ≡ line)

-- ---- bytes

-- bytes that are few enough and even in number are read, and written, as the line of the words that they hold (proofs/ByteWords.antt)
abbrev pub BytesAsWords : Type 0
BytesAsWords =
    (form : AltitudeForm) (bytes : List ℕ) (place : ℕ) (r : Report) → length bytes ≤ most_bytes → length bytes % 2 ≡ 0 →
    (read_bytes form bytes place ≡ read_at form (words_in bytes) place) × (write_bytes form bytes place r ≡ write_at form (words_in bytes) place r)

-- the bytes that a call leaves hold the words that it would leave of the words that they held (proofs/ByteLeft.antt)
abbrev pub SameWords : Type 0
SameWords =
    (form : AltitudeForm) (bytes : List ℕ) (place : ℕ) (r : Report) →
    words_in (bytes_left (write_bytes form bytes place r) bytes place (words_of form r)) ≡ left_as (write_bytes form bytes place r) (words_in bytes) place (words_of form r)
