-- Document 01, "Twelve to prove": C1 to C12 as one table, in document 01's form of the altitude. A row has what is given and all that is answered,
-- and Twelve, the claim at the end, says that the written definitions answer every row so. Beside it stands a table of cases in the new form
-- (document 02, Ticket 5), with its own claim. Definitions only; proofs/Twelve.antt proves the claims by computing them.
use Rattle.std.specs.Prelude.{ℕ, ◌*◌, ◌/◌, ◌≡◌, true, false, List, [], ◌∷◌, ◌++◌, map, ℤ, pos, neg_ℤ, replicate, Err, Ok, Result}
use Rattle.refusals.specs.declared.LineRefusal.TheVariants.{ValueTooLarge}
use Rattle.refusals.specs.Numbers.{line_number, field_number}
use Rattle.reports.specs.declared.Report.{Report}
use Rattle.reports.specs.declared.Report.TheVariants as R
use Rattle.reports.specs.declared.Height.{Height}
use Rattle.reports.specs.declared.Height.TheVariants.{Altitude, Cd}
use Rattle.reports.specs.declared.kinds.Kind.{Kind}
use Rattle.reports.specs.declared.kinds.Kind.TheVariants.{Search, Dabs, DabsCd}
use Rattle.reports.specs.declared.altitude.Form.{Form}
use Rattle.reports.specs.declared.altitude.Form.TheVariants as F
use Rattle.reports.specs.Altitude.{form_of}
use Rattle.reports.specs.Kinds.{kind_of}
use Rattle.reports.specs.Layouts.{as_written, written}
use Rattle.reports.specs.Runs.{read_run}
use Rattle.reports.specs.Values.{Counted, counts, counted_of}
use Rattle.lines.specs.declared.What.TheVariants as W
use Rattle.lines.specs.declared.What.{What}
use Rattle.lines.specs.declared.Outcome.{Outcome}
use Rattle.lines.specs.Line.{outcomes}
use Rattle.fields.specs.declared.Direction.{Direction}
use Rattle.fields.specs.declared.Direction.TheVariants.{ToSensor}
use Rattle.fields.specs.declared.Field.TheVariants.{TacticalUplink, AltimeterCorrection}
use Rattle.fields.specs.declared.Record.{Record}
use Rattle.fields.specs.declared.Record.TheVariants.{Single}
use Rattle.fields.specs.Reading.{read_field, text_of}
use Rattle.refusals.specs.declared.FieldRefusal.{FieldRefusal}
use Rattle.refusals.specs.declared.LineRefusal.{LineRefusal}
use Rattle.reports.specs.declared.Words.{Words}

-- ---- what a row says

-- what is given: the words of a line; or the bytes of a link data field, its bit count and the way it travels
pub data Input : Type 0 where
  line : List ℕ → Input
  field : List ℕ → ℕ → Direction → Input

-- what a call of the reader says of a run, on whichever link it came: the lister's name, the whole record, and range, azimuth and time in 1024ths of a
-- nmi, of a degree and of a second; or the number of the refusal; or that the line ends
pub data Said : Type 0 where
  report : Kind → Report → Counted → Said
  refused : ℕ → Said
  end : Said

-- and its three places: of the run's first word, after its last, and of the word that is named
pub record Call : Type 0 where
  pub says : Said
  pub first : ℕ
  pub after : ℕ
  pub named : ℕ

abbrev call : Said → ℕ → ℕ → ℕ → Call
call s f a n = record { says = s; first = f; after = a; named = n }

-- what is answered: of a line every call, from its start to its end; of a field the whole record, its list and its text, or the number of
-- the refusal, with the list and the text that stand beside it
pub data Reply : Type 0 where
  calls : List Call → Reply
  message : Record → List ℤ → List ℕ → Reply
  refusal : ℕ → List ℤ → List ℕ → Reply

pub record Worked : Type 0 where
  pub input : Input
  pub reply : Reply

-- ---- what the written definitions answer

abbrev pub said : What → Said
said (W.Accepted r) = report (kind_of r) r (counted_of r)
said (W.Refused q) = refused (line_number q)
said W.End = end

abbrev call_of : Outcome → Call
call_of o = call (said o.what) o.first o.after o.named

abbrev message_of : Result Record FieldRefusal → List ℤ → List ℕ → Reply
message_of (Ok r) l t = message r l t
message_of (Err q) l t = refusal (field_number q) l t

abbrev answer_to : Form → Input → Reply
answer_to form (line ws) = calls (map call_of (outcomes (read_run (form_of form)) ws))
answer_to form (field s n w) = message_of (read_field s n w).answer (read_field s n w).list (text_of s n w)

-- ---- the table

-- C1's words, and C2's beginning and ending with these
abbrev c1 : List ℕ
c1 = 868 ∷ 1281 ∷ 2048 ∷ 647 ∷ []

abbrev c2 : ℕ → ℕ → List ℕ
c2 beginning ending = beginning ∷ 1281 ∷ 256 ∷ 7 ∷ 5175 ∷ 1414 ∷ ending ∷ []

-- what is answered of a line that is one run of n words: that, of the run from place 0 on, whose first word is named; and then the end
abbrev one : ℕ → Said → Reply
one n said = calls (call said 0 n 0 ∷ call end n n n ∷ [])

-- 40 nmi, a quarter of the circle, three counts of 1/8 s
abbrev values : Counted
values = counts (40 * 1024) (90 * 1024) (3 * 1024 / 8)

-- FAA, and C1's range, azimuth, run length and time; nothing else is set
abbrev search : Report
search =
    R.Search (record {
      test = false;
      faa = true;
      af = false;
      range = record { 0 = 320 };
      azimuth = record { 0 = 1024 };
      aims = false;
      code = 0;
      run = record { 0 = 5 };
      time = record { 0 = 3 };
    })

-- primary, FAA, and C2's range, azimuth, time and address; nothing else is set but the height
abbrev dabs : Height → Report
dabs h =
    R.Dabs (record {
      test = false;
      primary = true;
      spi = false;
      reinforced = false;
      code7700 = false;
      code7600 = false;
      faa = true;
      range = record { 0 = 5120 };
      azimuth = record { 0 = 2048 };
      alert = false;
      relay = false;
      time = record { 0 = 3 };
      address = 0xA1B2C3;
      height = h;
    })

abbrev zeros : ℕ → List ℤ
zeros n = replicate n (pos 0)

abbrev worked : Input → Reply → Worked
worked g t = record { input = g; reply = t }

abbrev pub table : List Worked
table =
    -- C1 868 1281 2048 647: Search, FAA, 40 nmi, azimuth 1024, run length 5, time 3
    worked (line c1) (one 4 (report Search search values))
    -- C2 3973 1281 256 7 5175 1414 4102: DABS, primary, A1B2C3 hex, 40 nmi, azimuth 2048, time 3, -300 ft
    ∷ worked (line (c2 3973 4102)) (one 7 (report Dabs (dabs (Altitude (neg_ℤ (pos 3)))) values))
    -- C3 C2 ending 4096: 9
    ∷ worked (line (c2 3973 4096)) (one 7 (refused 9))
    -- C4 C2 beginning 3974, ending 4: 7; ending 8: DABS-CD
    ∷ worked (line (c2 3974 4)) (one 7 (refused 7))
    ∷ worked (line (c2 3974 8)) (one 7 (report DabsCd (dabs (Cd true (record { 0 = 0 }))) values))
    -- C5 C1 twice, no idle: 6
    ∷ worked (line (c1 ++ c1)) (one 8 (refused 6))
    -- C6 0: 4
    ∷ worked (line (0 ∷ [])) (one 1 (refused 4))
    -- C7 8192: 3
    ∷ worked (line (8192 ∷ [])) (one 1 (refused 3))
    -- C8 1024: 5
    ∷ worked (line (1024 ∷ [])) (one 1 (refused 5))
    -- C9 577: 5
    ∷ worked (line (577 ∷ [])) (one 1 (refused 5))
    -- C10 bytes 9B 01 12 83, 32 bits, to the sensor: +12, -3
    ∷ worked (field (0x9B ∷ 0x01 ∷ 0x12 ∷ 0x83 ∷ []) 32 ToSensor)
    (message (Single (AltimeterCorrection 1)) (pos 12 ∷ neg_ℤ (pos 3) ∷ zeros 28) [])
    -- C11 the same with 80 last: 28
    ∷ worked (field (0x9B ∷ 0x01 ∷ 0x12 ∷ 0x80 ∷ []) 32 ToSensor) (refusal 28 (zeros 30) [])
    -- C12 21 A1 B2 C3 5B and seven zeros, 96 bits: number 5, urgent, EXP 3 (21 travels to the sensor; its text is zero)
    ∷ worked (field (0x21 ∷ 0xA1 ∷ 0xB2 ∷ 0xC3 ∷ 0x5B ∷ replicate 7 0x00) 96 ToSensor)
    (message (Single (TacticalUplink 0xA1B2C3 5 1 3 0)) (zeros 30) [])
    ∷ []

-- ---- the same words in the new form

abbrev pub new_table : List Worked
new_table =
    -- C2: -204,500 ft, since -3 is -2048 + 3 there
    worked (line (c2 3973 4102)) (one 7 (report Dabs (dabs (Altitude (neg_ℤ (pos 2045)))) values))
    -- C3, C2 ending 4096: the lowest altitude, -204,800 ft
    ∷ worked (line (c2 3973 4096)) (one 7 (report Dabs (dabs (Altitude (neg_ℤ (pos 2048)))) values))
    -- C2 ending 4094, bits 79-90 011111111111: the highest, 204,700 ft
    ∷ worked (line (c2 3973 4094)) (one 7 (report Dabs (dabs (Altitude (pos 2047))) values))
    -- C2 ending 8191, bits 79-90 all ones: -100 ft
    ∷ worked (line (c2 3973 8191)) (one 7 (report Dabs (dabs (Altitude (neg_ℤ (pos 1)))) values))
    -- C2 ending 1, bits 79-90 all zeros: sea level
    ∷ worked (line (c2 3973 1)) (one 7 (report Dabs (dabs (Altitude (pos 0))) values))
    -- C4: as in document 01's form
    ∷ worked (line (c2 3974 4)) (one 7 (refused 7))
    ∷ worked (line (c2 3974 8)) (one 7 (report DabsCd (dabs (Cd true (record { 0 = 0 }))) values))
    ∷ []

-- the words of C2 with this altitude, as the writer hands them out in the new form, or its refusal
abbrev c2_written : ℤ → Result Words LineRefusal
c2_written z = written (form_of F.TwosComplement) (dabs (Altitude z))

-- ---- the claims

-- what is given in each row is answered as the row tells
abbrev pub Twelve : Type 0
Twelve = map (λ (r : Worked). answer_to F.SignMagnitude r.input) table ≡ map (λ (r : Worked). r.reply) table

-- and so in the new form
abbrev pub InTheNewForm : Type 0
InTheNewForm = map (λ (r : Worked). answer_to F.TwosComplement r.input) new_table ≡ map (λ (r : Worked). r.reply) new_table

-- each of those altitudes is written back as the words that it was read from; -2049 and 2048 are 11
pub record WrittenInTheNewForm : Type 0 where
  pub of_c2 : c2_written (neg_ℤ (pos 2045)) ≡ as_written (c2 3973 4102)
  pub lowest : c2_written (neg_ℤ (pos 2048)) ≡ as_written (c2 3973 4096)
  pub highest : c2_written (pos 2047) ≡ as_written (c2 3973 4094)
  pub minus_one : c2_written (neg_ℤ (pos 1)) ≡ as_written (c2 3973 8191)
  pub sea_level : c2_written (pos 0) ≡ as_written (c2 3973 1)
  pub too_low : c2_written (neg_ℤ (pos 2049)) ≡ Err ValueTooLarge
  pub too_high : c2_written (pos 2048) ≡ Err ValueTooLarge
