-- What is claimed of manners (document 02, Ticket 6). Statements only, with what they need to be said. Proved in proofs/: the file is named at each.
use Rattle.std.specs.Prelude.{ℕ, ◌+◌, ◌*◌, ◌/◌, ◌%◌, ◌≤◌, Bool, true, false, cond, List, [], ◌∷◌, ◌++◌, map, ◌↔◌, ◌⊎◌, ◌≡◌, ltb, length, take, drop, Some, Result, Ok, Err}
use Rattle.rows.specs.Claims.{FirstIs}
use Rattle.words.specs.Word.{idle}
use Rattle.reports.specs.declared.Report.{Report}
use Rattle.reports.specs.declared.altitude.Form.{Form}
use Rattle.reports.specs.Altitude.{AltitudeForm, sign_magnitude, twos_complement, form_of}
use Rattle.reports.specs.Runs.{read_run, is_accepted}
use Rattle.lines.specs.declared.What.TheVariants as W
use Rattle.lines.specs.declared.Received.{Received}
use Rattle.lines.specs.Line.{most, outcome_of}
use Rattle.lines.specs.Bytes.{most_bytes, words_in, bytes_of}
use Rattle.lines.specs.Links.{last_link, received_on, read_on, outcomes_on}
use Rattle.lines.specs.Stretches.{Run, runs, gathered}
use Rattle.lines.specs.Claims.{EndsIdle, BeginsIdle}
use Rattle.manners.specs.declared.Rule.{Rule}
use Rattle.manners.specs.declared.NotListed.{NotListed}
use Rattle.manners.specs.Numbers.{rule_number}
use Rattle.manners.specs.Rules.{broken, breaks}
use Rattle.manners.specs.Breaches.{Breach, breach, rules, breaches_of, breaches, numbers_of, found_of, manners_link, brought_by}
use Rattle.manners.specs.Listing.{most_in, most_breaches, list_rows, listed, Lists, byte_list_rows, listed_bytes, ListsBytes}

-- ---- the rules (proofs/Broken.antt)

-- a rule is the same over the words and over the record, for every accepted run
abbrev pub SameOfRecord : Type 0
SameOfRecord = (f : Form) (ws : List ℕ) (r : Report) → read_run (form_of f) ws ≡ Ok r → (rule : Rule) → broken rule ws ≡ breaks r rule

-- no run can have two of the four, accepted or not; nor can a record
abbrev pub AtMostOne : Type 0
AtMostOne = (ws : List ℕ) (a b : Rule) → broken a ws ≡ true → broken b ws ≡ true → a ≡ b

abbrev pub AtMostOneOfRecord : Type 0
AtMostOneOfRecord = (r : Report) (a b : Rule) → breaks r a ≡ true → breaks r b ≡ true → a ≡ b

-- so what the code finds in an accepted run's record is the one rule that its words break
abbrev pub FoundExactly : Type 0
FoundExactly =
    (f : Form) (ws : List ℕ) (r : Report) → read_run (form_of f) ws ≡ Ok r → (rule : Rule) →
    (found_of r ≡ Some rule) ↔ (broken rule ws ≡ true)

-- ---- the list (proofs/Exactly.antt)

-- one of a list
abbrev pub Among : {X : Type 0} → X → List X → Type 0
Among x [] = ⊥
Among x (y ∷ ys) = (x ≡ y) ⊎ Among x ys

-- the rules in their order have the numbers 1 to 4, and there is no other; a number names one rule
pub record RulesNumbered : Type 0 where
  pub in_order : map rule_number rules ≡ 1 ∷ 2 ∷ 3 ∷ 4 ∷ []
  pub all : (rule : Rule) → Among rule rules
  pub differ : (a b : Rule) → rule_number a ≡ rule_number b → a ≡ b

-- "The list has exactly the breaches": a place and a rule are in it exactly where a run begins at the place, is accepted, and breaks the rule
abbrev pub ExactlyTheBreaches : Type 0
ExactlyTheBreaches =
    (form : AltitudeForm) (line : List ℕ) (place : ℕ) (rule : Rule) →
    Among (breach place rule) (breaches form line)
    ↔ ((ws : List ℕ) × Among (record { place = place; words = ws }) (runs line) × (is_accepted (read_run form ws) ≡ true) × (broken rule ws ≡ true))

-- the places rise, from one on
abbrev pub RisingFrom : ℕ → List Breach → Type 0
RisingFrom p [] = Unit {0}
RisingFrom p (b ∷ bs) = (p ≤ b.place) × RisingFrom (b.place + 1) bs

-- "by place and then in this order": as no run has two, each place is greater than the one before it
abbrev pub ByPlace : Type 0
ByPlace = (form : AltitudeForm) (line : List ℕ) → RisingFrom 0 (breaches form line)

-- what stands at a place of the list: the reader answers there a report that breaks the rule, whichever link the line came on
abbrev pub ReadThere : Type 0
ReadThere =
    (f : Form) (line : List ℕ) (place : ℕ) (rule : Rule) → length line ≤ most → Among (breach place rule) (breaches (form_of f) line) →
    (r : Report)
    × (after : ℕ)
    × ((link : ℕ) → link ≤ last_link → read_on (form_of f) link line place ≡ received_on link (outcome_of (W.Accepted r) place after place))
    × (breaks r rule ≡ true)

-- it is what the outcomes of the line bring, of which demand 3 speaks; the line is read with link 0
abbrev pub FromTheOutcomes : Type 0
FromTheOutcomes =
    (f : Form) (line : List ℕ) → length line ≤ most →
    breaches (form_of f) line ≡ gathered brought_by (map (λ (r : Received). r.outcome) (outcomes_on (read_run (form_of f)) manners_link line))

-- a run that only one form of the altitude accepts breaks no rule: the list is the same in both
abbrev pub SameInBothForms : Type 0
SameInBothForms = (line : List ℕ) → breaches sign_magnitude line ≡ breaches twos_complement line

-- a line has no more breaches than this, so that a list with room for as many is never too small
pub record NoMore : Type 0 where
  pub in_words : (form : AltitudeForm) (line : List ℕ) → length (breaches form line) ≤ most_in (length line)
  pub in_any : (form : AltitudeForm) (line : List ℕ) → length line ≤ most → length (breaches form line) ≤ most_breaches
  pub enough : (form : AltitudeForm) (line : List ℕ) (room : ℕ) → length line ≤ most → most_breaches * 2 ≤ room
      → listed form line room ≡ Ok (length (breaches form line))
  pub enough_bytes : (form : AltitudeForm) (bytes : List ℕ) (room : ℕ) → length bytes ≤ most_bytes → length bytes % 2 ≡ 0 → most_breaches * 4 ≤ room
      → listed_bytes form bytes room ≡ Ok (length (breaches form (words_in bytes)))

-- worked runs (proofs/Worked.antt). At 1 an ATCRBS-CD report with bit 5 set. At 9 a relayed DABS report with bit 6 zero, and at 17 a DABS-CD report of
-- that kind. At 25 a Map with its stop below its start, refused for an even word. At 31 an ATCRBS report with bit 6 one and bits 79-90 all zeros, and at
-- 39 a relayed DABS report like it, which breaks no rule. At 47 a Map with start and stop equal, and at 52 a Map with its stop below its start
abbrev pub worked_runs : List Run
worked_runs =
    record { place = 1; words = 3331 ∷ 1 ∷ 1 ∷ 1 ∷ 1281 ∷ 38 ∷ 3080 ∷ [] }
    ∷ record { place = 9; words = 3584 ∷ 1 ∷ 1 ∷ 32 ∷ 334 ∷ 1030 ∷ 1 ∷ [] }
    ∷ record { place = 17; words = 3587 ∷ 1 ∷ 1 ∷ 32 ∷ 334 ∷ 1030 ∷ 8 ∷ [] }
    ∷ record { place = 25; words = 1 ∷ 400 ∷ 1 ∷ 396 ∷ [] }
    ∷ record { place = 31; words = 3457 ∷ 1 ∷ 1 ∷ 1 ∷ 1281 ∷ 44 ∷ 1 ∷ [] }
    ∷ record { place = 39; words = 3713 ∷ 1 ∷ 1 ∷ 32 ∷ 334 ∷ 1030 ∷ 1 ∷ [] }
    ∷ record { place = 47; words = 1 ∷ 400 ∷ 1 ∷ 400 ∷ [] }
    ∷ record { place = 52; words = 1 ∷ 400 ∷ 1 ∷ 397 ∷ [] }
    ∷ []

abbrev pub Worked : Type 0
Worked = (f : Form) → numbers_of (gathered (breaches_of (form_of f)) worked_runs) ≡ 1 ∷ 1 ∷ 9 ∷ 2 ∷ 17 ∷ 2 ∷ 31 ∷ 3 ∷ 52 ∷ 4 ∷ []

-- ---- a line in parts (proofs/Exactly.antt)

-- a breach with its place moved along
abbrev pub along : ℕ → Breach → Breach
along p b = breach (p + b.place) b.rule

-- a line in three parts that meet at idle words has the breaches of the parts, moved along
abbrev pub Splits : Type 0
Splits =
    (form : AltitudeForm) (pre mid post : List ℕ) → EndsIdle pre → BeginsIdle post →
    breaches form (pre ++ (mid ++ post))
    ≡ breaches form pre ++ (map (along (length pre)) (breaches form mid) ++ map (along (length pre + length mid)) (breaches form post))

-- the breaches whose place does not lie from one place up to another
unfoldable pub outside : ℕ → ℕ → List Breach → List Breach
outside lo hi [] = []
outside lo hi (b ∷ bs) = cond (ltb b.place lo) (b ∷ outside lo hi bs) (cond (ltb b.place hi) (outside lo hi bs) (b ∷ outside lo hi bs))

-- the words between two idle words that stay are replaced by equally many others: every breach outside is the same
abbrev pub Replaced : Type 0
Replaced =
    (f : Form) (a x y b : List ℕ) → length x ≡ length y → length (a ++ (idle ∷ (x ++ (idle ∷ b)))) ≤ most →
    outside (length a + 1) (length a + 1 + length x) (breaches (form_of f) (a ++ (idle ∷ (x ++ (idle ∷ b)))))
    ≡ outside (length a + 1) (length a + 1 + length x) (breaches (form_of f) (a ++ (idle ∷ (y ++ (idle ∷ b)))))

-- ---- the calls (proofs/Answered.antt)

-- all breaches are in the list
abbrev pub is_listed : Result ℕ NotListed → Bool
is_listed (Ok n) = true
is_listed (Err q) = false

-- each of 2, 14 and 52 is given exactly where its row is the first that holds
abbrev pub ListRefuses : Type 0
ListRefuses =
    (form : AltitudeForm) (line : List ℕ) (room : ℕ) (a : Result ℕ NotListed) → is_listed a ≡ false →
    (listed form line room ≡ a) ↔ FirstIs (list_rows form line room) a

abbrev pub ByteListRefuses : Type 0
ByteListRefuses =
    (form : AltitudeForm) (bytes : List ℕ) (room : ℕ) (a : Result ℕ NotListed) → is_listed a ≡ false →
    (listed_bytes form bytes room ≡ a) ↔ FirstIs (byte_list_rows form bytes room) a

-- how many breaches: exactly where the line is short enough, and the list has two numbers for each, or four bytes
abbrev pub ListedExactly : Type 0
ListedExactly =
    (form : AltitudeForm) (line : List ℕ) (room n : ℕ) →
    (listed form line room ≡ Ok n) ↔ ((length line ≤ most) × (length (breaches form line) * 2 ≤ room) × (length (breaches form line) ≡ n))

abbrev pub ByteListedExactly : Type 0
ByteListedExactly =
    (form : AltitudeForm) (bytes : List ℕ) (room n : ℕ) →
    (listed_bytes form bytes room ≡ Ok n)
    ↔ ((length bytes ≤ most_bytes)
    × (length bytes % 2 ≡ 0)
    × (length (breaches form (words_in bytes)) * 4 ≤ room)
    × (length (breaches form (words_in bytes)) ≡ n))

-- a refused call leaves the list as it was
pub record RefusedStays : Type 0 where
  pub words : (form : AltitudeForm) (line list : List ℕ) (a : Result ℕ NotListed) (exit : List ℕ) → Lists form line list a exit → is_listed a ≡ false → exit ≡ list
  pub bytes : (form : AltitudeForm) (bytes list : List ℕ) (a : Result ℕ NotListed) (exit : List ℕ) → ListsBytes form bytes list a exit → is_listed a ≡ false
      → exit ≡ list

-- "What stands behind the list stays": the front of the list is the numbers of all breaches, two a breach, or their bytes, four a breach. The rest of it
-- stays, and so does its length
pub record Fills (numbers : List ℕ) (front : ℕ) (list exit : List ℕ) : Type 0 where
  pub filled : take front exit ≡ numbers
  pub behind : drop front exit ≡ drop front list
  pub long : length exit ≡ length list

pub record BehindStays : Type 0 where
  pub words : (form : AltitudeForm) (line list : List ℕ) (n : ℕ) (exit : List ℕ) → Lists form line list (Ok n) exit
      → Fills (numbers_of (breaches form line)) (n * 2) list exit
  pub bytes : (form : AltitudeForm) (bytes list : List ℕ) (n : ℕ) (exit : List ℕ) → ListsBytes form bytes list (Ok n) exit
      → Fills (bytes_of (numbers_of (breaches form (words_in bytes)))) (n * 4) list exit

-- bytes that are few enough and even in number are answered as the words that they hold, with half as many numbers of room as bytes
abbrev pub BytesAsWords : Type 0
BytesAsWords =
    (form : AltitudeForm) (bytes : List ℕ) (room : ℕ) → length bytes ≤ most_bytes → length bytes % 2 ≡ 0 →
    listed_bytes form bytes room ≡ listed form (words_in bytes) (room / 2)

-- two bytes hold every number of a list
abbrev pub NumbersInBytes : Type 0
NumbersInBytes =
    (form : AltitudeForm) (line : List ℕ) → length line ≤ most →
    words_in (bytes_of (numbers_of (breaches form line))) ≡ numbers_of (breaches form line)
