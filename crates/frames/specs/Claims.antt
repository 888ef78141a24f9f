-- What is claimed of frames. Statements only, with what they need to be said; the file that proves each is named.
use Rattle.std.specs.Prelude.{ℕ, suc, ◌+◌, ◌-◌, ◌≤◌, ◌<◌, ◌≡◌, Bool, true, false, not, List, [], ◌∷◌, ◌++◌, map, ◌↔◌, ◌⊎◌, length, take, drop, Ok}
use Rattle.rows.specs.Claims.{FirstIs}
use Rattle.fields.specs.declared.Direction.{Direction}
use Rattle.frames.specs.declared.FrameRefusal.{FrameRefusal}
use Rattle.frames.specs.declared.What.TheVariants as W
use Rattle.frames.specs.Stream.{bits_from, digits}
use Rattle.frames.specs.Check.{preset, feed, check_of}
use Rattle.frames.specs.Zeros.{with_zeros, zeros_out, zero_missing}
use Rattle.frames.specs.Frame.{Frame, Fits, flag, between, frame_bits}
use Rattle.frames.specs.Reading.{accepted, refused, end, outcome, up_to_flag, behind_opening, wrong_check, read_rows, read_bits, stream_at, field_bytes, read_frame}
use Rattle.frames.specs.Writing.{given, refused_at, write_rows, closing_place, write_frame, Writes}
use Rattle.frames.specs.Lists.{Spaced, flags, stream_of, frames_of, AllFit, goes_on, calls, answers, flags_in}

-- ---- each refusal exactly under its condition (proofs/Refused.antt, proofs/Ends.antt)

-- a refusal is given, with its place, exactly where its row is the first that holds
abbrev pub ReaderRefuses : Type 0
ReaderRefuses =
    (over : Bool) (s : List Bool) (q : FrameRefusal) (n : ℕ)
    → (read_bits over s ≡ outcome (refused q) n) ↔ FirstIs (read_rows over s) (outcome (refused q) n)

-- the end is told exactly where there are flags, one or more, and nothing else up to the count; its place is the count
abbrev pub EndExactly : Type 0
EndExactly =
    (over : Bool) (s : List Bool) (n : ℕ)
    → (read_bits over s ≡ outcome end n) ↔ ((over ≡ false) × ((k : ℕ) × (s ≡ flags (suc k))) × (n ≡ length s))

abbrev pub WriterRefuses : Type 0
WriterRefuses =
    (len count place : ℕ) (way : Direction) (control : ℕ) (field : List ℕ) (n : ℕ) (q : FrameRefusal) (p : ℕ)
    → (write_frame len count place way control field n ≡ refused_at q p)
    ↔ FirstIs (write_rows len count place field n (given way control field n)) (refused_at q p)

-- a refused call gives the place back, and has written nothing
abbrev pub RefusedStays : Type 0
RefusedStays =
    (bytes : List ℕ) (count place : ℕ) (way : Direction) (control : ℕ) (field : List ℕ) (n : ℕ) (q : FrameRefusal) (p : ℕ) (exit : List ℕ)
    → Writes bytes count place way control field n (refused_at q p) exit → (p ≡ place) × (exit ≡ bytes)

-- ---- inserted zeros (proofs/Zeros.antt)

-- what was put in is taken out again, and none is missing
abbrev pub TakenOut : Type 0
TakenOut = (s : List Bool) → (zeros_out 0 (with_zeros 0 s) ≡ s) × (zero_missing 0 (with_zeros 0 s) ≡ false)

-- where none is missing, what was taken out is put in again
abbrev pub PutIn : Type 0
PutIn = (s : List Bool) → zero_missing 0 s ≡ false → with_zeros 0 (zeros_out 0 s) ≡ s

-- no flag stands in what was written: the first flag is the closing one
abbrev pub NoFlagInside : Type 0
NoFlagInside = (s rest : List Bool) → up_to_flag (with_zeros 0 s ++ (flag ++ rest)) ≡ with_zeros 0 s

-- ---- the check sequence (proofs/Checked.antt)

-- over bits with their check sequence the register ends in 1D0F, and over no others
abbrev pub Remainder : Type 0
Remainder = (b : List Bool) → 16 ≤ length b → (wrong_check b ≡ false) ↔ (feed preset b ≡ digits 16 0x1D0F)

-- up to sixteen neighbouring bits of a body replaced by as many others are found, wherever they stand, in the check sequence too. On the line an
-- error can also make or break a flag or an inserted zero, and of that nothing is said
abbrev pub BurstFound : Type 0
BurstFound =
    (xs ds es ys : List Bool) → length ds ≤ 16 → length ds ≡ length es → (ds ≡ es → ⊥) → 16 ≤ length (xs ++ (ds ++ ys))
    → wrong_check (xs ++ (ds ++ ys)) ≡ false → wrong_check (xs ++ (es ++ ys)) ≡ true

-- so one bit of it flipped, or two neighbouring ones, is found
abbrev pub OneFlipFound : Type 0
OneFlipFound =
    (xs ys : List Bool) (x : Bool) → 16 ≤ length (xs ++ (x ∷ ys)) → wrong_check (xs ++ (x ∷ ys)) ≡ false
    → wrong_check (xs ++ (not x ∷ ys)) ≡ true

abbrev pub TwoFlipsFound : Type 0
TwoFlipsFound =
    (xs ys : List Bool) (x y : Bool) → 16 ≤ length (xs ++ (x ∷ y ∷ ys)) → wrong_check (xs ++ (x ∷ y ∷ ys)) ≡ false
    → wrong_check (xs ++ (not x ∷ not y ∷ ys)) ≡ true

-- known check sequences, octets low bit first: 5B EC of 03 3F and 83 57 of 01 73, frames without a field to the sensor and from it; and 6E 90 of
-- "123456789"
pub record KnownChecks : Type 0 where
  pub to_sensor : check_of (digits 8 0b11000000 ++ digits 8 0b11111100) ≡ digits 8 0b11011010 ++ digits 8 0b00110111
  pub from_sensor_is : check_of (digits 8 0b10000000 ++ digits 8 0b11001110) ≡ digits 8 0b11000001 ++ digits 8 0b11101010
  pub nine_digits : check_of
      (digits 8 0b10001100 ++ digits 8 0b01001100 ++ digits 8 0b11001100 ++ digits 8 0b00101100 ++ digits 8 0b10101100
      ++ digits 8 0b01101100 ++ digits 8 0b11101100 ++ digits 8 0b00011100 ++ digits 8 0b10011100)
      ≡ digits 8 0b01110110 ++ digits 8 0b00001001

-- ---- one frame (proofs/Back.antt)

-- a frame that was written is read, behind any number of flags and whatever follows it, and the place of its closing flag is answered
abbrev pub ReadsBack : Type 0
ReadsBack =
    (f : Frame) (k : ℕ) (rest : List Bool) → Fits f
    → read_bits false (flags k ++ (frame_bits f ++ rest)) ≡ outcome (accepted f) (closing_place (length (flags k)) f)

-- bits between two flags: there are some, and no flag begins among them
abbrev pub Stretch : List Bool → Type 0
Stretch s = (0 < length s) × (up_to_flag (s ++ flag) ≡ s)

-- a stretch between two flags is accepted exactly when it is what the writer writes for some direction, control and field
abbrev pub AcceptedExactly : Type 0
AcceptedExactly =
    (s rest : List Bool) (f : Frame) (n : ℕ) → Stretch s
    → (read_bits false (flag ++ (s ++ (flag ++ rest))) ≡ outcome (accepted f) n) ↔ ((s ≡ between f) × Fits f × (n ≡ 8 + length s))

-- how many bits stand in front of the opening flag
abbrev pub opening : List Bool → ℕ
opening s = length s - length (behind_opening s) - 8

-- a frame that was read stands there as the writer writes it, from its opening flag to its closing flag, whose place was answered; and the writer
-- takes it
abbrev pub WrittenAgain : Type 0
WrittenAgain =
    (over : Bool) (s : List Bool) (f : Frame) (n : ℕ) → read_bits over s ≡ outcome (accepted f) n
    → Fits f × (take (length (frame_bits f)) (drop (opening s) s) ≡ frame_bits f) × (n ≡ closing_place (opening s) f)

-- ---- lists of frames, and the calls (proofs/Lists.antt)

-- frames one after the other, sharing flags or with any number of flags between, read back as the list
abbrev pub ListReadsBack : Type 0
ListReadsBack = (xs : List Spaced) (tail : ℕ) → AllFit xs → answers (stream_of xs tail) ≡ map accepted (frames_of xs) ++ (end ∷ [])

-- equal bits mean equal lists
abbrev pub EqualLists : Type 0
EqualLists = (xs ys : List Spaced) (m n : ℕ) → AllFit xs → AllFit ys → stream_of xs m ≡ stream_of ys n → frames_of xs ≡ frames_of ys

-- a stream is finished in as many calls as it has flags; one that has none, in one call
abbrev pub CallsEnough : Type 0
CallsEnough = (s : List Bool) (k : ℕ) → flags_in s ≤ k → 0 < k → calls k s ≡ answers s

-- bits behind the closing flag make no difference
abbrev pub NotBehind : Type 0
NotBehind =
    (s rest : List Bool) → goes_on (read_bits false s) ≡ true → read_bits false (take ((read_bits false s).on + 8) s ++ rest) ≡ read_bits false s

-- ---- lent bytes (proofs/Lent.antt)

-- the field's bits are in the bytes that are handed out
abbrev pub HandedOut : Type 0
HandedOut = (bs : List Bool) → length bs ≤ 2008 → bits_from (field_bytes bs) 0 (length bs) ≡ bs

-- a frame written and read gives the same direction, control and field, at the place where it was written
abbrev pub WrittenReads : Type 0
WrittenReads =
    (bytes : List ℕ) (count place : ℕ) (way : Direction) (control : ℕ) (field : List ℕ) (n p : ℕ) (exit : List ℕ) → control < 256
    → Writes bytes count place way control field n (Ok p) exit
    → read_frame exit count place ≡ record { what = W.Frame way control n; place = p; field = field_bytes (bits_from field 0 n) }

-- a frame written on from the closing flag of another shares it: that one still reads as it did
abbrev pub WrittenOn : Type 0
WrittenOn =
    (bytes : List ℕ) (count place : ℕ) (way : Direction) (control : ℕ) (field : List ℕ) (n p : ℕ) (exit : List ℕ) → control < 256
    → Writes bytes count place way control field n (Ok p) exit
    → (way' : Direction) (control' : ℕ) (field' : List ℕ) (n' p' : ℕ) (exit' : List ℕ)
    → Writes exit count p way' control' field' n' (Ok p') exit' → read_frame exit' count place ≡ read_frame exit count place

-- a frame that was read, written again at its opening flag, leaves the bytes as they are
abbrev pub ReadWrites : Type 0
ReadWrites =
    (bytes : List ℕ) (count place : ℕ) (way : Direction) (control n p : ℕ) (field : List ℕ)
    → read_frame bytes count place ≡ record { what = W.Frame way control n; place = p; field = field }
    → Writes bytes count (place + opening (stream_at bytes count place)) way control field n (Ok p) bytes

-- a frame that is written leaves all bits in front of its place and behind its closing flag as they were
abbrev pub OthersStay : Type 0
OthersStay =
    (bytes : List ℕ) (count place : ℕ) (way : Direction) (control : ℕ) (field : List ℕ) (n p : ℕ) (exit : List ℕ)
    → Writes bytes count place way control field n (Ok p) exit
    → (g m : ℕ) → (g + m ≤ place) ⊎ (p + 8 ≤ g) → bits_from exit g m ≡ bits_from bytes g m
