-- A layout: for each word its fields, first field first, each with its width and its value side by side. From it follow the words,
-- whether every value fits, and at which of the document's bit numbers each value stands. Definitions only.
use Rattle.std.specs.Prelude.{ℕ, ◌+◌, ◌*◌, ◌%◌, ◌-◌, ◌^◌, ◌≡◌, Bool, true, false, cond, List, [], ◌∷◌, eqb, ltb, length}
use Rattle.words.specs.Word.{word_of, bits}

-- ---- a field

-- a flag is one bit; a count of k bits holds the number n; a rest of k bits holds the lowest k bits of n, whose other bits stand in a
-- count before it; fixed bits are a constant of the form
pub data Field : Type 0 where
  flag : Bool → Field
  count : ℕ → ℕ → Field
  rest : ℕ → ℕ → Field
  fixed : ℕ → ℕ → Field

-- spare or zero bits
abbrev pub spare : ℕ → Field
spare k = fixed k 0

abbrev pub width : Field → ℕ
width (flag b) = 1
width (count k n) = k
width (rest k n) = k
width (fixed k n) = k

abbrev pub value : Field → ℕ
value (flag b) = cond b 1 0
value (count k n) = n
value (rest k n) = n % 2 ^ k
value (fixed k n) = n

-- the value is not too large for the field
abbrev pub fitting : Field → Bool
fitting (flag b) = true
fitting (count k n) = ltb n (2 ^ k)
fitting (rest k n) = true
fitting (fixed k n) = ltb n (2 ^ k)

-- ---- a word's fields

-- how many bits they have together
abbrev pub span : List Field → ℕ
span [] = 0
span (f ∷ fs) = width f + span fs

-- the number that they make
abbrev pub joined : List Field → ℕ
joined [] = 0
joined (f ∷ fs) = value f * 2 ^ span fs + joined fs

abbrev pub fitting_all : List Field → Bool
fitting_all [] = true
fitting_all (f ∷ fs) = cond (fitting f) (fitting_all fs) false

-- they stand in the words from bit a on, each where the one before it ends
abbrev pub StandFrom : ℕ → List Field → List ℕ → Type 0
StandFrom a [] ws = Unit {0}
StandFrom a (f ∷ fs) ws = (bits ws a (a + width f - 1) ≡ value f) × StandFrom (a + width f) fs ws

-- ---- a report's words

-- the words that a layout makes
abbrev pub words_by : List (List Field) → List ℕ
words_by [] = []
words_by (fs ∷ l) = word_of (joined fs) ∷ words_by l

-- every value fits its field
abbrev pub fitting_by : List (List Field) → Bool
fitting_by [] = true
fitting_by (fs ∷ l) = cond (fitting_all fs) (fitting_by l) false

-- every word has all of its twelve data bits laid out
abbrev pub twelve_each : List (List Field) → Bool
twelve_each [] = true
twelve_each (fs ∷ l) = cond (eqb (span fs) 12) (twelve_each l) false

-- the fields stand where the layout has them: a word's begin thirteen bits after those of the word before
abbrev pub LaidFrom : ℕ → List (List Field) → List ℕ → Type 0
LaidFrom a [] ws = Unit {0}
LaidFrom a (fs ∷ l) ws = StandFrom a fs ws × LaidFrom (a + 13) l ws

-- as many words as the layout has, with its fields in them, from bit 1 on
pub record Laid (l : List (List Field)) (ws : List ℕ) : Type 0 where
  pub whole : length ws ≡ length l
  pub fields : LaidFrom 1 l ws
