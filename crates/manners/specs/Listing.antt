-- What a call answers, and what the lent list then holds, for a line of words and for one held as bytes. Definitions only.
use Rattle.std.specs.Prelude.{ℕ, ◌+◌, ◌/◌, ◌%◌, List, [], ◌∷◌, ◌++◌, ◌≡◌, eqb, ltb, length, drop, Result, Ok, Err}
use Rattle.rows.specs.Rows.{Row, row, first_of}
use Rattle.refusals.specs.declared.LineRefusal.TheVariants.{LineTooLong, OddByteCount}
use Rattle.reports.specs.Altitude.{AltitudeForm}
use Rattle.lines.specs.Line.{most}
use Rattle.lines.specs.Bytes.{most_bytes, words_in, bytes_of}
use Rattle.manners.specs.declared.MannersRefusal.TheVariants.{ListTooSmall}
use Rattle.manners.specs.declared.NotListed.{NotListed}
use Rattle.manners.specs.declared.NotListed.TheVariants as N
use Rattle.manners.specs.Breaches.{Breach, breaches, numbers_of}

-- the most breaches that a line of so many words can have, and any line (NoMore in Claims.antt): a run that breaks a rule has four words at least, and an
-- idle word parts it from the next
abbrev pub most_in : ℕ → ℕ
most_in words = (words + 1) / 5

abbrev pub most_breaches : ℕ
most_breaches = 6553

-- how many breaches an answer tells
abbrev pub count_in : Result ℕ NotListed → ℕ
count_in (Ok n) = n
count_in (Err (N.Line q)) = 0
count_in (Err (N.List q n)) = n

-- ---- a list that is lent

-- 52: the list has room for fewer numbers (or bytes) than all breaches need. The answer says how many breaches there are
abbrev pub too_small : ℕ → List ℕ → List Breach → Row (Result ℕ NotListed)
too_small room needed bs = row (ltb room (length needed)) (Err (N.List ListTooSmall (length bs)))

-- what stands in the list then: all that is needed, and behind it what stood there; refused, nothing has changed
abbrev pub left_as : Result ℕ NotListed → List ℕ → List ℕ → List ℕ
left_as (Ok n) needed list = needed ++ drop (length needed) list
left_as (Err (N.Line q)) needed list = list
left_as (Err (N.List q n)) needed list = list

-- what a call promises that owes the answer `due`: it gives that answer, and leaves what that answer leaves
pub record Gives (due : Result ℕ NotListed) (needed list : List ℕ) (answer : Result ℕ NotListed) (exit : List ℕ) : Type 0 where
  pub answers : answer ≡ due
  pub leaves : exit ≡ left_as due needed list

-- ---- a line of words, the list as 16-bit numbers

-- 2, then 52
abbrev pub list_rows : AltitudeForm → List ℕ → ℕ → List (Row (Result ℕ NotListed))
list_rows form line room =
    row (ltb most (length line)) (Err (N.Line LineTooLong)) ∷ too_small room (numbers_of (breaches form line)) (breaches form line) ∷ []

unfoldable pub listed : AltitudeForm → List ℕ → ℕ → Result ℕ NotListed
listed form line room = first_of (list_rows form line room) (Ok (length (breaches form line)))

abbrev pub Lists : AltitudeForm → List ℕ → List ℕ → Result ℕ NotListed → List ℕ → Type 0
Lists form line list = Gives (listed form line (length list)) (numbers_of (breaches form line)) list

-- ---- a line held as bytes, the list as bytes: two a number, high byte first

-- 2, 14, then 52
abbrev pub byte_list_rows : AltitudeForm → List ℕ → ℕ → List (Row (Result ℕ NotListed))
byte_list_rows form bytes room =
    row (ltb most_bytes (length bytes)) (Err (N.Line LineTooLong))
    ∷ row (eqb (length bytes % 2) 1) (Err (N.Line OddByteCount))
    ∷ too_small room (bytes_of (numbers_of (breaches form (words_in bytes)))) (breaches form (words_in bytes))
    ∷ []

unfoldable pub listed_bytes : AltitudeForm → List ℕ → ℕ → Result ℕ NotListed
listed_bytes form bytes room = first_of (byte_list_rows form bytes room) (Ok (length (breaches form (words_in bytes))))

abbrev pub ListsBytes : AltitudeForm → List ℕ → List ℕ → Result ℕ NotListed → List ℕ → Type 0
ListsBytes form bytes list = Gives (listed_bytes form bytes (length list)) (bytes_of (numbers_of (breaches form (words_in bytes)))) list
