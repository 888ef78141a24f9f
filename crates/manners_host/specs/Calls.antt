-- What the call of manners answers, and what the list then holds, from what the crate `manners` answers. Definitions only.
use Rattle.std.specs.Prelude.{ℕ, ◌+◌, ◌*◌, List, ◌≡◌, length, Result, Ok, Err}
use Rattle.refusals.specs.Numbers.{line_number}
use Rattle.reports.specs.Altitude.{AltitudeForm}
use Rattle.lines.specs.Bytes.{words_in, bytes_of}
use Rattle.manners.specs.declared.NotListed.{NotListed}
use Rattle.manners.specs.declared.NotListed.TheVariants as N
use Rattle.manners.specs.Numbers.{manners_number}
use Rattle.manners.specs.Breaches.{breaches, numbers_of}
use Rattle.manners.specs.Listing.{left_as, listed_bytes}

-- ---- an answer as one number

-- all breaches are in the list. No two of this number, the kinds', the refusals' and what was done in an index are the same (tests/header.rs)
abbrev pub listed_done : ℕ
listed_done = 128

-- the breaches are counted in these
abbrev pub step : ℕ
step = 256

-- what was done, and behind it how many breaches the line has
abbrev pub done_with : ℕ → ℕ → ℕ
done_with done count = done + step * count

abbrev pub answer_number : Result ℕ NotListed → ℕ
answer_number (Ok n) = done_with listed_done n
answer_number (Err (N.Line q)) = line_number q
answer_number (Err (N.List q n)) = done_with (manners_number q) n

-- ---- the call

-- what it promises: the number of the answer, and the list that this answer leaves
pub record GivesNumber (form : AltitudeForm) (bytes list : List ℕ) (answer : ℕ) (exit : List ℕ) : Type 0 where
  pub answers : answer ≡ answer_number (listed_bytes form bytes (length list))
  pub leaves : exit ≡ left_as (listed_bytes form bytes (length list)) (bytes_of (numbers_of (breaches form (words_in bytes)))) list
