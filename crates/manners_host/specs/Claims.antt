-- What is claimed of the number that the call answers. Statements only; proofs/Told.antt proves them.
use Rattle.std.specs.Prelude.{ℕ, ◌/◌, ◌%◌, ◌≡◌, Result, Ok, Err}
use Rattle.refusals.specs.Numbers.{line_number}
use Rattle.manners.specs.declared.NotListed.{NotListed}
use Rattle.manners.specs.declared.NotListed.TheVariants as N
use Rattle.manners.specs.Numbers.{manners_number}
use Rattle.manners.specs.Listing.{count_in}
use Rattle.manners_host.specs.Calls.{listed_done, step, answer_number}

-- what was done, in an answer
abbrev pub done_in : Result ℕ NotListed → ℕ
done_in (Ok n) = listed_done
done_in (Err (N.Line q)) = line_number q
done_in (Err (N.List q n)) = manners_number q

-- the header takes the two parts out of the number as they went in
abbrev pub TakenApart : Type 0
TakenApart = (a : Result ℕ NotListed) → (answer_number a % step ≡ done_in a) × (answer_number a / step ≡ count_in a)
