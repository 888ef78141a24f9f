-- `manners_host::siamrung_manners` meets its contract: the form's number becomes a name, and the answer a number. Assumes nothing.
use Prim.Native.Nat.{◌≤◌}
use mathlib.Core.Path.{sym, subst}
use Rattle.std.specs.Prelude.{ℕ, Result}
use Rattle.manners.specs.declared.NotListed.{NotListed}
use Rattle.manners.specs.Listing.{most_breaches, count_in}
use Rattle.manners_host.proofs.Told.{few_told}
use Rattle.manners_host.proofs.siamrung_manners.Goals as goal

pub answer_number-requires : goal.answer_number-requires
answer_number-requires c = subst (λ (a : Result ℕ NotListed). count_in a ≤ most_breaches) (sym c.list-answer.ensures.answers) (few_told _ _ _)
