-- `field_items::items::tally` meets its contract. Assumes nothing.
use borrow.Author.Rules.{rules}
use mathlib.Core.Path.{◌≡◌, ◌∙◌}
use mathlib.Core.Bool.{not}
use native.Mathlib.Omega.{arith}
use lib.Dec.{eqb}
use lib.ListN.{length}
use Rattle.std.specs.List.{count_by}
use Rattle.std.proofs.iter.runs.Made.{chains}
use Rattle.std.proofs.lemmas.List.Sums.{count_by-le-length}
use Rattle.field_items.proofs.Laws.{tally_is}
use Rattle.field_items.proofs.items.tally.Goals as goal

pub returns : goal.returns
returns c =
    let n : c.count.result ≡ count_by (λ k. not (eqb k 0)) c.args.items = search (rules, chains) in
    let m : length c.args.items ≡ 11 = search rules in
    (n ∙ tally_is c.args.items, omega (arith, n, m, count_by-le-length (λ k. not (eqb k 0)) c.args.items))
