-- `index::entering::find` meets its contract: each return by what the look found. Assumes nothing.
use Rattle.std.proofs.Common.{rules, sym, ap, ◌∙◌, Ok}
use Rattle.index.proofs.Lent.{refused, none_found, finds}
use Rattle.index.proofs.entering.find.Goals as goal

pub returns-in_err-seen : goal.returns-in_err-seen
returns-in_err-seen c = rw (refused c.args.entries.now c.args.number (sym c.look.ensures.found ∙ c.in_err-seen.was)).1 (search rules)

pub returns-then-number-eq-UNCORRELATED : goal.returns-then-number-eq-UNCORRELATED
returns-then-number-eq-UNCORRELATED c =
    sym (none_found c.args.entries.now c.args.number (sym c.look.ensures.found ∙ c.in_ok-seen.was) c.if-number-eq-UNCORRELATED.true)

pub returns : goal.returns
returns c =
    rw (finds c.args.entries.now c.args.number (sym c.look.ensures.found ∙ c.in_ok-seen.was) c.if-number-eq-UNCORRELATED.false) (ap Ok (search rules))
