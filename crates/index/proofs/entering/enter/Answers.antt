-- `index::entering::enter` meets its contract: each return by what the look found. Assumes nothing.
use Rattle.std.proofs.Common.{rules, sym, ◌∙◌}
use Rattle.index.proofs.Lent.{had_some, had_none, refused, left, replaced, entered, full}
use Rattle.index.proofs.entering.enter.Goals as goal

pub returns-in_err-seen : goal.returns-in_err-seen
returns-in_err-seen c =
    let is = (refused c.args.entries.now c.args.e.number (sym c.look.ensures.found ∙ c.in_err-seen.was)).0 in
    record { answers = rw is (search rules); leaves = rw is }

pub returns-then-e-eq-UNCORRELATED : goal.returns-then-e-eq-UNCORRELATED
returns-then-e-eq-UNCORRELATED c =
    let is = left c.args.entries.now c.args.e.number (sym c.look.ensures.found ∙ c.in_ok-seen.was) c.if-e-eq-UNCORRELATED.true in
    record { answers = sym is; leaves = rw is }

pub returns-in-Some : goal.returns-in-Some
returns-in-Some c =
    let is = replaced c.args.entries.now c.args.e.number (sym c.look.ensures.found ∙ c.in_ok-seen.was) c.if-e-eq-UNCORRELATED.false c.in-Some.is in
    record { answers = sym is; leaves = rw is }

pub returns-in_err-i : goal.returns-in_err-i
returns-in_err-i c =
    let none = had_none _ c.in_ok-seen.seen.free c.in_err-i.ensures.value in
    let is =
    full
    c.args.entries.now
    c.args.e.number
    (sym c.look.ensures.found ∙ c.in_ok-seen.was)
    c.if-e-eq-UNCORRELATED.false
    c.in_default.is
    none.0
    in
    record { answers = rw is (search rules); leaves = rw is }

pub returns : goal.returns
returns c =
    let is =
    entered
    c.args.entries.now
    c.args.e.number
    (sym c.look.ensures.found ∙ c.in_ok-seen.was)
    c.if-e-eq-UNCORRELATED.false
    c.in_default.is
    (had_some _ c.in_ok-seen.seen.free c.in_ok-i.ensures.value)
    in
    record { answers = sym is; leaves = rw is }
