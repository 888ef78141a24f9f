-- `index::judging::look` meets its contract: each return is one case of what a look finds. Assumes nothing.
use Rattle.std.proofs.Common.{ℕ, length, sym, ap, ◌∙◌}
use Rattle.std.specs.Prelude.{Option}
use Rattle.std.specs.Option.{unwrap_or}
use Rattle.index.specs.Table.{numbers_of, held_twice}
use Rattle.index.specs.Steps.{some_used}
use Rattle.index.proofs.Lent.{placed_within, long_broken, gap_broken, twice_broken, not_broken, looks_broken, looks_sound}
use Rattle.index.proofs.judging.look.Goals as goal
use Rattle.index.proofs.judging.look.Goals.{then-any_used-via-then-any_used, then-any_used-via-else-any_used+then-doubled}

pub returns-then-entries-gt-MOST-clause-found : goal.returns-then-entries-gt-MOST-clause-found
returns-then-entries-gt-MOST-clause-found c = sym (looks_broken c.args.entries.now c.args.x (long_broken c.args.entries.now c.if-entries-gt-MOST.true))

pub returns-then-any_used-clause-found : goal.returns-then-any_used-clause-found
returns-then-any_used-clause-found c =
    let table = c.args.entries.now in
    let free = c.unwrap_or-used.result in
    let is = c.unwrap_or-used.ensures ∙ ap (λ (o : Option ℕ). unwrap_or o (length table)) c.placed-free.ensures in
    let gap = sym (c.any_used.ensures ∙ ap some_used c.split_at.ensures.back) in
    sym
    (looks_broken table c.args.x
    (elim c.then-any_used.branch [
      | then-any_used-via-then-any_used w ↦ gap_broken table free is c.if-entries-gt-MOST.false (gap ∙ w.if-any_used.true)
      | then-any_used-via-else-any_used+then-doubled w ↦
          twice_broken table free is c.if-entries-gt-MOST.false (gap ∙ w.if-any_used.false)
          (sym (w.doubled.ensures ∙ ap (λ es. held_twice (numbers_of es)) c.split_at.ensures.front) ∙ w.if-doubled.true)
    ]))

pub returns-clause-found : goal.returns-clause-found
returns-clause-found c =
    let table = c.args.entries.now in
    let free = c.unwrap_or-used.result in
    let is = c.unwrap_or-used.ensures ∙ ap (λ (o : Option ℕ). unwrap_or o (length table)) c.placed-free.ensures in
    rw
    (c.placed-free.ensures, c.placed-at.ensures)
    (sym
    (looks_sound table c.args.x
    (not_broken table free is c.if-entries-gt-MOST.false
    (sym (c.any_used.ensures ∙ ap some_used c.split_at.ensures.back) ∙ c.if-any_used.false)
    (sym (c.doubled.ensures ∙ ap (λ es. held_twice (numbers_of es)) c.split_at.ensures.front) ∙ c.if-doubled.false))))

pub returns-clause-within : goal.returns-clause-within
returns-clause-within c =
    let table = c.args.entries.now in
    rw (c.placed-free.ensures, c.placed-at.ensures) (placed_within 0 table c.if-entries-gt-MOST.false, placed_within c.args.x table c.if-entries-gt-MOST.false)
