-- `report_items::given::record_given` meets its contract, outcome by outcome. Assumes nothing.
use mathlib.Core.Path.{◌≡◌, refl, ap, sym, ◌∙◌}
use mathlib.Core.Bool.{Bool, true, false}
use mathlib.Core.List.{List}
use Prim.Native.Nat.{ℕ, ◌%◌}
use lib.Dec.{eqb}
use lib.ListN.{length}
use Rattle.std.specs.Prelude.{Option}
use Rattle.words.proofs.Tests.{picked}
use Rattle.pairs.specs.Pairs.{Pair, pairs_in, gathered_from}
use Rattle.reports.specs.Kinds.{kind_number}
use Rattle.reports.specs.declared.kinds.Kind.{Kind}
use Rattle.reports.specs.declared.Report.{Report}
use Rattle.report_items.specs.Items.{last, items_of}
use Rattle.report_items.specs.Given.{item_given, item_gathered, agree_to, built, built_from, unfit, given_by, given}
use Rattle.report_items.proofs.Builds.{by_count, by_items, by_all, kind_is, by_kind, gathered}
use Rattle.report_items.proofs.given.record_given.Goals as goal

-- the test by what is gathered is the test by the pairs
tested : (r : Report) (ps : List Pair) (v : List (Option ℕ)) (b : Bool) → v ≡ gathered_from 0 ps → b ≡ agree_to last r (item_gathered v) → agree_to last r (item_given ps) ≡ b
tested r ps v b e h = sym (gathered r ps) ∙ ap (λ (x : List (Option ℕ)). agree_to last r (item_gathered x)) (sym e) ∙ sym h

-- of whole items of a kind, whose records have so many
module _ (kind size : ℕ) (s : List ℕ) (whole : eqb (length s % 16) 0 ≡ true) (k : Kind) (number : kind_number k ≡ kind)
    (sizes : (v : List (Option ℕ)) → length (items_of (built (kind_number k) v)) ≡ size) where
  whole_is : given kind s ≡ given_by kind (pairs_in s)
  unfolding given
  whole_is = picked _ _ whole

  sized : length (items_of (built_from kind (pairs_in s))) ≡ size
  sized = rw (← number) (sizes (gathered_from 0 (pairs_in s)))

  miscounted : (length (pairs_in s) ≡ size → ⊥) → given kind s ≡ unfit
  miscounted n = whole_is ∙ by_count kind (pairs_in s) (λ e. n (e ∙ sized))

  -- as many as there are pairs, and built from what is gathered of them
  module _ (many : length (pairs_in s) ≡ size) (v : List (Option ℕ)) (r : Report) (g : v ≡ gathered_from 0 (pairs_in s)) (b : r ≡ built (kind_number k) v) where
    is : r ≡ built_from kind (pairs_in s)
    is = b ∙ rw (number, g) refl

    as_many : length (pairs_in s) ≡ length (items_of r)
    as_many = many ∙ sym sized ∙ sym (ap (λ (x : Report). length (items_of x)) is)

    taken : true ≡ agree_to last r (item_gathered v) → given kind s ≡ r
    taken t = whole_is ∙ by_all kind (pairs_in s) r is as_many (tested r (pairs_in s) v true g t)

    left : false ≡ agree_to last r (item_gathered v) → given kind s ≡ unfit
    left t = whole_is ∙ by_items kind (pairs_in s) r is as_many (tested r (pairs_in s) v false g t)

pub returns-then-not-whole : goal.returns-then-not-whole
unfolding given
returns-then-not-whole c = rw (← c.whole.ensures, c.if-not-whole.true) refl

pub returns-in_err-kind : goal.returns-in_err-kind
returns-in_err-kind c = rw c.from_residual.ensures (sym (by_kind c.args.kind c.args.items.now c.try_from.result c.try_from.ensures c.in_err-kind.ensures.value))

pub returns-then-count-size : goal.returns-then-count-size
returns-then-count-size c =
    let a = c.args in
    let number = kind_is a.kind c.try_from.result c.in_ok-kind.kind c.try_from.ensures c.in_ok-kind.ensures.value in
    sym (miscounted a.kind c.size_of-size.result a.items.now (sym c.whole.ensures ∙ c.if-not-whole.false) c.in_ok-kind.kind number c.size_of-size.ensures (λ e. c.if-count-size.true (c.count.ensures ∙ e)))

pub returns-then-agrees : goal.returns-then-agrees
returns-then-agrees c =
    let a = c.args in
    let number = kind_is a.kind c.try_from.result c.in_ok-kind.kind c.try_from.ensures c.in_ok-kind.ensures.value in
    sym (taken a.kind c.size_of-size.result a.items.now (sym c.whole.ensures ∙ c.if-not-whole.false) c.in_ok-kind.kind number c.size_of-size.ensures (sym c.count.ensures ∙ c.if-count-size.false) c.gather.result c.built_of-report.result c.gather.ensures c.built_of-report.ensures (sym c.if-agrees.true ∙ c.agrees.ensures))

pub returns-else-agrees : goal.returns-else-agrees
returns-else-agrees c =
    let a = c.args in
    let number = kind_is a.kind c.try_from.result c.in_ok-kind.kind c.try_from.ensures c.in_ok-kind.ensures.value in
    sym (left a.kind c.size_of-size.result a.items.now (sym c.whole.ensures ∙ c.if-not-whole.false) c.in_ok-kind.kind number c.size_of-size.ensures (sym c.count.ensures ∙ c.if-count-size.false) c.gather.result c.built_of-report.result c.gather.ensures c.built_of-report.ensures (sym c.if-agrees.false ∙ c.agrees.ensures))
