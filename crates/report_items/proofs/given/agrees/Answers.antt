-- `report_items::given::agrees` meets its contract: what is given for the numbers passed stands in the report, and so many are given. Assumes nothing.
use Rattle.std.specs.Prelude.{None, Option, Some}
use mathlib.Core.Path.{◌≡◌, refl, sym, ap, ◌∙◌}
use mathlib.Core.Bool.{Bool, true, false}
use mathlib.Core.List.{List}
use Prim.Native.Nat.{ℕ, ◌+◌, ◌-◌, ◌<◌, ◌^◌}
use native.Mathlib.Omega.{arith}
use lib.Dec.{eqb}
use lib.IntN.{ℤ}
use lib.ListN.{get_or}
use Rattle.words.proofs.Tests.{picked, passed}
use Rattle.reports.specs.declared.Report.{Report}
use Rattle.report_items.specs.Items.{last, item_of, is_of}
use Rattle.report_items.specs.Given.{as_signed, item_gathered, same_item}
use Rattle.report_items.proofs.Tally.{tally_to, stands, stand_to, stand_next, tally_next, by_tally, by_one}
use Rattle.report_items.proofs.given.agrees.Goals as goal

-- one more number, for which something is given, or nothing
module _ (r : Report) (v : List (Option ℕ)) (n : ℕ) (h : 0 < n) where
  given_is : (x : ℕ) → get_or v n None ≡ Some x → item_gathered v n ≡ Some (as_signed (2 ^ 63) x)
  unfolding item_gathered
  given_is x e = rw e refl

  none_is : get_or v n None ≡ None → item_gathered v n ≡ None
  unfolding item_gathered
  none_is e = rw e refl

  test : (x : ℕ) (b : Bool) → get_or v n None ≡ Some x → b ≡ same_item (item_of r n) (Some (as_signed (2 ^ 63) x)) → stands (item_of r n) (item_gathered v n) ≡ b
  test x b e t = rw (given_is x e) (sym t)

  stands_on : stands (item_of r n) (item_gathered v n) ≡ true → stand_to n r (item_gathered v) ≡ stand_to (n - 1) r (item_gathered v)
  stands_on t = stand_next r (item_gathered v) n h ∙ picked _ _ t

  falls_at : stands (item_of r n) (item_gathered v n) ≡ false → stand_to n r (item_gathered v) ≡ false
  falls_at t = stand_next r (item_gathered v) n h ∙ passed _ _ t

  counts_on : (o : Option ℤ) → item_gathered v n ≡ o → tally_to n (item_gathered v) ≡ is_of o + tally_to (n - 1) (item_gathered v)
  counts_on o q = tally_next r (item_gathered v) n h ∙ ap (λ (i : Option ℤ). is_of i + tally_to (n - 1) (item_gathered v)) q

pub returns-then-not-stands : goal.returns-then-not-stands
returns-then-not-stands c =
    let l = c.loop-n in
    let n = l.n - 1 in
    let r = c.args.report in
    let v = c.args.v.now.0 in
    let h : 0 < n = omega arith in
    let t = test r v n h c.in-Some.value false c.in-Some.is (sym c.if-not-stands.true ∙ c.stands.ensures) in
    sym (by_one r (item_gathered v) (sym l.invariant.stood ∙ falls_at r v n h t))

-- something is given for the number
pub loop-n-preserved-in-Some : goal.loop-n-preserved-in-Some
loop-n-preserved-in-Some c =
    let l = c.loop-n in
    let n = l.n - 1 in
    let r = c.args.report in
    let v = c.args.v.now.0 in
    let x = c.in-Some.value in
    let h : 0 < n = omega arith in
    let t = test r v n h x true c.in-Some.is (sym c.if-not-stands.false ∙ c.stands.ensures) in
    let k = counts_on r v n h (Some (as_signed (2 ^ 63) x)) (given_is r v n h x c.in-Some.is) in
    record { few = omega arith; stood = sym (stands_on r v n h t) ∙ l.invariant.stood; counted = omega (arith, k, l.invariant.counted) }

-- nothing is
pub loop-n-preserved : goal.loop-n-preserved
loop-n-preserved c =
    let l = c.loop-n in
    let n = l.n - 1 in
    let r = c.args.report in
    let v = c.args.v.now.0 in
    let h : 0 < n = omega arith in
    let e = none_is r v n h c.in_default.is in
    let k = counts_on r v n h None e in
    record { few = omega arith; stood = sym (stands_on r v n h (rw e refl)) ∙ l.invariant.stood; counted = omega (arith, k, l.invariant.counted) }

pub returns : goal.returns
unfolding stand_to tally_to
returns c =
    let l = c.loop-n in
    let r = c.args.report in
    let said = item_gathered c.args.v.now.0 in
    let z : l.n - 1 ≡ 0 = omega arith in
    let s = c.requires in
    let stood : stand_to last r said ≡ true = sym (rw z at l.invariant.stood) in
    let counted : l.count + 0 ≡ tally_to last said = rw z at l.invariant.counted in
    ap (eqb l.count) (sym s) ∙ by_tally r said l.count stood (omega (arith, counted))
