-- Items that a report has as they are given, and that are as many as it has, are all that it has. Assumes nothing.
use Rattle.std.specs.Prelude.{None, Option, Some}
use Prim.Native.Nat.{ℕ, zero, suc, ◌+◌, ◌-◌, ◌≤◌, ◌<◌}
use mathlib.Core.Path.{◌≡◌, refl, sym, ap, ◌∙◌}
use mathlib.Core.Bool.{Bool, true, false, cond}
use native.Mathlib.Omega.{arith}
use lib.Dec.{eqb}
use lib.IntN.{ℤ, pos, negsuc}
use lib.ListN.{length}
use borrow.Author.Tests.{eq-eqb, ne_eqb, eqb-true}
use Rattle.std.specs.Bool.{Decides, one_answer}
use Rattle.std.specs.Option.{option_eq}
use Rattle.std.specs.Ordering.{int_eq}
use Rattle.std.proofs.lemmas.Bool.Decides.{Decides-int_eq}
use Rattle.words.proofs.Tests.{picked, by_test}
use Rattle.reports.specs.declared.Height.{Height}
use Rattle.reports.specs.declared.Height.TheVariants as H
use Rattle.reports.specs.declared.Report.{Report}
use Rattle.reports.specs.declared.Report.TheVariants as R
use Rattle.report_items.specs.Items.{last, items_of, item_of, is_of}
use Rattle.report_items.specs.Given.{same_number, same_item, agree_to}
use Rattle.report_items.proofs.Back.{both}

-- how many of the numbers 1 to n something is said of
unfoldable pub tally_to : ℕ → (ℕ → Option ℤ) → ℕ
tally_to zero said = 0
tally_to (suc n) said = is_of (said (suc n)) + tally_to n said

-- what is said is so; nothing may be said
abbrev pub stands : Option ℤ → Option ℤ → Bool
stands own (Some z) = same_item own (Some z)
stands own None = true

unfoldable pub stand_to : ℕ → Report → (ℕ → Option ℤ) → Bool
stand_to zero r said = true
stand_to (suc n) r said = cond (stands (item_of r (suc n)) (said (suc n))) (stand_to n r said) false

-- ---- one number

pub same_number_decides : (x y : ℤ) → Decides (same_number x y) (x ≡ y)
same_number_decides (pos m) (pos n) = (λ e. ap pos (eqb-true m n e), λ e. eq-eqb m n (cc))
same_number_decides (pos m) (negsuc n) = (λ e. cc, λ e. cc)
same_number_decides (negsuc m) (pos n) = (λ e. cc, λ e. cc)
same_number_decides (negsuc m) (negsuc n) = (λ e. ap negsuc (eqb-true m n e), λ e. eq-eqb m n (cc))

-- as the machine compares
pub same_by : (a : Option ℤ) (z : ℤ) → option_eq int_eq a (Some z) ≡ same_item a (Some z)
same_by (Some x) z = one_answer (int_eq x z) (same_number x z) (Decides-int_eq x z) (same_number_decides x z)
same_by None z = refl

same_stands : (a b : Option ℤ) → same_item a b ≡ true → (stands a b ≡ true) × (is_of a ≡ is_of b)
same_stands (Some x) (Some y) e = (e, refl)
same_stands (Some x) None e = cc
same_stands None (Some y) e = cc
same_stands None None e = (refl, refl)

stands_same : (a b : Option ℤ) → stands a b ≡ true → (is_of b ≤ is_of a) × (is_of a ≡ is_of b → same_item a b ≡ true)
stands_same (Some x) (Some y) e = (omega arith, λ h. e)
stands_same (Some x) None e = (omega arith, λ h. absurd (omega arith))
stands_same None (Some y) e = cc
stands_same None None e = (omega arith, λ h. refl)

-- ---- from number to number

module _ (r : Report) (said : ℕ → Option ℤ) where
  pub stand_next : (n : ℕ) → 0 < n → stand_to n r said ≡ cond (stands (item_of r n) (said n)) (stand_to (n - 1) r said) false
  unfolding stand_to
  stand_next zero h = absurd (omega arith)
  stand_next (suc n) h = let e : suc n - 1 ≡ n = omega arith in rw e refl

  pub tally_next : (n : ℕ) → 0 < n → tally_to n said ≡ is_of (said n) + tally_to (n - 1) said
  unfolding tally_to
  tally_next zero h = absurd (omega arith)
  tally_next (suc n) h = let e : suc n - 1 ≡ n = omega arith in rw e refl

-- ---- all of them

module _ (r : Report) (said : ℕ → Option ℤ) where
  all_stand : (m : ℕ) → agree_to m r said ≡ true → (stand_to m r said ≡ true) × (tally_to m (item_of r) ≡ tally_to m said)
  unfolding agree_to stand_to tally_to
  all_stand zero e = (refl, refl)
  all_stand (suc m) e =
      let b = both (same_item (item_of r (suc m)) (said (suc m))) (agree_to m r said) e in
      let s = same_stands (item_of r (suc m)) (said (suc m)) b.0 in
      let h = all_stand m b.1 in
      (picked _ _ s.0 ∙ h.0, omega (arith, s.1, h.1))

  as_many : (m : ℕ) → stand_to m r said ≡ true → (tally_to m said ≤ tally_to m (item_of r)) × (tally_to m (item_of r) ≡ tally_to m said → agree_to m r said ≡ true)
  unfolding agree_to stand_to tally_to
  as_many zero e = (omega arith, λ h. refl)
  as_many (suc m) e =
      let b = both (stands (item_of r (suc m)) (said (suc m))) (stand_to m r said) e in
      let s = stands_same (item_of r (suc m)) (said (suc m)) b.0 in
      let h = as_many m b.1 in
      (omega (arith, s.0, h.0), λ q. picked _ _ (s.1 (omega (arith, s.0, h.0, q))) ∙ h.1 (omega (arith, s.0, h.0, q)))

-- ---- a report's own

own_tally : (r : Report) → tally_to last (item_of r) ≡ length (items_of r)
unfolding tally_to
own_tally (R.Search s) = refl
own_tally (R.Strobe s) = refl
own_tally (R.Map m) = refl
own_tally (R.Status s) = refl
own_tally (R.Rtqc s) = refl
own_tally (R.Dabs d) = go d.height refl
  where
    go : (h : Height) → d.height ≡ h → tally_to last (item_of (R.Dabs d)) ≡ length (items_of (R.Dabs d))
    go (H.Altitude z) e = rw e refl
    go (H.Carried n) e = rw e refl
    go (H.Cd m n) e = rw e refl
    go (H.Mtd m n) e = rw e refl
    go (H.Rdas m n) e = rw e refl
own_tally (R.Atcrbs a) = go a.height refl
  where
    go : (h : Height) → a.height ≡ h → tally_to last (item_of (R.Atcrbs a)) ≡ length (items_of (R.Atcrbs a))
    go (H.Altitude z) e = rw e refl
    go (H.Carried n) e = rw e refl
    go (H.Cd m n) e = rw e refl
    go (H.Mtd m n) e = rw e refl
    go (H.Rdas m n) e = rw e refl
own_tally (R.Mtd m) = refl
own_tally (R.Rdas x) = refl

-- the test by what stands and how many is the test of all
pub by_tally : (r : Report) (said : ℕ → Option ℤ) (n : ℕ) → stand_to last r said ≡ true → n ≡ tally_to last said → eqb n (length (items_of r)) ≡ agree_to last r said
by_tally r said n s e =
    by_test (agree_to last r said)
    (λ t. eq-eqb n (length (items_of r)) (e ∙ sym (all_stand r said last t).1 ∙ own_tally r) ∙ sym t)
    (λ t. ne_eqb n (length (items_of r)) (λ q. let never : false ≡ true = sym t ∙ (as_many r said last s).1 (own_tally r ∙ sym q ∙ e) in cc) ∙ sym t)

pub by_one : (r : Report) (said : ℕ → Option ℤ) → stand_to last r said ≡ false → agree_to last r said ≡ false
by_one r said s = by_test (agree_to last r said) (λ t. sym ((all_stand r said last t).0 ∙ sym t) ∙ s) (λ t. t)
