-- The claims of specs/Claims.antt: what is given is a report's own kind and items, and nothing else. Assumes nothing.
use Rattle.std.specs.Prelude.{None, Option, Some}
use mathlib.Core.Path.{◌≡◌, refl, ap, sym, subst, ◌∙◌}
use mathlib.Core.Bool.{true, cond}
use mathlib.Core.List.{List}
use mathlib.Core.Logic.{◌⊎◌, inl, inr, ⊎_elim}
use Prim.Native.Nat.{ℕ, zero, suc, ◌%◌, ◌≤◌, ◌<◌}
use native.Mathlib.Omega.{arith}
use native.Mathlib.Decide.{dec_lt}
use borrow.Author.Tests.{eq-eqb, eqb-true}
use lib.Dec.{eqb}
use lib.IntN.{ℤ, pos, negsuc}
use lib.ListN.{length}
use Rattle.words.proofs.Tests.{picked, passed, by_test}
use Rattle.pairs.specs.Pairs.{Pair, pairs_in, gathered_from}
use Rattle.reports.specs.declared.Report.{Report}
use Rattle.reports.specs.declared.altitude.Form.{Form}
use Rattle.reports.specs.declared.altitude.Form.TheVariants as F
use Rattle.reports.specs.Altitude.{AltitudeForm}
use Rattle.reports.specs.Kinds.{kind_of, kind_number, dabs_kind, atcrbs_kind}
use Rattle.reports.specs.Layouts.{Takes}
use Rattle.reports.specs.Claims.{InRange}
use Rattle.reports.proofs.Altitudes.{range_of_each}
use Rattle.reports.proofs.Demand2.{takes_fits}
use Rattle.report_items.specs.Items.{last, items_of, item_of}
use Rattle.report_items.specs.Given.{item_given, plain_by, built, built_from, same_item, agree_to, agree, given_by, given, unfit}
use Rattle.report_items.specs.Claims.{ItemsOf, InSixteenBits, FitsSixteenBits, FormsFit, GivenExactly, NoneIsTaken}
use Rattle.report_items.proofs.Tally.{same_number_decides}
use Rattle.report_items.proofs.Back.{both, back}

pub none_is_taken : NoneIsTaken
none_is_taken form e = let z : ◌≡◌ {A = ℕ} 0 1 = cc in omega arith

small : (form : Form) (z : ℤ) → InRange form z → InSixteenBits z
small F.SignMagnitude (pos n) l = omega arith
small F.SignMagnitude (negsuc n) l = omega arith
small F.TwosComplement (pos n) l = omega arith
small F.TwosComplement (negsuc n) l = omega arith

pub forms_fit : FormsFit
forms_fit form z h = small form z ((range_of_each form z).0 h)

-- ---- the same item

same_is : (a b : Option ℤ) → same_item a b ≡ true → b ≡ a
same_is (Some x) (Some y) e = ap Some (sym ((same_number_decides x y).0 e))
same_is (Some x) None e = cc
same_is None (Some y) e = cc
same_is None None e = refl

is_same : (a : Option ℤ) → same_item a a ≡ true
is_same (Some x) = (same_number_decides x x).1 refl
is_same None = refl

-- ---- number by number

module _ (r : Report) (said : ℕ → Option ℤ) where
  each_of : (m : ℕ) → agree_to m r said ≡ true → (n : ℕ) → 0 < n → n ≤ m → said n ≡ item_of r n
  unfolding agree_to
  each_of zero e n h l = absurd (omega arith)
  each_of (suc m) e n h l = go (dec_lt n (suc m)) (λ k. each_of m (both (same_item (item_of r (suc m)) (said (suc m))) (agree_to m r said) e).1 n h k)
    where
      go : Dec (n < suc m) → (n ≤ m → said n ≡ item_of r n) → said n ≡ item_of r n
      go (yes k) before = before (omega arith)
      go (no k) before =
          let q : n ≡ suc m = omega arith in
          rw q (same_is _ _ (both (same_item (item_of r (suc m)) (said (suc m))) (agree_to m r said) e).0)

  of_each : (m : ℕ) → ((n : ℕ) → 0 < n → n ≤ m → said n ≡ item_of r n) → agree_to m r said ≡ true
  unfolding agree_to
  of_each zero h = refl
  of_each (suc m) h =
      picked _ _ (ap (same_item (item_of r (suc m))) (h (suc m) (omega arith) (omega arith)) ∙ is_same (item_of r (suc m)))
      ∙ of_each m (λ n a b. h n a (omega arith))

-- ---- the kind

-- no record, or a record of that kind
abbrev Kinded : ℕ → Report → Type 0
Kinded kind r = (r ≡ unfit) ⊎ (kind_number (kind_of r) ≡ kind)

arm : (kind k : ℕ) (a b : Report) → kind_number (kind_of a) ≡ k → Kinded kind b → Kinded kind (cond (eqb kind k) a b)
arm kind k a b e o =
    by_test (eqb kind k)
    (λ t. inr (ap (λ (r : Report). kind_number (kind_of r)) (picked a b t) ∙ e ∙ sym (eqb-true kind k t)))
    (λ t. subst (λ (r : Report). Kinded kind r) (sym (passed a b t)) o)

plain_dabs : (f : Option ℕ) (k : ℕ) → kind_number (dabs_kind (plain_by f k)) ≡ 106
plain_dabs (Some v) k = refl
plain_dabs None k = refl

plain_atcrbs : (f : Option ℕ) (k : ℕ) → kind_number (atcrbs_kind (plain_by f k)) ≡ 110
plain_atcrbs (Some v) k = refl
plain_atcrbs None k = refl

kinded : (kind : ℕ) (v : List (Option ℕ)) → Kinded kind (built kind v)
unfolding built
kinded kind v =
    arm kind 101 _ _ refl
    (arm kind 102 _ _ refl
    (arm kind 103 _ _ refl
    (arm kind 104 _ _ refl
    (arm kind 105 _ _ refl
    (arm kind 106 _ _ (plain_dabs _ _)
    (arm kind 107 _ _ refl
    (arm kind 108 _ _ refl
    (arm kind 109 _ _ refl
    (arm kind 110 _ _ (plain_atcrbs _ _)
    (arm kind 111 _ _ refl
    (arm kind 112 _ _ refl
    (arm kind 113 _ _ refl
    (arm kind 114 _ _ refl
    (arm kind 115 _ _ refl
    (inl refl)))))))))))))))

-- ---- what is given

module _ (form : AltitudeForm) (narrow : FitsSixteenBits form) (r : Report) (taken : Takes form r) (kind : ℕ) (items : List ℕ) where
  ps : List Pair
  ps = pairs_in items

  -- no record is none that the writer takes
  not_unfit : {X : Type 0} → unfit ≡ r → X
  not_unfit e = absurd (none_is_taken form (subst (λ (x : Report). Takes form x) (sym e) taken))

  parts : given kind items ≡ r → (eqb (length items % 16) 0 ≡ true) × (agree (built_from kind ps) ps ≡ true) × (built_from kind ps ≡ r)
  unfolding given given_by ps
  parts e =
      by_test (eqb (length items % 16) 0)
      (λ t.
      by_test (agree (built_from kind ps) ps) (λ u. (t, u, sym (picked _ _ u) ∙ sym (picked _ _ t) ∙ e))
      (λ u. not_unfit (sym (passed _ _ u) ∙ sym (picked _ _ t) ∙ e)))
      (λ t. not_unfit (sym (passed _ _ t) ∙ e))

  there : given kind items ≡ r → (kind ≡ kind_number (kind_of r)) × ItemsOf r items
  unfolding agree ps
  there e =
      let p = parts e in
      let b = p.2 in
      let n = both _ _ p.1 in (
        ⊎_elim (λ q. not_unfit (sym q ∙ b)) (λ q. sym q ∙ ap (λ (x : Report). kind_number (kind_of x)) b) (kinded kind (gathered_from 0 ps)),
        record {
          whole = eqb-true _ _ p.0;
          many = eqb-true _ _ n.0 ∙ ap (λ (x : Report). length (items_of x)) b;
          each = each_of r (item_given ps) last (ap (λ (x : Report). agree_to last x (item_given ps)) (sym b) ∙ (both _ _ n.1).0);
        },
      )

  here : (kind ≡ kind_number (kind_of r)) × ItemsOf r items → given kind items ≡ r
  unfolding given given_by agree ps
  here (k, i) =
      let b : built_from kind ps ≡ r = ap (λ (x : ℕ). built_from x ps) k ∙ back form narrow ps r (takes_fits form r taken) i.each in
      let a : agree (built_from kind ps) ps ≡ true =
      ap (λ (x : Report). agree x ps) b ∙ picked _ _ (eq-eqb _ _ i.many) ∙ picked _ _ (of_each r (item_given ps) last i.each) in
      picked _ _ (eq-eqb _ _ i.whole) ∙ picked _ _ a ∙ b

pub given_exactly : GivenExactly
given_exactly form narrow r taken kind items = (there form narrow r taken kind items, here form narrow r taken kind items)
