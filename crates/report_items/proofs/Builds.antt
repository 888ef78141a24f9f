-- The test of the items, by its outcome, and by what is gathered. Assumes nothing.
use Rattle.std.specs.Prelude.{None, Option, Some, ℤ, Result, Ok, Err}
use Rattle.std.specs.Result.{result_ok}
use mathlib.Core.Path.{◌≡◌, refl, ap, sym, ◌∙◌}
use mathlib.Core.Bool.{Bool, true, false, cond}
use mathlib.Core.List.{List}
use Prim.Native.Nat.{ℕ, zero, suc, ◌%◌, ◌≤◌}
use native.Mathlib.Omega.{arith}
use lib.Dec.{eqb}
use lib.ListN.{length}
use native.Mathlib.Nat.{zero-add}
use borrow.Author.Tests.{eq-eqb, ne_eqb}
use Rattle.words.proofs.Tests.{picked, passed}
use Rattle.pairs.specs.Pairs.{Pair, pairs_in, slots, gathered_from}
use Rattle.pairs.proofs.Laws.{each_at}
use Rattle.reports.specs.declared.Report.{Report}
use Rattle.reports.specs.declared.kinds.Kind.{Kind}
use Rattle.reports.specs.declared.kinds.Kind.TheVariants as K
use Rattle.reports.specs.declared.kinds.UnknownKind.{UnknownKind}
use Rattle.reports.specs.Kinds.{kind_number, Numbered}
use Rattle.report_items.specs.Items.{last, item_of, items_of}
use Rattle.report_items.specs.Given.{item_given, item_gathered, same_item, agree_to, agree, built, built_from, unfit, given_by, given}

-- ---- the whole test, by its outcome

pub by_count : (kind : ℕ) (ps : List Pair) → (length ps ≡ length (items_of (built_from kind ps)) → ⊥) → given_by kind ps ≡ unfit
unfolding given_by agree
by_count kind ps h = passed _ _ (passed _ _ (ne_eqb (length ps) (length (items_of (built_from kind ps))) h))

module _ (kind : ℕ) (ps : List Pair) (r : Report) (is : r ≡ built_from kind ps) where
  sizes : length (items_of r) ≡ length (items_of (built_from kind ps))
  sizes = ap (λ (x : Report). length (items_of x)) is

  agreed : {t : Bool} → length ps ≡ length (items_of r) → agree_to last r (item_given ps) ≡ t → agree (built_from kind ps) ps ≡ cond t true false
  unfolding agree
  agreed {t} n e =
      picked _ _ (eq-eqb (length ps) (length (items_of (built_from kind ps))) (n ∙ sizes))
      ∙ ap (λ (x : Bool). cond x true false) (ap (λ (x : Report). agree_to last x (item_given ps)) (sym is) ∙ e)

  pub by_items : length ps ≡ length (items_of r) → agree_to last r (item_given ps) ≡ false → given_by kind ps ≡ unfit
  unfolding given_by
  by_items n e = passed _ _ (agreed n e)

  pub by_all : length ps ≡ length (items_of r) → agree_to last r (item_given ps) ≡ true → given_by kind ps ≡ r
  unfolding given_by
  by_all n e = picked _ _ (agreed n e) ∙ sym is

-- ---- by the kind

-- the kind that has the number
pub kind_is : (n : ℕ) (r : Result Kind UnknownKind) (k : Kind) → Numbered n r → Some k ≡ result_ok r → kind_number k ≡ n
kind_is n (Ok x) k h e = let q : k ≡ x = cc in ap kind_number q ∙ h
kind_is n (Err x) k h e = cc

-- what has no kind is no record
no_kind : (n : ℕ) (r : Result Kind UnknownKind) → Numbered n r → None ≡ result_ok r → (v : List (Option ℕ)) → built n v ≡ unfit
unfolding built
no_kind n (Ok x) h e v = cc
no_kind n (Err x) h e v =
    rw (other K.Search, other K.Strobe, other K.Map, other K.Status, other K.Rtqc, other K.Dabs, other K.DabsCd, other K.DabsMtd, other K.DabsRdas, other K.Atcrbs, other K.AtcrbsCd, other K.AtcrbsMtd, other K.AtcrbsRdas, other K.Mtd, other K.Rdas) refl
  where
    other : (k : Kind) → eqb n (kind_number k) ≡ false
    other k = ne_eqb n (kind_number k) (λ q. h.1 k (sym q))

pub by_kind : (n : ℕ) (s : List ℕ) (r : Result Kind UnknownKind) → Numbered n r → None ≡ result_ok r → given n s ≡ unfit
unfolding given given_by
by_kind n s r h e = rw (no_kind n r h e (gathered_from 0 (pairs_in s))) (go (agree unfit (pairs_in s)) (eqb (length s % 16) 0))
  where
    go : (a w : Bool) → cond w (cond a unfit unfit) unfit ≡ unfit
    go true true = refl
    go false true = refl
    go a false = refl

-- ---- by what is gathered

-- what is gathered says what the pairs say
gathered_is : (ps : List Pair) (n : ℕ) → n ≤ last → item_gathered (gathered_from 0 ps) n ≡ item_given ps n
unfolding item_gathered gathered_from item_given
gathered_is ps n h = rw (each_at (λ x. x) 0 slots n None ps (omega arith), zero-add n) refl

same_to : (m : ℕ) (r : Report) (f g : ℕ → Option ℤ) → ((n : ℕ) → n ≤ m → f n ≡ g n) → agree_to m r f ≡ agree_to m r g
unfolding agree_to
same_to zero r f g h = refl
same_to (suc m) r f g h =
    ap (λ (x : Option ℤ). cond (same_item (item_of r (suc m)) x) (agree_to m r f) false) (h (suc m) (omega arith))
    ∙ ap (λ (b : Bool). cond (same_item (item_of r (suc m)) (g (suc m))) b false) (same_to m r f g (λ n l. h n (omega arith)))

pub gathered : (r : Report) (ps : List Pair) → agree_to last r (item_gathered (gathered_from 0 ps)) ≡ agree_to last r (item_given ps)
gathered r ps = same_to last r (item_gathered (gathered_from 0 ps)) (item_given ps) (gathered_is ps)
