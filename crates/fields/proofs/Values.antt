-- Laws of the faults of a layout's parts, up to the first part of no bits.
-- Assumes nothing.
use Rattle.std.proofs.Common.{◌≡◌, ℕ, zero, suc, ◌+◌, Bool, true, false, ◌||◌, cond, eqb, List, length, get_or, drop, map, sym, refl, ap, ◌∙◌, add-one, arith, drop_of_length-le, drop-cons, eq-eqb, ne_eqb, eqb-true, None, Option, Some}
use mathlib.Core.Bool.{or_assoc, or-false, or-true}
use Rattle.std.proofs.Math.ListN.{get_or-map}
use Rattle.fields.specs.declared.Fault.{Fault}
use Rattle.fields.specs.declared.Fault.TheVariants as F
use Rattle.fields.specs.declared.Faults.{Faults}
use Rattle.fields.specs.declared.Rule.TheVariants as R
use Rattle.fields.specs.Table.{has_fault, fault_of, Quiet}
use Rattle.fields.specs.Numbers.{part_rule_number, part_rule_numbered, fault_number}
use Rattle.fields.specs.Steps.{fault_within, faults_within}

-- a fault seen before i or found from i on: the part at i, which has bits, passes from the one to the other
pub within_next : (k : ℕ) (ws rs vs : List ℕ) (n m i : ℕ) (a b : Bool) (f : ℕ) → n ≡ suc m → (get_or ws i 0 ≡ 0 → ⊥) →
    f ≡ fault_of (get_or rs i 0) (get_or vs i 0) → b ≡ (a || eqb f k) →
    (a || fault_within k ws rs vs n i) ≡ (b || fault_within k ws rs vs m (i + 1))
unfolding fault_within
within_next k ws rs vs n m i a b f l h e q = rw (l, ne_eqb _ _ h, q, e) (sym (or_assoc a _ _))

-- from a part of no bits on none is found
pub within_stop : (k : ℕ) (ws rs vs : List ℕ) (n i : ℕ) (a : Bool) → get_or ws i 0 ≡ 0 → (a || fault_within k ws rs vs n i) ≡ a
unfolding fault_within
within_stop k ws rs vs zero i a h = or-false a
within_stop k ws rs vs (suc n) i a h = rw (eq-eqb _ _ h) (or-false a)

-- nor in no part
pub within_none : (k : ℕ) (ws rs vs : List ℕ) (n i : ℕ) (a : Bool) → n ≡ 0 → (a || fault_within k ws rs vs n i) ≡ a
unfolding fault_within
within_none k ws rs vs n i a h = rw h (or-false a)

-- where none is at fault from a part of no bits on, that is every part's
within_from : (k : ℕ) (ws rs vs : List ℕ) → ((j : ℕ) → get_or ws j 0 ≡ 0 → has_fault k (drop j rs) (drop j vs) ≡ false) →
    (n i : ℕ) → length rs ≡ i + n → length vs ≡ i + n → fault_within k ws rs vs n i ≡ has_fault k (drop i rs) (drop i vs)
unfolding fault_within has_fault
within_from k ws rs vs quiet zero i r v = rw (drop_of_length-le rs {i = i} (omega (arith, r))) refl
within_from k ws rs vs quiet (suc n) i r v = go (eqb (get_or ws i 0) 0) refl (within_from k ws rs vs quiet n (i + 1) (omega (arith, r)) (omega (arith, v)))
  where
    go : (b : Bool) → eqb (get_or ws i 0) 0 ≡ b → fault_within k ws rs vs n (i + 1) ≡ has_fault k (drop (i + 1) rs) (drop (i + 1) vs) →
        fault_within k ws rs vs (suc n) i ≡ has_fault k (drop i rs) (drop i vs)
    go true e more = rw e (sym (quiet i (eqb-true _ _ e)))
    go false e more = rw (e, more, drop-cons rs i 0 (omega (arith, r)), drop-cons vs i 0 (omega (arith, v)), add-one) refl

pub within_quiet : (ws rs vs : List ℕ) → length rs ≡ 11 → length vs ≡ 11 → Quiet ws rs vs →
    faults_within ws rs vs ≡ record { spare = has_fault 1 rs vs; unused = has_fault 2 rs vs }
within_quiet ws rs vs r v quiet =
    rw (within_from 1 ws rs vs (λ j h. (quiet j h).0) 11 0 r v, within_from 2 ws rs vs (λ j h. (quiet j h).1) 11 0 r v) refl

-- what was found so far, and what is wrong with one part more
abbrev pub noted : Faults → Option Fault → Faults
noted f None = f
noted f (Some F.Spare) = record { spare = true; unused = f.unused }
noted f (Some F.Unused) = record { spare = f.spare; unused = true }

pub noted_is : (f : Faults) (r : Option Fault) →
    ((noted f r).spare ≡ (f.spare || eqb (fault_number r) 1)) × ((noted f r).unused ≡ (f.unused || eqb (fault_number r) 2))
noted_is f None = (sym (or-false f.spare), sym (or-false f.unused))
noted_is f (Some F.Spare) = (sym (or-true f.spare), sym (or-false f.unused))
noted_is f (Some F.Unused) = (sym (or-false f.spare), sym (or-true f.unused))

-- ---- by a rule's number

-- a number that is no rule's has no fault, as any value has none
pub numbered_fault : (n x : ℕ) → fault_of (part_rule_number (part_rule_numbered n)) x ≡ fault_of n x
numbered_fault n x = go (eqb n 1) (eqb n 2) (eqb n 3) (eqb n 4) (eqb n 5) (eqb n 6)
  where
    go : (a b c d e f : Bool) →
        fault_of (part_rule_number (cond a R.Spare (cond b R.NotZero (cond c R.One (cond d R.UpTo4 (cond e R.UpTo5 (cond f R.Advisory R.Any))))))) x
        ≡ cond a (fault_of 1 x) (cond b (fault_of 2 x) (cond c (fault_of 3 x) (cond d (fault_of 4 x) (cond e (fault_of 5 x) (cond f (fault_of 6 x) 0)))))
    go true b c d e f = refl
    go false true c d e f = refl
    go false false true d e f = refl
    go false false false true e f = refl
    go false false false false true f = refl
    go false false false false false true = refl
    go false false false false false false = refl

numbered_at : (rs : List ℕ) (i : ℕ) → get_or (map part_rule_number (map part_rule_numbered rs)) i 0 ≡ part_rule_number (part_rule_numbered (get_or rs i 0))
numbered_at rs i = get_or-map part_rule_number (map part_rule_numbered rs) i R.Any ∙ ap part_rule_number (get_or-map part_rule_numbered rs i 0)

within_named : (k : ℕ) (ws rs vs : List ℕ) (n i : ℕ) → fault_within k ws (map part_rule_number (map part_rule_numbered rs)) vs n i ≡ fault_within k ws rs vs n i
unfolding fault_within
within_named k ws rs vs zero i = refl
within_named k ws rs vs (suc n) i = rw (numbered_at rs i, numbered_fault (get_or rs i 0) (get_or vs i 0), within_named k ws rs vs n (i + 1)) refl

pub faults_named : (ws rs vs : List ℕ) → faults_within ws (map part_rule_number (map part_rule_numbered rs)) vs ≡ faults_within ws rs vs
faults_named ws rs vs = rw (within_named 1 ws rs vs 11 0, within_named 2 ws rs vs 11 0) refl
