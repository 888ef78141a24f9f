-- Laws of a table that the searches need: what stands where a search goes, and a look at the front alone. Assumes nothing.
use Prim.Native.Nat.{ℕ, zero, suc, ◌+◌, ◌<◌}
use mathlib.Core.Bool.{Bool, true, false, not, cond, ◌||◌, true≢false}
use mathlib.Core.List.{List, [], ◌∷◌}
use mathlib.Core.Path.{◌≡◌, refl, sym, ap, ◌∙◌}
use native.Mathlib.Numerals.{add-one, one-add}
use native.Mathlib.Omega.{arith}
use borrow.Author.Tests.{lt-ltb, le-ltb, ne_eqb, eqb-true, eqb-false}
use lib.Dec.{eqb}
use lib.ListN.{length, take, drop, get_or}
use lib.Seq.{drop-cons}
use Rattle.std.specs.Prelude.{Some, None}
use Rattle.std.specs.List.{position_or_len}
use Rattle.words.proofs.Tests.{by_test}
use Rattle.index.specs.declared.Entry.{Entry}
use Rattle.index.specs.Steps.{placed, some_used}
use Rattle.index.specs.Table.{numbers_of, any_used, holds, place_of, used_after_unused, held_twice}

-- a number stands at a place exactly where it is held
pub held_place : (x : ℕ) (s : List ℕ) → (holds x s ≡ true → place_of x s < length s) × (holds x s ≡ false → place_of x s ≡ length s)
unfolding place_of holds
held_place x [] = (λ h. absurd (true≢false (sym h)), λ h. refl)
held_place x (n ∷ s) =
    by_test (eqb n x)
    (λ e. rw e (λ h. omega arith, λ h. absurd (true≢false h)))
    (λ e. rw e (λ h. omega (arith, (held_place x s).0 h), λ h. ap suc ((held_place x s).1 h)))

-- ---- the front, up to the first unused entry

-- where nothing is used, nothing is held twice
pub none_twice : (s : List ℕ) → any_used s ≡ false → held_twice s ≡ false
unfolding any_used held_twice
none_twice [] h = refl
none_twice (n ∷ s) h =
    by_test (eqb n 0)
    (λ e. rw e (none_twice s (rw e at h)))
    (λ e. absurd (true≢false (rw e at h)))

none_after : (s : List ℕ) → any_used s ≡ false → used_after_unused s ≡ false
unfolding any_used used_after_unused
none_after [] h = refl
none_after (n ∷ s) h =
    by_test (eqb n 0)
    (λ e. let g : any_used s ≡ false = rw e at h in rw (e, g) (none_after s g))
    (λ e. absurd (true≢false (rw e at h)))

-- where nothing is used, no number other than 0 is held
pub none_held : (s : List ℕ) (x : ℕ) → (x ≡ 0 → ⊥) → any_used s ≡ false → holds x s ≡ false
unfolding any_used holds
none_held [] x u h = refl
none_held (n ∷ s) x u h =
    by_test (eqb n 0)
    (λ e. rw (ne_eqb n x (λ same. u (sym same ∙ eqb-true n 0 e))) (none_held s x u (rw e at h)))
    (λ e. absurd (true≢false (rw e at h)))

-- a used entry stands after an unused one exactly where one stands behind the first unused one
pub gap_is : (s : List ℕ) → used_after_unused s ≡ any_used (drop (place_of 0 s) s)
unfolding place_of any_used used_after_unused
gap_is [] = refl
gap_is (n ∷ s) =
    by_test (eqb n 0)
    (λ e.
    rw (e, e) (by_test (any_used s)
    (λ u. rw u)
    (λ u. rw u (none_after s u))))
    (λ e. rw e (gap_is s))

-- a number other than 0 is held exactly where the front holds it
front_holds : (s : List ℕ) (x : ℕ) → (x ≡ 0 → ⊥) → any_used (drop (place_of 0 s) s) ≡ false → holds x (take (place_of 0 s) s) ≡ holds x s
unfolding place_of holds
front_holds [] x u h = refl
front_holds (n ∷ s) x u h =
    by_test (eqb n 0)
    (λ e. rw e (sym (none_held (n ∷ s) x u (rw e at h))))
    (λ e. rw e (ap (λ (b : Bool). eqb n x || b) (front_holds s x u (rw e at h))))

-- so a number is held twice exactly where the front holds it twice
pub front_twice : (s : List ℕ) → any_used (drop (place_of 0 s) s) ≡ false → held_twice (take (place_of 0 s) s) ≡ held_twice s
unfolding place_of any_used held_twice
front_twice [] h = refl
front_twice (n ∷ s) h =
    by_test (eqb n 0)
    (λ e. let g : any_used s ≡ false = rw (e, e) at h in rw e (sym (none_twice s g)))
    (λ e.
    let g : any_used (drop (place_of 0 s) s) ≡ false = rw e at h in
    rw (e, e) (ap (λ (b : Bool). b || held_twice (take (place_of 0 s) s)) (front_holds s n (eqb-false n 0 e) g) ∙ ap (λ (b : Bool). holds n s || b) (front_twice s g)))

-- ---- the entries, and their numbers

pub as_many : (es : List Entry) → length (numbers_of es) ≡ length es
unfolding numbers_of
as_many [] = refl
as_many (e ∷ es) = ap suc (as_many es)

-- the numbers from a place on: that of the entry there, and those behind it
pub from_place : (es : List Entry) (i : ℕ) (d : Entry) → i < length es → numbers_of (drop i es) ≡ (get_or es i d).number ∷ numbers_of (drop (i + 1) es)
unfolding numbers_of
from_place es i d h = rw add-one (ap numbers_of (drop-cons es i d h))

pub front_numbers : (k : ℕ) (es : List Entry) → numbers_of (take k es) ≡ take k (numbers_of es)
unfolding numbers_of
front_numbers zero es = refl
front_numbers (suc k) [] = refl
front_numbers (suc k) (e ∷ es) = ap (λ (l : List ℕ). e.number ∷ l) (front_numbers k es)

pub rest_numbers : (k : ℕ) (es : List Entry) → numbers_of (drop k es) ≡ drop k (numbers_of es)
unfolding numbers_of
rest_numbers zero es = refl
rest_numbers (suc k) [] = refl
rest_numbers (suc k) (e ∷ es) = rest_numbers k es

-- ---- the searches

pub some_is : (es : List Entry) → some_used es ≡ any_used (numbers_of es)
unfolding any_used numbers_of
some_is [] = refl
some_is (e ∷ es) = ap (λ (b : Bool). not (eqb e.number 0) || b) (some_is es)

place_is : (x : ℕ) (es : List Entry) → position_or_len (λ (e : Entry). eqb e.number x) es ≡ place_of x (numbers_of es)
unfolding place_of numbers_of
place_is x [] = refl
place_is x (e ∷ es) = by_test (eqb e.number x) (λ t. rw t) (λ t. rw (t, one-add) (ap suc (place_is x es)))

-- a search finds a number exactly where it is held
pub placed_is : (x : ℕ) (es : List Entry) → placed x es ≡ cond (holds x (numbers_of es)) (Some (place_of x (numbers_of es))) None
placed_is x es =
    rw
    (place_is x es, ← as_many es)
    (by_test (holds x (numbers_of es))
    (λ h. rw (h, lt-ltb _ _ ((held_place x (numbers_of es)).0 h)))
    (λ h. rw (h, (held_place x (numbers_of es)).1 h, le-ltb (length (numbers_of es)) (length (numbers_of es)) (omega arith))))

pub numbers_none : numbers_of [] ≡ []
unfolding numbers_of
numbers_none = refl
