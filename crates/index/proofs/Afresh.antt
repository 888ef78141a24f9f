-- The index worked out afresh: what one report more changes in it, which numbers it has, and a number's last report in it. Assumes nothing.
use Prim.Native.Nat.{ℕ, ◌≤◌}
use mathlib.Core.Bool.{Bool, true, false, cond, ◌||◌, true≢false}
use mathlib.Core.List.{List, [], ◌∷◌, ◌++◌, append-nil}
use mathlib.Core.Path.{◌≡◌, refl, sym, ap, ◌∙◌}
use native.Mathlib.Omega.{arith}
use lib.Dec.{eqb}
use lib.ListN.{length}
use lib.Seq.{append_snoc}
use borrow.Author.Tests.{eqb-true, eqb-false, eq-eqb, ne_eqb}
use Rattle.words.proofs.Tests.{by_test}
use Rattle.index.specs.declared.Entry.{Entry}
use Rattle.index.specs.Entries.{uncorrelated}
use Rattle.index.specs.Table.{numbers_of, holds}
use Rattle.index.specs.Afresh.{last_of, without, afresh, latest}

-- ---- one report more

-- a list of entries with one report more: in the entry of its number, or behind the last
unfoldable pub added : List Entry → Entry → List Entry
added [] e = e ∷ []
added (x ∷ xs) e = cond (eqb x.number e.number) (e ∷ xs) (x ∷ added xs e)

eqb_sym : (a b : ℕ) → eqb a b ≡ eqb b a
eqb_sym a b =
    by_test (eqb a b) (λ t. t ∙ sym (eq-eqb b a (sym (eqb-true a b t)))) (λ t. t ∙ sym (ne_eqb b a (λ q. eqb-false a b t (sym q))))

-- a number that is 0 is no other one
pub apart : (a n : ℕ) → eqb a uncorrelated ≡ true → eqb n uncorrelated ≡ false → eqb a n ≡ false
apart a n z h = ne_eqb a n (λ q. eqb-false n uncorrelated h (sym q ∙ eqb-true a uncorrelated z))

number_of-last : (e : Entry) (later : List Entry) → (last_of e later).number ≡ e.number
unfolding last_of
number_of-last e [] = refl
number_of-last e (x ∷ later) =
    by_test (eqb x.number e.number)
    (λ t. rw t (number_of-last x later ∙ eqb-true x.number e.number t))
    (λ t. rw t (number_of-last e later))

last_of_more : (x : Entry) (es : List Entry) (e : Entry) → last_of x (es ++ (e ∷ [])) ≡ cond (eqb e.number x.number) e (last_of x es)
unfolding last_of
last_of_more x [] e = refl
last_of_more x (y ∷ es) e =
    by_test (eqb y.number x.number)
    (λ t. rw t (last_of_more y es e ∙ ap (λ (n : ℕ). cond (eqb e.number n) e (last_of y es)) (eqb-true y.number x.number t)))
    (λ t. rw t (last_of_more x es e))

without_added : (n : ℕ) (xs : List Entry) (e : Entry) → without n (added xs e) ≡ cond (eqb e.number n) (without n xs) (added (without n xs) e)
unfolding without added
without_added n [] e = refl
without_added n (x ∷ xs) e =
    by_test (eqb x.number e.number)
    (λ t.
    let same : eqb x.number n ≡ eqb e.number n = ap (λ (k : ℕ). eqb k n) (eqb-true x.number e.number t) in
    by_test (eqb e.number n) (λ c. simp (t, same, c)) (λ c. simp (t, same, c)))
    (λ t.
    by_test (eqb x.number n)
    (λ b. rw (t, b) (without_added n xs e))
    (λ b. rw (t, b) (ap (λ (l : List Entry). x ∷ l) (without_added n xs e) ∙ by_test (eqb e.number n) (λ c. rw c) (λ c. simp (c, t)))))

-- number 0 changes nothing; any other number is in the index then
pub afresh_more : (es : List Entry) (e : Entry) → afresh (es ++ (e ∷ [])) ≡ cond (eqb e.number uncorrelated) (afresh es) (added (afresh es) e)
unfolding afresh last_of without added
afresh_more [] e = refl
afresh_more (x ∷ es) e =
    let n = x.number in
    by_test (eqb n uncorrelated)
    (λ z. rw z (afresh_more es e))
    (λ z.
    by_test (eqb e.number uncorrelated)
    (λ y. rw (z, y, last_of_more x es e, apart e.number n y z, afresh_more es e, y))
    (λ y.
    let same : eqb (last_of x es).number e.number ≡ eqb e.number n = ap (λ (k : ℕ). eqb k e.number) (number_of-last x es) ∙ eqb_sym n e.number in
    by_test (eqb e.number n)
    (λ t. simp (z, y, last_of_more x es e, afresh_more es e, same, without_added, t))
    (λ t. simp (z, y, last_of_more x es e, afresh_more es e, same, without_added, t))))

-- an index does not lose entries
added_grows : (xs : List Entry) (e : Entry) → length xs ≤ length (added xs e)
unfolding added
added_grows [] e = omega arith
added_grows (x ∷ xs) e =
    by_test (eqb x.number e.number) (λ t. rw t (omega arith)) (λ t. rw t (let h = added_grows xs e in omega arith))

afresh_more_grows : (es : List Entry) (e : Entry) → length (afresh es) ≤ length (afresh (es ++ (e ∷ [])))
afresh_more_grows es e =
    rw (afresh_more es e)
    (by_test (eqb e.number uncorrelated) (λ z. rw z (omega arith)) (λ z. rw z (added_grows (afresh es) e)))

pub afresh_grows : (seen es : List Entry) → length (afresh seen) ≤ length (afresh (seen ++ es))
afresh_grows seen [] = rw append-nil (omega arith)
afresh_grows seen (e ∷ es) =
    let a = afresh_more_grows seen e in
    let b : length (afresh (seen ++ (e ∷ []))) ≤ length (afresh (seen ++ (e ∷ es))) = rw append_snoc at (afresh_grows (seen ++ (e ∷ [])) es) in
    omega arith

-- ---- the numbers of an index

-- no entry has the number
abbrev pub Lacks : ℕ → List Entry → Type 0
Lacks n xs = holds n (numbers_of xs) ≡ false

-- none of the numbers is 0, and none is there twice
abbrev pub Distinct : List Entry → Type 0
Distinct [] = Unit {0}
Distinct (x ∷ xs) = (eqb x.number uncorrelated ≡ false) × Lacks x.number xs × Distinct xs

-- of two tests neither holds
pub neither : (a b : Bool) → (a || b) ≡ false → (a ≡ false) × (b ≡ false)
neither true b h = absurd (true≢false h)
neither false b h = (refl, h)

without_lacks : (n m : ℕ) (xs : List Entry) → Lacks m xs → Lacks m (without n xs)
unfolding without holds numbers_of
without_lacks n m [] l = refl
without_lacks n m (x ∷ xs) l =
    let k = neither (eqb x.number m) (holds m (numbers_of xs)) l in
    by_test (eqb x.number n) (λ t. rw t (without_lacks n m xs k.1)) (λ t. rw (t, k.0) (without_lacks n m xs k.1))

without_own : (n : ℕ) (xs : List Entry) → Lacks n (without n xs)
unfolding without holds numbers_of
without_own n [] = refl
without_own n (x ∷ xs) = by_test (eqb x.number n) (λ t. rw t (without_own n xs)) (λ t. simp t (without_own n xs))

without_distinct : (n : ℕ) (xs : List Entry) → Distinct xs → Distinct (without n xs)
unfolding without
without_distinct n [] d = tt
without_distinct n (x ∷ xs) d =
    by_test (eqb x.number n)
    (λ t. rw t (without_distinct n xs d.2))
    (λ t. rw t (d.0, without_lacks n x.number xs d.1, without_distinct n xs d.2))

pub afresh_distinct : (es : List Entry) → Distinct (afresh es)
unfolding afresh
afresh_distinct [] = tt
afresh_distinct (e ∷ es) =
    by_test (eqb e.number uncorrelated)
    (λ z. rw z (afresh_distinct es))
    (λ z. rw z (rw (number_of-last e es) (z, without_own e.number (afresh es), without_distinct e.number (afresh es) (afresh_distinct es))))

-- a list of such entries is its own index
last_own : (x : Entry) (xs : List Entry) → Lacks x.number xs → last_of x xs ≡ x
unfolding last_of holds numbers_of
last_own x [] l = refl
last_own x (y ∷ xs) l = let k = neither (eqb y.number x.number) (holds x.number (numbers_of xs)) l in rw k.0 (last_own x xs k.1)

without_none : (n : ℕ) (xs : List Entry) → Lacks n xs → without n xs ≡ xs
unfolding without holds numbers_of
without_none n [] l = refl
without_none n (x ∷ xs) l =
    let k = neither (eqb x.number n) (holds n (numbers_of xs)) l in rw k.0 (ap (λ (l : List Entry). x ∷ l) (without_none n xs k.1))

pub afresh_own : (xs : List Entry) → Distinct xs → afresh xs ≡ xs
unfolding afresh
afresh_own [] d = refl
afresh_own (x ∷ xs) d = rw (d.0, afresh_own xs d.2, last_own x xs d.1, without_none x.number xs d.1)

-- ---- a number's last report

-- the first entry with a number: one, or none
unfoldable pub first_with : ℕ → List Entry → List Entry
first_with n [] = []
first_with n (x ∷ xs) = cond (eqb x.number n) (x ∷ []) (first_with n xs)

first_without : (n m : ℕ) (xs : List Entry) → eqb n m ≡ false → first_with m (without n xs) ≡ first_with m xs
unfolding first_with without
first_without n m [] h = refl
first_without n m (x ∷ xs) h =
    by_test (eqb x.number n)
    (λ t.
    let other : eqb x.number m ≡ false = ap (λ (k : ℕ). eqb k m) (eqb-true x.number n t) ∙ h in
    rw (t, other) (first_without n m xs h))
    (λ t. rw t (ap (cond (eqb x.number m) (x ∷ [])) (first_without n m xs h)))

pub latest_first : (n : ℕ) (es : List Entry) → eqb n uncorrelated ≡ false → latest n es ≡ first_with n (afresh es)
unfolding latest first_with afresh
latest_first n [] h = refl
latest_first n (e ∷ es) h =
    by_test (eqb e.number uncorrelated)
    (λ z. rw (z, apart e.number n z h) (latest_first n es h))
    (λ z.
    rw (z, number_of-last e es)
    (by_test (eqb e.number n)
    (λ t. rw t)
    (λ t. rw t (latest_first n es h ∙ sym (first_without e.number n (afresh es) t)))))
