-- A table that is not broken: the used entries in front, all with different numbers, and the unused ones behind them. What a call then answers,
-- and what it stores. Assumes nothing.
use Prim.Native.Nat.{ℕ, zero, suc, ◌≤◌}
use mathlib.Core.Bool.{Bool, true, false, not, cond, ◌||◌, true≢false}
use mathlib.Core.List.{List, [], ◌∷◌, ◌++◌}
use mathlib.Core.Path.{◌≡◌, refl, sym, ap}
use lib.Dec.{eqb, ltb}
use lib.ListN.{length, take, drop, set}
use borrow.Author.Tests.{le-ltb, not-false, eq-eqb}
use Rattle.std.specs.Prelude.{Some, None, Result, Ok, Err}
use Rattle.rows.specs.Rows.{Row, first_of}
use Rattle.rows.specs.Claims.{NoneHolds}
use Rattle.rows.proofs.Claims as law
use Rattle.words.proofs.Tests.{by_test}
use Rattle.index.specs.declared.Entry.{Entry}
use Rattle.index.specs.declared.Indexed.{Indexed}
use Rattle.index.specs.declared.Indexed.TheVariants as I
use Rattle.index.specs.declared.IndexRefusal.{IndexRefusal}
use Rattle.index.specs.declared.IndexRefusal.TheVariants.{TableBroken, TableFull}
use Rattle.index.specs.Entries.{uncorrelated}
use Rattle.index.specs.Table.{most, numbers_of, any_used, holds, place_of, used_in, used_after_unused, held_twice, broken_rows, is_broken}
use Rattle.index.specs.Indexing.{enter_rows, taken, indexed, left_as, find_rows, found}
use Rattle.index.specs.Afresh.{shown}
use Rattle.index.specs.Claims.{Unused}
use Rattle.index.proofs.Afresh.{added, apart, Lacks, Distinct, neither, first_with}

-- ---- unused entries

pub unused_first : (r : Entry) (rest : List Entry) → Unused (r ∷ rest) → (eqb r.number uncorrelated ≡ true) × Unused rest
unfolding any_used numbers_of
unused_first r rest u =
    let k = neither (not (eqb r.number uncorrelated)) (any_used (numbers_of rest)) u in (not-false (eqb r.number uncorrelated) k.0, k.1)

-- behind other entries they hold no number but 0
module _ (n : ℕ) (h : eqb n uncorrelated ≡ false) where
  unused_lacks : (rest : List Entry) → Unused rest → Lacks n rest
  unfolding holds numbers_of
  unused_lacks [] u = refl
  unused_lacks (r ∷ rest) u = let k = unused_first r rest u in rw (apart r.number n k.0 h) (unused_lacks rest k.1)

  pub held_front : (xs rest : List Entry) → Unused rest → holds n (numbers_of (xs ++ rest)) ≡ holds n (numbers_of xs)
  unfolding holds numbers_of
  held_front [] rest u = unused_lacks rest u
  held_front (x ∷ xs) rest u = ap (λ (b : Bool). eqb x.number n || b) (held_front xs rest u)

  pub first_front : (xs rest : List Entry) → Unused rest → first_with n (xs ++ rest) ≡ first_with n xs
  unfolding first_with
  first_front [] [] u = refl
  first_front [] (r ∷ rest) u = let k = unused_first r rest u in rw (apart r.number n k.0 h) (first_front [] rest k.1)
  first_front (x ∷ xs) rest u = ap (cond (eqb x.number n) (x ∷ [])) (first_front xs rest u)

-- ---- a table that is not broken

-- different numbers in front and unused entries behind them: no row of 50 but the first can hold
in_order : (xs rest : List Entry) → Distinct xs → Unused rest
    → (used_after_unused (numbers_of (xs ++ rest)) ≡ false) × (held_twice (numbers_of (xs ++ rest)) ≡ false)
unfolding used_after_unused held_twice numbers_of
in_order [] [] d u = (refl, refl)
in_order [] (r ∷ rest) d u = let k = unused_first r rest u in let m = in_order [] rest tt k.1 in (rw (k.0, k.1) m.0, rw k.0 m.1)
in_order (x ∷ xs) rest d u =
    let m = in_order xs rest d.2 u in
    (rw d.0 m.0, rw (d.0, held_front x.number d.0 xs rest u, d.1) m.1)

pub sound : (xs rest : List Entry) → Distinct xs → Unused rest → length (xs ++ rest) ≤ most → is_broken (xs ++ rest) ≡ false
sound xs rest d u s = let m = in_order xs rest d u in rw (le-ltb most (length (xs ++ rest)) s, m.0, m.1)

take_lacks : (k n : ℕ) (xs : List Entry) → Lacks n xs → Lacks n (take k xs)
unfolding holds numbers_of
take_lacks zero n xs l = refl
take_lacks (suc k) n [] l = refl
take_lacks (suc k) n (x ∷ xs) l =
    let m = neither (eqb x.number n) (holds n (numbers_of xs)) l in rw m.0 (take_lacks k n xs m.1)

-- none of the rows of 50 holds
pub none_broken : (table : List Entry) → is_broken table ≡ false → NoneHolds (broken_rows true table)
none_broken table h = ((law.accepted_exactly Bool not (broken_rows true table) false false (refl, (refl, (refl, tt))) refl).0 h).0

-- and the other way: such are the entries of a table of which these rows do not hold
ordered : (table : List Entry) → used_after_unused (numbers_of table) ≡ false → held_twice (numbers_of table) ≡ false
    → Distinct (used_in table) × Unused (drop (place_of uncorrelated (numbers_of table)) table)
unfolding used_after_unused held_twice numbers_of place_of any_used
ordered [] a b = (tt, refl)
ordered (t ∷ ts) a b =
    by_test (eqb t.number uncorrelated)
    (λ z. rw z (tt, rw z (neither (any_used (numbers_of ts)) (used_after_unused (numbers_of ts)) (rw z at a)).0))
    (λ z.
    let two = neither (holds t.number (numbers_of ts)) (held_twice (numbers_of ts)) (rw z at b) in
    let k = ordered ts (rw z at a) two.1 in
    rw z ((z, take_lacks (place_of uncorrelated (numbers_of ts)) t.number ts two.0, k.0), k.1))

pub used_in_front : (table : List Entry) → is_broken table ≡ false → Distinct (used_in table) × Unused (drop (place_of uncorrelated (numbers_of table)) table)
used_in_front table h = let k = none_broken table h in ordered table k.1.0 k.1.1.0

-- ---- what a call answers

-- the rows behind those of 50 are asked where the table is not broken
pub behind : {A : Type 0} (broken : A) (table : List Entry) (more : List (Row A)) (other : A)
    → first_of (broken_rows broken table ++ more) other ≡ cond (is_broken table) broken (first_of more other)
behind broken table more other = pick (ltb most (length table)) (used_after_unused (numbers_of table)) (held_twice (numbers_of table))
  where
    pick : (a b c : Bool)
        → cond a broken (cond b broken (cond c broken (first_of more other))) ≡ cond (cond a true (cond b true (cond c true false))) broken (first_of more other)
    pick true b c = refl
    pick false true c = refl
    pick false false true = refl
    pick false false false = refl

-- the answer to a call with number x, by whether the table is broken, x is 0, x is in the table, and an entry is unused
abbrev pub answer_by : Bool → Bool → Bool → Bool → List ℕ → ℕ → Result Indexed IndexRefusal
answer_by broken zero' held room ns x =
    cond broken (Err TableBroken)
    (cond zero' (Ok I.Left)
    (cond (not (held || room)) (Err TableFull) (Ok (cond held (I.Replaced (place_of x ns)) (I.Entered (place_of uncorrelated ns))))))

pub answered : (table : List Entry) (x : ℕ)
    → indexed table x
    ≡ answer_by (is_broken table) (eqb x uncorrelated) (holds x (numbers_of table)) (holds uncorrelated (numbers_of table)) (numbers_of table) x
unfolding indexed
answered table x = behind (Err TableBroken) table (drop 3 (enter_rows table x)) (Ok (taken (numbers_of table) x))

-- number 0 leaves any table as it is
pub zero_stays : (table : List Entry) (e : Entry) → e.number ≡ uncorrelated → left_as (indexed table e.number) table e ≡ table
zero_stays table e z =
    rw (answered table e.number, eq-eqb e.number uncorrelated z) (by_test (is_broken table) (λ b. rw b) (λ b. rw b))

-- an entry that is found is the first with its number
looked : (x : ℕ) (table : List Entry) → shown (cond (not (holds x (numbers_of table))) (Ok None) (Ok (Some (place_of x (numbers_of table))))) table ≡ first_with x table
unfolding first_with holds place_of numbers_of
looked x [] = refl
looked x (t ∷ ts) =
    let more = looked x ts in
    by_test (eqb t.number x) (λ e. rw e) (λ e. rw e (by_test (holds x (numbers_of ts)) (λ h. rw h (rw h at more)) (λ h. rw h (rw h at more))))

pub found_first : (table : List Entry) (x : ℕ) → is_broken table ≡ false → eqb x uncorrelated ≡ false → shown (found table x) table ≡ first_with x table
unfolding found
found_first table x b z =
    rw (behind (Err TableBroken) table (drop 3 (find_rows table x)) (Ok (Some (place_of x (numbers_of table)))), b, z) (looked x table)

-- ---- what it stores

-- a number that is in front: the report replaces the earlier one
pub replaces : (xs rest : List Entry) (e : Entry) → holds e.number (numbers_of xs) ≡ true
    → (set (xs ++ rest) (place_of e.number (numbers_of (xs ++ rest))) e ≡ added xs e ++ rest) × (length (added xs e) ≡ length xs)
unfolding added holds place_of numbers_of
replaces [] rest e h = absurd (true≢false (sym h))
replaces (x ∷ xs) rest e h =
    by_test (eqb x.number e.number)
    (λ t. rw t (refl, refl))
    (λ t. let k = replaces xs rest e (rw t at h) in rw t (ap (λ (l : List Entry). x ∷ l) k.0, ap suc k.1))

-- another number: it takes the first unused entry
pub appends : (xs : List Entry) (e : Entry) → Lacks e.number xs → added xs e ≡ xs ++ (e ∷ [])
unfolding added holds numbers_of
appends [] e l = refl
appends (x ∷ xs) e l =
    let k = neither (eqb x.number e.number) (holds e.number (numbers_of xs)) l in
    rw k.0 (ap (λ (l : List Entry). x ∷ l) (appends xs e k.1))

pub unused_there : (xs : List Entry) (r : Entry) (rest : List Entry) → Distinct xs → eqb r.number uncorrelated ≡ true
    → (holds uncorrelated (numbers_of (xs ++ (r ∷ rest))) ≡ true) × (place_of uncorrelated (numbers_of (xs ++ (r ∷ rest))) ≡ length xs)
unfolding holds place_of numbers_of
unused_there [] r rest d z = (rw z, rw z)
unused_there (x ∷ xs) r rest d z = let k = unused_there xs r rest d.2 z in rw d.0 (k.0, ap suc k.1)

pub none_unused : (xs : List Entry) → Distinct xs → Lacks uncorrelated xs
unfolding holds numbers_of
none_unused [] d = refl
none_unused (x ∷ xs) d = rw d.0 (none_unused xs d.2)

-- the used entries are those in front
pub front_used : (xs rest : List Entry) → Distinct xs → Unused rest → used_in (xs ++ rest) ≡ xs
unfolding place_of numbers_of
front_used [] [] d u = refl
front_used [] (r ∷ rest) d u = rw (unused_first r rest u).0
front_used (x ∷ xs) rest d u = rw d.0 (ap (λ (l : List Entry). x ∷ l) (front_used xs rest d.2 u))
