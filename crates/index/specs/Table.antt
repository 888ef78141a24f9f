-- The table of the index (document 02, Ticket 3), looked at by the numbers of its entries: which entries are used, where a number stands, and what
-- must not be. Definitions only.
use Rattle.std.specs.Prelude.{ℕ, suc, Bool, true, false, not, cond, ◌&&◌, ◌||◌, List, [], ◌∷◌, eqb, ltb, length, take}
use Rattle.rows.specs.Rows.{Row, row, first_of}
use Rattle.index.specs.declared.Entry.{Entry}
use Rattle.index.specs.Entries.{uncorrelated}

-- "a lent table of at most 512 entries"
abbrev pub most : ℕ
most = 512

-- the file numbers of the entries, in order
unfoldable pub numbers_of : List Entry → List ℕ
numbers_of [] = []
numbers_of (e ∷ es) = e.number ∷ numbers_of es

-- an entry is used exactly when its number is not 0
abbrev pub is_used : ℕ → Bool
is_used n = not (eqb n uncorrelated)

-- one of the numbers is a used entry's
unfoldable pub any_used : List ℕ → Bool
any_used [] = false
any_used (n ∷ ns) = is_used n || any_used ns

-- a number is among the numbers
unfoldable pub holds : ℕ → List ℕ → Bool
holds x [] = false
holds x (n ∷ ns) = eqb n x || holds x ns

-- where it stands first, counted from 0; behind the last one where it is not among them
unfoldable pub place_of : ℕ → List ℕ → ℕ
place_of x [] = 0
place_of x (n ∷ ns) = cond (eqb n x) 0 (suc (place_of x ns))

-- the entries in front of the first unused one
abbrev pub used_in : List Entry → List Entry
used_in table = take (place_of uncorrelated (numbers_of table)) table

-- ---- 50

-- "a used entry after an unused one"
unfoldable pub used_after_unused : List ℕ → Bool
used_after_unused [] = false
used_after_unused (n ∷ ns) = (not (is_used n) && any_used ns) || used_after_unused ns

-- "a number held twice"
unfoldable pub held_twice : List ℕ → Bool
held_twice [] = false
held_twice (n ∷ ns) = (is_used n && holds n ns) || held_twice ns

-- the rows of 50, with any answer: "table over 512, a used entry after an unused one, or a number held twice"
abbrev pub broken_rows : {A : Type 0} → A → List Entry → List (Row A)
broken_rows broken table =
    row (ltb most (length table)) broken
    ∷ row (used_after_unused (numbers_of table)) broken
    ∷ row (held_twice (numbers_of table)) broken
    ∷ []

-- one of them holds
abbrev pub is_broken : List Entry → Bool
is_broken table = first_of (broken_rows true table) false
