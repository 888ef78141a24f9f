-- What a step of the code leaves to the next one. No caller sees it, and a reader of the promises need not read it. Definitions only.
use Rattle.std.specs.Prelude.{ℕ, ◌<◌, ◌≤◌, ◌/◌, ◌%◌, ◌^◌, Bool, cond, List, ◌==◌, eqb, get_or, Option, Result, Ok, Err, IfSome}
use Rattle.std.specs.List.{position, list_any}
use Rattle.index.specs.declared.Entry.{Entry}
use Rattle.index.specs.declared.IndexRefusal.{IndexRefusal}
use Rattle.index.specs.declared.IndexRefusal.TheVariants.{TableBroken}
use Rattle.index.specs.declared.judging.Sound.{Sound}
use Rattle.index.specs.declared.marks.Marks.{Marks}
use Rattle.index.specs.Entries.{uncorrelated}
use Rattle.index.specs.Table.{most, is_used, is_broken}

-- the first entry with a number
abbrev pub placed : ℕ → List Entry → Option ℕ
placed x table = position (λ (e : Entry). e.number == x) table

-- one of the entries is used
abbrev pub some_used : List Entry → Bool
some_used table = list_any (λ (e : Entry). is_used e.number) table

-- what a look at a table finds
unfoldable pub looked_in : List Entry → ℕ → Result Sound IndexRefusal
looked_in table x = cond (is_broken table) (Err TableBroken) (Ok (record { free = placed uncorrelated table; at = placed x table }))

-- a place that was found lies in a table of n entries, of which there are not too many
abbrev pub IsWithin : ℕ → Option ℕ → Type 0
IsWithin n found = IfSome found (λ i. (i < n) × (n ≤ most))

-- a number is marked: bit n % 64 of word n / 64
abbrev pub marked : Marks → ℕ → Bool
marked marks n = eqb (get_or marks.words (n / 64) 0 / 2 ^ (n % 64) % 2) 1
