-- What is given for a link data field: the record of a type and its items, and the list. Definitions only.
use Rattle.std.specs.Prelude.{ℕ, zero, suc, ◌+◌, ◌-◌, ◌%◌, Bool, true, false, cond, ◌&&◌, List, [], ◌∷◌, eqb, ltb, leb, ℤ, pos, negsuc, length, get_or, None, Option, Some}
use Rattle.bits.specs.Bits as B
use Rattle.pairs.specs.Pairs.{Pair, pairs_in, value_of, gathered_from}
use Rattle.fields.specs.declared.Field.{Field}
use Rattle.fields.specs.declared.Field.TheVariants.{AtcFailure}
use Rattle.fields.specs.declared.Record.{Record}
use Rattle.fields.specs.declared.Record.TheVariants.{Single, Relay}
use Rattle.fields.specs.Table.{place_of, by_place}
use Rattle.fields.specs.Records.{field_at}
use Rattle.field_items.specs.Items.{address, sensor, items_at, items_of, inner_of}

-- ---- the record that is made of the pairs given

-- what is gathered of the number n, of what is gathered from the first item on; nothing of what is no item
unfoldable pub found_in : List (Option ℕ) → ℕ → Option ℕ
found_in t n = cond (leb address n) (get_or t (n - address) None) None

-- the value of part k, of parts with these items; 0 where it is not given
abbrev part_given : List (Option ℕ) → List ℕ → ℕ → ℕ
part_given t ks k = value_of (found_in t (get_or ks k 0))

abbrev field_by : List (Option ℕ) → List ℕ → ℕ → Field
field_by t ks i =
    field_at i (part_given t ks 1) (part_given t ks 2) (part_given t ks 3) (part_given t ks 4) (part_given t ks 5) (part_given t ks 6)
    (part_given t ks 7) (part_given t ks 8) (part_given t ks 9) (part_given t ks 10)

-- of the type at place i
unfoldable pub field_given : List (Option ℕ) → ℕ → Field
field_given t i = field_by t (items_at i) i

-- a sensor that is given makes a relay of it
abbrev pub relay_by : Option ℕ → Field → Record
relay_by (Some x) f = Relay x f
relay_by None f = Single f

abbrev pub record_given : List (Option ℕ) → ℕ → Record
record_given t i = relay_by (found_in t sensor) (field_given t i)

-- ---- the pairs given are the record's items: each of those is given, with its value, and there are as many

abbrev pub same_found : Option ℕ → Option ℕ → Bool
same_found (Some x) (Some y) = eqb x y
same_found (Some x) None = false
same_found None (Some y) = false
same_found None None = true

unfoldable pub covers : List (Option ℕ) → List Pair → Bool
covers t [] = true
covers t (q ∷ qs) = same_found (found_in t q.0) (Some q.1) && covers t qs

-- of a type, so many pairs and what they tell
unfoldable pub fits : ℕ → ℕ → List (Option ℕ) → Record → Bool
fits c n t r = eqb (inner_of r) c && (eqb n (length (items_of r)) && covers t (items_of r))

-- what is no record: one that is refused with 30, whatever list and text go with it, since state 0 is not in use
abbrev pub unfit : Record
unfit = Single (AtcFailure 0)

abbrev pub checked_by : ℕ → ℕ → List (Option ℕ) → ℕ → Record
checked_by c n t i = cond (fits c n t (record_given t i)) (record_given t i) unfit

unfoldable pub checked_at : ℕ → List Pair → ℕ → Record
checked_at c ps i = checked_by c (length ps) (gathered_from address ps) i

-- of a type, the bytes of its items, and the bytes of a list, which are thirty numbers of eight
unfoldable pub given : ℕ → List ℕ → List ℕ → Record
given t s l = cond (eqb (length l) 240 && eqb (length s % 16) 0) (by_place unfit (checked_at t (pairs_in s)) (place_of t)) unfit

-- ---- the list

-- a number of 64 bits in two's complement; what 32 bits do not hold is the least number that they do, which no entry holds
unfoldable pub signed_of : ℕ → ℤ
signed_of x =
    cond (ltb x 2147483648) (pos x)
    (negsuc (cond (ltb (18446744073709551615 - x) 2147483648) (18446744073709551615 - x) 2147483647))

-- n numbers behind the first a bits
unfoldable pub numbers_from : List ℕ → ℕ → ℕ → List ℤ
numbers_from s a zero = []
numbers_from s a (suc n) = signed_of (B.bits_of s a 64) ∷ numbers_from s (a + 64) n

abbrev pub list_given : List ℕ → List ℤ
list_given s = numbers_from s 0 30
