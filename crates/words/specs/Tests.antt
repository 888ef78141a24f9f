-- How definitions ask several tests at once. Definitions only.
use Rattle.std.specs.Prelude.{Bool, true, false, cond, List, [], ◌∷◌}

-- each of the tests holds
abbrev pub all : List Bool → Bool
all [] = true
all (b ∷ bs) = cond b (all bs) false

-- one of the tests holds
abbrev pub any : List Bool → Bool
any [] = false
any (b ∷ bs) = cond b true (any bs)
