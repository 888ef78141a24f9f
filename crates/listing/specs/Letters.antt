-- Numbers in decimal, and the three kinds of line that a listing has (document 01, "The C host and the lister").
-- Definitions only.
use Rattle.std.specs.Prelude.{ℕ, zero, suc, ◌+◌, ◌/◌, ◌%◌, cond, List, [], ◌∷◌, ◌++◌, codes, ltb}
use Prim.Native.String.{String}
use Rattle.reports.specs.declared.kinds.Kind.{Kind}
use Rattle.reports.specs.Kinds.{name_of}

-- a number of at most k digits, no zero in front
unfoldable pub digits : ℕ → ℕ → List ℕ
digits zero n = []
digits (suc k) n = cond (ltb n 10) ((48 + n) ∷ []) (digits k (n / 10) ++ ((48 + n % 10) ∷ []))

-- a number: it has no more digits than one and its own count
unfoldable pub decimal : ℕ → List ℕ
decimal n = digits (suc n) n

-- a label and a number
abbrev pub item : String → ℕ → List ℕ
item label n = codes label ++ decimal n

-- a report: its run's place, its kind, how many words
abbrev pub report_line : ℕ → Kind → ℕ → List ℕ
report_line place kind count = decimal place ++ codes " " ++ name_of kind ++ item " " count ++ codes "\n"

-- a refused run: its place, the refusal's number, how many words, the place that the refusal names
abbrev pub refused_line : ℕ → ℕ → ℕ → ℕ → List ℕ
refused_line place number count named = decimal place ++ item " REFUSED " number ++ item " " count ++ item " " named ++ codes "\n"

-- the words that are idle, in reports, in refused runs, and in all
abbrev pub totals_line : ℕ → ℕ → ℕ → ℕ → List ℕ
totals_line idle reported refused total =
    item "IDLE " idle ++ item " REPORTED " reported ++ item " REFUSED " refused ++ item " TOTAL " total ++ codes "\n"
