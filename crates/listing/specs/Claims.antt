-- What is claimed of the listing. Statements only, with what they need to be said. Proved in proofs/: the file is named at each.
use Rattle.std.specs.Prelude.{ℕ, ◌+◌, ◌/◌, ◌≤◌, ◌≡◌, true, List, [], ◌∷◌, length}
use Rattle.lines.specs.Bytes.{words_in}
use Rattle.refusals.specs.declared.LineRefusal.TheVariants.{MinusZero}
use Rattle.listing.specs.Listing.{lister_link, answer, listing}
use Rattle.listing.specs.Walking.{start, fills, reached}
use Rattle.reports.specs.Runs.{refused_at}

-- the lister reads altitudes in document 01's form: C3, the run of its example, gets 9 (proofs/Document.antt)
abbrev pub DocumentForm : Type 0
DocumentForm = answer (3973 ∷ 1281 ∷ 256 ∷ 7 ∷ 5175 ∷ 1414 ∷ 4096 ∷ []) ≡ refused_at MinusZero 0

-- it reads with link 0 (document 02, Ticket 7): a listing has no link number (proofs/Document.antt)
abbrev pub LinkZero : Type 0
LinkZero = lister_link ≡ 0

-- successive fills, put one behind the other, are the whole listing, and then the walk is done: no run is skipped, none is said twice, and
-- the totals are the words'. A recording of n words takes at most (n + 1) / 2 rounded down, plus one, calls (proofs/Whole.antt)
abbrev pub Whole : Type 0
Whole =
    (bytes : List ℕ) (k : ℕ) → (length (words_in bytes) + 1) / 2 + 1 ≤ k → (fills k bytes start ≡ listing bytes) × ((reached k bytes start).done ≡ true)
