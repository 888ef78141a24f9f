-- What is claimed of the word and of layouts. Statements only; proofs/Claims.antt proves them.
use Rattle.std.specs.Prelude.{ℕ, ◌%◌, ◌≤◌, ◌≡◌, true, not, List, [], ◌∷◌, ◌↔◌, eqb}
use Rattle.std.specs.Int.Count.{ones}
use Rattle.words.specs.Word.{idle, largest, odd, even, data_bits, word_of, flipped, ones_to, Good, AllGood}
use Rattle.words.specs.Layout.{Field, words_by, fitting_by, twelve_each, Laid}

-- idle has an even number of ones, so no word of a report equals it
abbrev pub IdleIsEven : Type 0
IdleIsEven = even idle ≡ true

abbrev pub NoReportWordIsIdle : Type 0
NoReportWordIsIdle = (w : ℕ) → Good w → w ≡ idle → ⊥

-- twelve data bits have exactly one word with an odd number of ones
abbrev pub OneWordForData : Type 0
OneWordForData = (d w : ℕ) → d ≤ 4095 → (Good w × (data_bits w ≡ d)) ↔ (w ≡ word_of d)

-- of a word, `ones` is the number of ones among its bits 1 to 13
abbrev pub OnesByBits : Type 0
OnesByBits = (w : ℕ) → w ≤ largest → ones w ≡ ones_to 13 (w ∷ [])

-- the parity rule by the bits: a word is odd exactly when the number of ones among its bits 1 to 13 is odd
abbrev pub OddByBits : Type 0
OddByBits = (w : ℕ) → w ≤ largest → odd w ≡ eqb (ones_to 13 (w ∷ []) % 2) 1

-- turning over one bit turns over the parity
abbrev pub FlipTurnsParity : Type 0
FlipTurnsParity = (k w : ℕ) → odd (flipped k w) ≡ not (odd w)

-- words have a layout's values at its bit numbers, with odd parity each, exactly when they are the words that the layout makes and every
-- value fits its field
abbrev pub LaidOut : Type 0
LaidOut = (l : List (List Field)) (ws : List ℕ) → twelve_each l ≡ true → (AllGood ws × Laid l ws) ↔ ((ws ≡ words_by l) × (fitting_by l ≡ true))
