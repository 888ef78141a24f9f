-- The data of a report's words as the writer's private functions compute it. Definitions only; no promise of a public function names them.
use Rattle.std.specs.Prelude.{ℕ, ◌+◌, ◌-◌, ◌*◌, ◌/◌, ◌^◌, Bool, cond, List, [], ◌∷◌, map, eqb, leb, length, Ok, Err, Result, Some, None, Option}
use Rattle.std.specs.List.{list_any}
use Rattle.refusals.specs.declared.LineRefusal.TheVariants.{ValueTooLarge}
use Rattle.words.specs.Word.{word_of}
use Rattle.words.specs.Layout.{Field, flag, count, rest, fixed, value, joined}
use Rattle.report_writer.specs.declared.Data.{Data}
use Rattle.report_writer.specs.declared.Data.TheVariants as D
use Rattle.refusals.specs.declared.LineRefusal.{LineRefusal}

-- ---- one word: where a value does not fit its field, the number is pushed above 4095, so that code finds it without a branch

-- by how many of the field's spans the value overruns it: 0 exactly when it fits
abbrev pub overrun : Field → ℕ
overrun (flag b) = 0
overrun (count k n) = n / 2 ^ k
overrun (rest k n) = 0
overrun (fixed k n) = n / 2 ^ k

abbrev pub overrun_all : List Field → ℕ
overrun_all [] = 0
overrun_all (f ∷ fs) = overrun f + overrun_all fs

-- the number that the fields make, with 4096 more for each span that a value overruns its field by
abbrev pub data_or_more : List Field → ℕ
data_or_more fs = joined fs + 4096 * overrun_all fs

-- what a field that ends at a bit adds to the number: its value, weighed, and that 4096
abbrev pub placed : Field → ℕ → ℕ
placed f end = value f * 2 ^ (12 - end) + 4096 * overrun f

-- ---- all words

abbrev pub data_by : List (List Field) → Data
data_by l = cond (eqb (length l) 4) (D.Four (map data_or_more l)) (D.Seven (map data_or_more l))

abbrev pub too_large : ℕ → Bool
too_large d = leb 4096 d

-- the words of such data, or the refusal
abbrev pub words_or_11 : List ℕ → Result (List ℕ) LineRefusal
words_or_11 each = cond (list_any too_large each) (Err ValueTooLarge) (Ok (map word_of each))

-- ---- altitudes

-- twelve bits, or none where a form has 4096 for them
abbrev pub bits_or_none : ℕ → Option ℕ
bits_or_none n = cond (eqb n 4096) None (Some n)
