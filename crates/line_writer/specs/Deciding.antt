-- What the writers' private functions compute: the answer from numbers alone and from what a report was made into, and what is put on the
-- line. Definitions only; no promise of a public function names them.
use Rattle.std.specs.Prelude.{ℕ, ◌+◌, ◌*◌, ◌-◌, List, [], ◌∷◌, ltb, length, Err, Ok, Result, Option, Some, None}
use Rattle.rows.specs.Rows.{row, first_of}
use Rattle.refusals.specs.declared.LineRefusal.{LineRefusal}
use Rattle.refusals.specs.declared.LineRefusal.TheVariants.{PlaceBeyondLine, NoRoom}
use Rattle.lines.specs.Bytes.{bytes_of}
use Rattle.lines.specs.Claims.{put}
use Rattle.words.specs.Word.{idle}
use Rattle.reports.specs.Layouts.{words_in}
use Rattle.reports.specs.declared.Words.{Words}
use Rattle.lines.specs.declared.NotWritten.{NotWritten}
use Rattle.lines.specs.Writing.{not_written}

-- ---- the answer

-- n words and one idle word from a place on, in a line of so many words: number 10 where there are fewer, else the place after them
abbrev pub room : ℕ → ℕ → ℕ → Result ℕ NotWritten
room size place n = first_of (row (ltb (size - place) (n + 1)) (not_written NoRoom place) ∷ []) (Ok (place + n + 1))

-- for a report's words; a report that has none gets its own refusal
abbrev pub room_for : ℕ → ℕ → Result Words LineRefusal → Result ℕ NotWritten
room_for size place (Ok ws) = room size place (length (words_in ws))
room_for size place (Err q) = not_written q place

-- in every form of a line, once it is taken: 1, 11, 10
unfoldable pub decided : ℕ → ℕ → Result Words LineRefusal → Result ℕ NotWritten
decided size place made = first_of (row (ltb size place) (not_written PlaceBeyondLine place) ∷ []) (room_for size place made)

-- in a form of a line that is not taken for a reason, or has so many words
abbrev pub lent_answer : Option LineRefusal → ℕ → ℕ → Result Words LineRefusal → Result ℕ NotWritten
lent_answer (Some why) size place made = not_written why place
lent_answer None size place made = decided size place made

-- ---- what is put

-- the words that a report was made into
abbrev pub handed : Result Words LineRefusal → List ℕ
handed (Ok ws) = words_in ws
handed (Err q) = []

-- the line that a call leaves, in a form in which words are put into a line by `into`: the words, and one idle word right behind them; refused,
-- nothing has changed
abbrev pub left_by : {U : Type 0} → (List U → ℕ → List ℕ → List U) → Result ℕ NotWritten → List U → ℕ → List ℕ → List U
left_by into (Ok next) line place ws = into (into line place ws) (place + length ws) (idle ∷ [])
left_by into (Err refusal) line place ws = line

-- words put into a line that is lent as bytes
abbrev pub put_bytes : List ℕ → ℕ → List ℕ → List ℕ
put_bytes bytes place ws = put bytes (place * 2) (bytes_of ws)
