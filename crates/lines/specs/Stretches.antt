-- The unbroken stretches of non-idle words of a line, and how many of its words are idle, in reports and in refused runs: said without
-- the reader. Definitions only.
use Rattle.std.specs.Prelude.{ℕ, suc, ◌+◌, Bool, not, cond, List, [], ◌∷◌, ◌++◌, eqb, length, drop, Result}
use Rattle.words.specs.Word.{idle}
use Rattle.reports.specs.Runs.{is_accepted}
use Rattle.reports.specs.declared.Report.{Report}
use Rattle.reports.specs.declared.RunRefusal.{RunRefusal}

-- an unbroken stretch of words that are not idle, and the place of its first word
pub record Run : Type 0 where
  pub place : ℕ
  pub words : List ℕ

-- a stretch is closed: it counts if it has a word
abbrev pub closed : ℕ → List ℕ → List Run → List Run
closed place [] rs = rs
closed place (w ∷ ws) rs = record { place = place; words = w ∷ ws } ∷ rs

-- along the line, with the stretch that is open (from its place on): an idle word closes it, another word belongs to it
unfoldable pub runs_from : ℕ → List ℕ → List ℕ → List Run
runs_from place open' [] = closed place open' []
runs_from place open' (w ∷ ws) =
    cond (eqb w idle) (closed place open' (runs_from (place + length open' + 1) [] ws)) (runs_from place (open' ++ (w ∷ [])) ws)

-- the stretches of a line, in order; RunsAre (Claims.antt) says what else they are
abbrev pub runs : List ℕ → List Run
runs line = runs_from 0 [] line

-- those from a place on, each at its place on the whole line; from a place inside a stretch the first begins there
abbrev pub runs_at : List ℕ → ℕ → List Run
runs_at line place = runs_from place [] (drop place line)

-- what each of a list brings, one behind the other
unfoldable pub gathered : {R X : Type 0} → (R → List X) → List R → List X
gathered brings [] = []
gathered brings (r ∷ rs) = brings r ++ gathered brings rs

-- ---- totals

unfoldable pub idle_words : List ℕ → ℕ
idle_words [] = 0
idle_words (w ∷ ws) = cond (eqb w idle) (suc (idle_words ws)) (idle_words ws)

-- the words of the runs whose answer passes a test
unfoldable pub words_where : (Result Report RunRefusal → Bool) → (List ℕ → Result Report RunRefusal) → List Run → ℕ
words_where test answer [] = 0
words_where test answer (r ∷ rs) = cond (test (answer r.words)) (length r.words) 0 + words_where test answer rs

-- the words in reports, and in refused runs
abbrev pub reported_words : (List ℕ → Result Report RunRefusal) → List ℕ → ℕ
reported_words answer line = words_where is_accepted answer (runs line)

abbrev pub refused_words : (List ℕ → Result Report RunRefusal) → List ℕ → ℕ
refused_words answer line = words_where (λ a. not (is_accepted a)) answer (runs line)
