-- The words that the writer makes of a layout's data are the layout's words where every value fits, and 11 where one does not.
-- Assumes nothing.
use Rattle.std.specs.Prelude.{ℕ, ◌≡◌, Bool, true, false, not, cond, ◌||◌, List, [], ◌∷◌, map, length, eqb, Ok, Err, Result, MatchResult, IsOkAnd}
use Rattle.std.specs.List.{list_any}
use Rattle.std.specs.Result.{result_map_both}
use mathlib.Core.Path.{refl, ap}
use native.Mathlib.Omega.{arith}
use borrow.Author.Tests.{eqb-true, le-leb, lt-leb}
use Rattle.refusals.specs.declared.LineRefusal.{LineRefusal}
use Rattle.refusals.specs.declared.LineRefusal.TheVariants.{ValueTooLarge}
use Rattle.words.specs.Word.{word_of}
use Rattle.words.specs.Layout.{Field, span, fitting_all, words_by, fitting_by, twelve_each}
use Rattle.words.proofs.Layouts.{both, joined_small, words_length}
use Rattle.reports.specs.Layouts.{as_written}
use Rattle.reports.specs.declared.Words.{Words}
use Rattle.reports.specs.declared.Words.TheVariants.{Four, Seven}
use Rattle.report_writer.specs.Data.{data_or_more, too_large, words_or_11, data_by}
use Rattle.report_writer.specs.declared.Data.{Data}
use Rattle.report_writer.specs.declared.Data.TheVariants as D
use Rattle.report_writer.proofs.Overruns.{fit_data, unfit_data}

-- a word's number is too large exactly where a value does not fit
one_large : (fs : List Field) → span fs ≡ 12 → too_large (data_or_more fs) ≡ not (fitting_all fs)
one_large fs t = go (fitting_all fs) refl
  where
    go : (b : Bool) → fitting_all fs ≡ b → too_large (data_or_more fs) ≡ not b
    go true h = lt-leb 4096 (data_or_more fs) (omega (arith, fit_data fs h, joined_small fs t h))
    go false h = le-leb 4096 (data_or_more fs) (omega (arith, unfit_data fs h))

-- the words, where every value fits
each_word : (l : List (List Field)) → fitting_by l ≡ true → map word_of (map data_or_more l) ≡ words_by l
each_word [] h = refl
each_word (fs ∷ l) h = let k = both (fitting_all fs) (fitting_by l) h in cc (fit_data fs k.0, each_word l k.1)

some_large : (l : List (List Field)) → twelve_each l ≡ true → list_any too_large (map data_or_more l) ≡ not (fitting_by l)
some_large [] t = refl
some_large (fs ∷ l) t =
    let s = both (eqb (span fs) 12) (twelve_each l) t in
    go (fitting_all fs) (one_large fs (eqb-true (span fs) 12 s.0)) (some_large l s.1)
  where
    go : (b : Bool) → too_large (data_or_more fs) ≡ not b → list_any too_large (map data_or_more l) ≡ not (fitting_by l)
        → (too_large (data_or_more fs) || list_any too_large (map data_or_more l)) ≡ not (cond b (fitting_by l) false)
    go true e r = rw (e, r)
    go false e r = rw e

-- as data of four words or of seven
made : (l : List (List Field)) → twelve_each l ≡ true
    → words_or_11 (map data_or_more l) ≡ cond (fitting_by l) (Ok (words_by l)) (Err ValueTooLarge)
made l t = rw (some_large l t) (go (fitting_by l) refl)
  where
    go : (b : Bool) → fitting_by l ≡ b → cond (not b) (Err ValueTooLarge) (Ok (map word_of (map data_or_more l))) ≡ cond b (Ok (words_by l)) (Err ValueTooLarge)
    go true h = ap Ok (each_word l h)
    go false h = refl

-- ---- four words or seven

-- what the writer hands out of the data
abbrev pub handed : Data → Result Words LineRefusal
handed (D.Four each) = result_map_both Four (λ e. e) (words_or_11 each)
handed (D.Seven each) = result_map_both Seven (λ e. e) (words_or_11 each)

either : (f : List ℕ → Words) (b : Bool) (ws : List ℕ)
    → result_map_both f (λ e. e) (cond b (Ok ws) (Err ValueTooLarge)) ≡ cond b (Ok (f ws)) (Err ValueTooLarge)
either f true ws = refl
either f false ws = refl

pub handed_out : (l : List (List Field)) → twelve_each l ≡ true → handed (data_by l) ≡ cond (fitting_by l) (as_written (words_by l)) (Err ValueTooLarge)
handed_out l t = rw (words_length l) (go (eqb (length l) 4))
  where
    go : (b : Bool) → handed (cond b (D.Four (map data_or_more l)) (D.Seven (map data_or_more l)))
        ≡ cond (fitting_by l) (Ok (cond b (Four (words_by l)) (Seven (words_by l)))) (Err ValueTooLarge)
    go true = rw (made l t) (either Four (fitting_by l) (words_by l))
    go false = rw (made l t) (either Seven (fitting_by l) (words_by l))

-- a call of `map`
pub mapped : (f : List ℕ → Words) (r : Result (List ℕ) LineRefusal) (s : Result Words LineRefusal)
    → MatchResult r (λ x. IsOkAnd s (λ y. y ≡ f x)) (λ e. s ≡ Err e) → s ≡ result_map_both f (λ e. e) r
mapped f (Ok x) (Ok y) h = ap Ok h
mapped f (Ok x) (Err e) h = absurd h
mapped f (Err e) s h = h
