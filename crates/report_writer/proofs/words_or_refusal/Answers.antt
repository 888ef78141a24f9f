-- `report_writer::words_or_refusal` meets its contract. Assumes nothing.
use Rattle.std.proofs.Common.{rules, tests, ℕ, ◌≡◌, ap, sym, ◌∙◌, ◌+◌, ◌<◌, List, length, get_or, take, map}
use Rattle.std.proofs.Math.ListN.{set}
use Rattle.std.proofs.lemmas.List.{map_more, take_all, take_more_set}
use Rattle.std.proofs.lemmas.Iterator.{YieldsList-from_slice}
use Rattle.std.proofs.lemmas.Iterator.Search.{any_from_yields_List}
use Rattle.std.specs.List.{list_any}
use Rattle.words.specs.Word.{word_of}
use Rattle.report_writer.specs.Data.{too_large}
use Rattle.report_writer.proofs.words_or_refusal.Goals as goal

-- one more word
more : (each words : List ℕ) (i w : ℕ) → i < length each → i < length words → w ≡ word_of (get_or each i 0) → take i words ≡ map word_of (take i each)
    → take (i + 1) (set words i w) ≡ map word_of (take (i + 1) each)
more each words i w h k e same = let s = take_more_set words i w k in let m = map_more word_of each i 0 h in cc

pub loop-i-preserved : goal.loop-i-preserved
loop-i-preserved g c = record {
  long = search rules;
  same = more c.args.each c.loop-i.word-items c.loop-i.i c.word_of.result (search rules) (search rules) c.word_of.ensures c.loop-i.invariant.same;
}

pub returns : goal.returns
returns g c =
    let a : c.any.result ≡ list_any too_large c.args.each =
    any_from_yields_List too_large _ _ c.any.result c.any.ensures.ran (YieldsList-from_slice c.args.each (cc)) (λ x b q k. search (rules, tests)) in
    let s : c.loop-i.word-items ≡ map word_of c.args.each =
    sym (take_all c.loop-i.i c.loop-i.word-items (search rules)) ∙ c.loop-i.invariant.same ∙ ap (map word_of) (take_all c.loop-i.i c.args.each (search rules)) in
    rw (s, ← a, c.if-any.false)
