-- `line_reader::line::places` meets its contract: each search is asked with the test that its closure makes. Assumes nothing.
use Rattle.std.proofs.Common.{rules}
use Rattle.words.specs.Word.{wider_than_a_word}
use Rattle.line_reader.specs.Places.{not_idle, faulty, is_idle}
use Rattle.line_reader.proofs.Places.{run_found}
use Rattle.line_reader.proofs.line.places.Goals as goal

pub returns : goal.returns
returns g c =
    run_found c.count-n.ensures
    (c.seek_far-first.ensures.ended not_idle (λ w b r p. search rules))
    (c.seek_on-fault.ensures.ended faulty (λ w b r p. search rules))
    (c.seek-after.ensures.ended is_idle (λ w b r p. search rules))
    (c.seek-too_wide.ensures.ended wider_than_a_word (λ w b r p. search rules))
