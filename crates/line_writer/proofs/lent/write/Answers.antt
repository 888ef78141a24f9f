-- `line_writer::lent::write` meets its contract: what it writes has room, since the answer is a place. Assumes nothing.
use Rattle.std.proofs.Common.{◌∙◌, sym, ap, arith, ◌≤◌, ◌+◌, subst, ℕ, List, [], ◌∷◌, length}
use Rattle.words.specs.Word.{idle}
use Rattle.line_writer.specs.Deciding.{handed, lent_answer}
use Rattle.line_writer.proofs.Decided.{lent_room, no_words}
use Rattle.line_writer.proofs.lent.write.Goals as goal

pub put-requires : goal.put-requires
put-requires g c =
    let h = lent_room _ _ _ _ _ (sym (ap (lent_answer _ _ _) c.in-Ok.is) ∙ sym c.answer.ensures ∙ c.in_ok-next.was) in
    let k = h.fits in
    let n = ap length c.as_slice-words.ensures in
    omega arith

pub overflow_add-place : goal.overflow_add-place
overflow_add-place g c =
    let h = lent_room _ _ _ _ _ (sym (ap (lent_answer _ _ _) c.in-Ok.is) ∙ sym c.answer.ensures ∙ c.in_ok-next.was) in
    let k = h.there in
    let n = ap length c.as_slice-words.ensures in
    omega arith

pub put-requires-in-Ok : goal.put-requires-in-Ok
put-requires-in-Ok g c =
    let h = lent_room _ _ _ _ _ (sym (ap (lent_answer _ _ _) c.in-Ok.is) ∙ sym c.answer.ensures ∙ c.in_ok-next.was) in
    let k = h.fits in
    let n = ap length c.as_slice-words.ensures in
    subst (λ (m : ℕ). c.args.place + length c.as_slice-words.result.now + 1 ≤ g.L.Lent.count_of m) (sym c.put.auto.line) (omega arith)

pub returns-in-Ok-clause-leaves : goal.returns-in-Ok-clause-leaves
returns-in-Ok-clause-leaves g c =
    let into = g.L.Lent.put_into in
    let line = c.args.line.now in
    let place = c.args.place in
    let n = length c.as_slice-words.result.now in
    let words = c.as_slice-words.ensures ∙ sym (ap handed (sym c.words_of-made.ensures ∙ c.in-Ok.is)) in
    c.put-in-Ok.ensures
    ∙ ap (λ l. into l (place + n) (idle ∷ [])) c.put.ensures
    ∙ ap (λ (ws : List ℕ). into (into line place ws) (place + length ws) (idle ∷ [])) words

pub returns-in_default-clause-leaves : goal.returns-in_default-clause-leaves
returns-in_default-clause-leaves g c =
    no_words _ _ _ _ _ (sym (ap (lent_answer _ _ _) c.in_default.is) ∙ sym c.answer.ensures ∙ c.in_ok-next.was)
