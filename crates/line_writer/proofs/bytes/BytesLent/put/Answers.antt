-- `line_writer::bytes::BytesLent::put` meets its contract: each word is two bytes more. Assumes nothing.
use Rattle.std.proofs.Common.{refl, ap, ◌∙◌, arith, ℕ, ◌+◌, ◌*◌, ◌-◌, List, ◌++◌, length, get_or, set, take, drop, length-take, length-drop}
use lib.Seq.{take_all}
use Rattle.lines.specs.Bytes.{bytes_of}
use Rattle.lines.proofs.ByteWords.{bytes_length}
use Rattle.line_writer.proofs.Leaves.{pair_more, put_back}
use Rattle.line_writer.proofs.bytes.BytesLent.put.Goals as goal

pub loop-i-init : goal.loop-i-init
unfolding bytes_of
loop-i-init c = refl

pub loop-i-preserved : goal.loop-i-preserved
loop-i-preserved c =
    let l = c.loop-i in
    let line = c.args.line.now in
    let at = c.args.place * 2 in
    let e = c.to_be_bytes.ensures in
    let t = length-take (length line - at) (drop at line) in
    let d = length-drop at line in
    (λ k. set (set (l.invariant k) (l.i * 2) (get_or (e k) 0 0)) (l.i * 2 + 1) (get_or (e k) 1 0))
    ∙ pair_more _ c.args.words.now l.i (omega arith) (omega arith)

pub returns : goal.returns
returns c =
    let l = c.loop-i in
    let line = c.args.line.now in
    let at = c.args.place * 2 in
    let words = c.args.words.now in
    let n = bytes_length words in
    put_back line at (l.i * 2) (bytes_of words) l.part (omega arith)
    (l.invariant ∙ ap (λ (ws : List ℕ). bytes_of ws ++ drop (l.i * 2) (take (length line - at) (drop at line))) (take_all l.i words (omega arith)))
