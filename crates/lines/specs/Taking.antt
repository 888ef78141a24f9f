-- Which lines no reader, writer or list takes, whatever is asked of them: by how many words they have, or how many bytes. Definitions only.
use Rattle.std.specs.Prelude.{ℕ, ◌%◌, cond, eqb, ltb, Option, Some, None}
use Rattle.refusals.specs.declared.LineRefusal.{LineRefusal}
use Rattle.refusals.specs.declared.LineRefusal.TheVariants.{LineTooLong, OddByteCount}
use Rattle.lines.specs.Line.{most}
use Rattle.lines.specs.Bytes.{most_bytes}

-- of so many words: 2
abbrev pub wide_refused : ℕ → Option LineRefusal
wide_refused size = cond (ltb most size) (Some LineTooLong) None

-- of so many bytes: 2, 14
abbrev pub bytes_refused : ℕ → Option LineRefusal
bytes_refused size = cond (ltb most_bytes size) (Some LineTooLong) (cond (eqb (size % 2) 1) (Some OddByteCount) None)
