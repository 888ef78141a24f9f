-- `measures::of_1024ths` meets its contract, by the one law of `proofs/Scaled.antt`. MIR has 1024.0 by its pattern, and `of_bits` computes it. Assumes nothing.
use native.Mathlib.Omega.{arith}
use lib.Ieee.{of_bits}
use Rattle.measures.proofs.Scaled.{exact}
use Rattle.measures.proofs.of_1024ths.Goals as goal

pub returns : goal.returns
unfolding of_bits
returns c = exact c.args.n (omega arith)
