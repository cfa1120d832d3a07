-- The buffer with the bytes passed in.
use mathlib.Core.Path.{◌≡◌}
use lib.Seq.{paste}
use Rattle.texts.proofs.put.Given as goal

abbrev pub invariant-loop-k : goal.invariant-loop-k
invariant-loop-k l = l.out ≡ paste l.fn.out l.at l.bytes l.k
