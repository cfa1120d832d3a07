-- `walks::reads::fill`: before each turn the places passed hold the first values of the chain, and the rest of the buffer is as it was.
use Prim.Native.Nat.{◌-◌}
use lib.ListN.{length}
use Rattle.walks.proofs.Fill.{FillingPart}
use Rattle.walks.proofs.reads.fill.Given as goal

abbrev pub invariant-loop-count : goal.invariant-loop-count
invariant-loop-count l = FillingPart l.links l.values l.start l.initial.out l.out l.previous l.slot l.count

abbrev pub decreases-loop-count : goal.decreases-loop-count
decreases-loop-count l = length l.initial.out - l.count
