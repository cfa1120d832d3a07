-- `walks::clear::clear`: before each turn what is to come is what was to come from the start.
use Rattle.walks.proofs.Turns.{Emptying}
use Rattle.xor.specs.Along.{clear_along}
use Rattle.walks.proofs.clear.clear.Given as goal

abbrev pub invariant-loop-left : goal.invariant-loop-left
invariant-loop-left l =
    Emptying l.initial.links l.initial.values l.links l.values l.slot l.last l.head l.free.count l.left (clear_along l.initial.left l.initial.links l.initial.values l.initial.last l.initial.slot (record { head = l.initial.head; count = l.free.count }))

abbrev pub decreases-loop-left : goal.decreases-loop-left
decreases-loop-left l = l.left
