-- `walks::walk::walk_along`: at each turn the path is the slots passed so far and then the path from here.
use mathlib.Core.Path.{◌≡◌}
use mathlib.Core.List.{List}
use Prim.Native.Nat.{ℕ}
use lib.ListN.{length}
use Rattle.books.specs.Book.{null_slot}
use Rattle.chains.specs.Chain.{last_or}
use Rattle.shapes.specs.Met.{unmarked, unmet}
use Rattle.shapes.specs.declared.End.TheVariants.{Front}
use Rattle.shapes.proofs.Going.{Guarded}
use Rattle.xor.specs.Engine.{xor}
use Rattle.walks.proofs.walk.walk_along.Given as goal

abbrev pub invariant-loop-met : goal.invariant-loop-met
invariant-loop-met l =
    (passed : List ℕ) × Guarded (xor.onward Front l.links) (xor.fits l.links) (length l.links) (unmarked l.initial.met) l.initial.slot passed l.met l.slot l.length × (l.last ≡ last_or null_slot passed)

abbrev pub decreases-loop-met : goal.decreases-loop-met
decreases-loop-met l = unmet l.met
