-- `walks::idle::walk_idle`: at each turn the path is the slots passed so far and then the path from here.
use mathlib.Core.Path.{◌≡◌}
use mathlib.Core.List.{List}
use Prim.Native.Nat.{ℕ}
use lib.ListN.{length}
use Rattle.books.specs.Book.{null_slot}
use Rattle.shapes.specs.Met.{unmarked, unmet}
use Rattle.shapes.specs.Walk.{unwiped_from}
use Rattle.shapes.proofs.Going.{Guarded}
use Rattle.xor.specs.Engine.{xor}
use Rattle.walks.proofs.IdleWalks.{Firsts}
use Rattle.walks.proofs.idle.walk_idle.Given as goal

abbrev pub invariant-loop-met : goal.invariant-loop-met
invariant-loop-met l =
    (passed : List ℕ) × Guarded (xor.idle_onward l.links) (xor.idle_fits l.links) (length l.links) (unmarked l.initial.met) l.initial.slot passed l.met l.slot l.length × Firsts l.links l.initial.slot passed l.slot l.length × (l.unlike ≡ 0 → unwiped_from l.values passed null_slot ≡ null_slot)

abbrev pub decreases-loop-met : goal.decreases-loop-met
decreases-loop-met l = unmet l.met
