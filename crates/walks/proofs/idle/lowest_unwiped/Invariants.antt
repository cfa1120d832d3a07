-- `walks::idle::lowest_unwiped`: at each turn what is left to gather, from what was gathered on, gives the answer.
use mathlib.Core.Path.{◌≡◌}
use Prim.Native.Nat.{◌-◌}
use Rattle.books.specs.Book.{null_slot}
use Rattle.shapes.specs.Walk.{unwiped_from}
use Rattle.walks.specs.Idle.{idle_first}
use Rattle.walks.proofs.idle.lowest_unwiped.Given as goal

abbrev pub invariant-loop : goal.invariant-loop
invariant-loop l = unwiped_from l.values (idle_first l.links l.many l.initial.slot) null_slot ≡ unwiped_from l.values (idle_first l.links (l.many - l.counter) l.slot) l.least
