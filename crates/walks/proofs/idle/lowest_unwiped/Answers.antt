-- `walks::idle::lowest_unwiped`: one slot is gathered in a turn, and there is one fewer.
use mathlib.Core.Path.{◌≡◌, ◌∙◌}
use mathlib.Core.List.{List, [], ◌∷◌}
use Prim.Native.Nat.{ℕ, suc, ◌+◌, ◌-◌, ◌<◌}
use native.Mathlib.Omega.{arith}
use Rattle.chains.specs.Chain.{cell}
use Rattle.shapes.specs.Walk.{unwiped_from}
use Rattle.walks.specs.Idle.{idle_first}
use Rattle.walks.proofs.idle.lowest_unwiped.Goals as goal

step : (links values : List ℕ) (many k slot least : ℕ) → k < many
    → unwiped_from values (idle_first links (many - k) slot) least ≡ unwiped_from values (idle_first links (many - (k + 1)) (cell links slot)) (unwiped_from values (slot ∷ []) least)
step links values many k slot least h = let e : many - k ≡ suc (many - (k + 1)) = omega arith in rw e

pub loop-preserved : goal.loop-preserved
loop-preserved c =
    rw (c.cell_or-slot.ensures, c.gather-least.ensures)
    (c.loop.invariant ∙ step c.args.links.now c.args.values.now c.args.many c.loop.counter c.loop.slot c.loop.least c.loop-test.true)
