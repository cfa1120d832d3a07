-- `walks::walk::walk_live`: an empty list is told by its head.
use Rattle.walks.proofs.Live.{live_empty}
use Rattle.walks.proofs.walk.walk_live.Goals as goal

pub returns-then-head-eq-NULL : goal.returns-then-head-eq-NULL
returns-then-head-eq-NULL c = live_empty c.if-head-eq-NULL.true (rw c.walkable.ensures)
