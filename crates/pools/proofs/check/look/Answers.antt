-- `pools::check::look`: what the number tells is what the check tells.
use Rattle.pools.proofs.check.look.Goals as goal

pub returns : goal.returns
returns c = rw c.told.ensures c.look_told.ensures.seen
