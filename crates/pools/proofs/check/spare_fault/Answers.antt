-- `pools::check::spare_fault`: the lowest list over its limit, or else L where too few slots are free.
use Rattle.pools.proofs.Found.{spare_said}
use Rattle.pools.proofs.check.spare_fault.Goals as goal

pub returns : goal.returns
returns c = λ later. rw (c.broken_at.ensures, c.or.ensures, c.then_some.ensures) (spare_said c.args.lists c.args.over c.args.lacks c.args.free c.requires later)
