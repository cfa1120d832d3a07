-- `pools::check::count_fault`: the lowest list whose length is wrong, or else L where the free count is.
use Rattle.pools.proofs.Found.{count_said}
use Rattle.pools.proofs.check.count_fault.Goals as goal

pub returns : goal.returns
returns c = rw (c.broken_at.ensures, c.or.ensures, c.then_some.ensures, c.from.ensures) (count_said c.args.lists c.args.wrong c.args.stored c.args.free c.requires)
