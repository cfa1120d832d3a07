-- `shares::setup::fresh_links`: a turn fills the place of one slot, and the last slot's comes after the loop.
use native.Mathlib.Omega.{arith}
use lib.ListN.{length-set}
use Rattle.books.proofs.Fill.{fill_more}
use Rattle.shares.proofs.Fresh.{link_null, link_inner, fill_first, fill_last}
use Rattle.shares.proofs.setup.fresh_links.Goals as goal

pub loop-slot-init : goal.loop-slot-init
loop-slot-init c = fill_first _ c.args.links.now (omega arith) (link_null _)

pub loop-slot-preserved : goal.loop-slot-preserved
loop-slot-preserved c = fill_more 0 _ _ _ _ _ c.loop-slot.invariant (omega (arith, length-set c.args.links.now 0 0)) (link_inner _ _ (omega arith) (omega arith))

pub returns : goal.returns
returns c = fill_last _ _ _ c.loop-slot.invariant (omega arith) (omega arith)
