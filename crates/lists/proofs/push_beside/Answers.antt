-- `lists::push_beside`: the taken slot's cell is still there after the store to its neighbour.
use Rattle.std.proofs.Common.{rules}
use Rattle.std.proofs.Math.Seq.{lt-length-set}
use Rattle.xor.specs.Slots.{take_of}
use Rattle.xor.proofs.Slot.{in_pool_lem}
use Rattle.lists.proofs.push_beside.Goals as goal

pub bounds-links-i : goal.bounds-links-i
unfolding take_of
bounds-links-i c = lt-length-set _ _ _ (search (rules, in_pool_lem))
