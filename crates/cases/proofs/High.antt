-- Slot numbers keep all their twelve bits, computed.
use mathlib.Core.Path.{◌≡◌, refl}
use mathlib.Core.Bool.{true}
use Rattle.shapes.specs.Ends.{near_of, with_near}
use Rattle.shapes.specs.Met.{is_met_of, mark_of, unmet}
use Rattle.shapes.specs.Walk.{walk_on, walkable}
use Rattle.shapes.specs.Faults.{nothing_met}
use Rattle.engines.specs.Reads.{is_slot, values_along, clear_on}
use Rattle.xor.specs.Slot.{in_pool}
use Rattle.xor.specs.Slots.{take_of, release_of}
use Rattle.xor.specs.Steps.{is_beside, push_empty_of, push_beside_of, push_of, pop_of}
use Rattle.xor.specs.Along.{clear_along}
use Rattle.engines.specs.Counted.{counted_pop}
use Rattle.cases.specs.High.{all_high}

pub high_slots_tried : all_high ≡ true
unfolding near_of with_near in_pool take_of release_of is_beside push_empty_of push_beside_of push_of pop_of clear_on clear_along nothing_met is_met_of mark_of unmet walk_on walkable is_slot values_along counted_pop
high_slots_tried = refl
