-- The quick C functions on 01's pools and on damaged ones, computed.
use mathlib.Core.Path.{◌≡◌, refl}
use mathlib.Core.Bool.{true}
use Rattle.books.specs.Tabulate.{tabulate}
use Rattle.books.specs.Test.{is_fair, is_zero, gather, all_zero, keeps_rules}
use Rattle.shapes.specs.Ends.{near_of, with_near}
use Rattle.shapes.specs.Faults.{nothing_met, count_fault, spare_fault, idle_fault}
use Rattle.shapes.specs.Met.{is_met_of, mark_of, unmet}
use Rattle.shapes.specs.Walk.{walk_on, walkable}
use Rattle.shapes.specs.Numbers.{decided}
use Rattle.shapes.specs.Quick.{lengths_fit}
use Rattle.engines.specs.Counted.{counted_push, counted_pop}
use Rattle.engines.specs.Reads.{is_slot, values_along, clear_on}
use Rattle.engines.specs.Check.{sizes_fit, gather_all, null_slot_zero, pool_found, check_found, idle_path}
use Rattle.engines.specs.Calls.{push_call, pop_call, clear_call}
use Rattle.engines.specs.Quick.{quick_push, quick_pop}
use Rattle.xor.specs.Steps.{is_beside, push_empty_of, push_beside_of, push_of, pop_of}
use Rattle.xor.specs.Slots.{take_of, release_of}
use Rattle.xor.specs.Slot.{in_pool}
use Rattle.faces.specs.Words.{kept}
use Rattle.faces.specs.Tried.{c_p1, c_p2, c_full, c_damaged}
use Rattle.faces.specs.QuickTried.{c_quick_turns_pass, quick_turns, quick_undone, quick_at_limit, quick_refused, quick_damaged, quick_unseen}

pub quick_turns_tried : (c_quick_turns_pass c_p1 quick_turns ≡ true) × (c_quick_turns_pass c_p2 quick_undone ≡ true) × (c_quick_turns_pass c_full quick_at_limit ≡ true)
unfolding tabulate is_fair is_zero gather all_zero keeps_rules nothing_met gather_all count_fault spare_fault idle_fault null_slot_zero pool_found check_found sizes_fit decided is_met_of mark_of unmet walk_on walkable idle_path kept near_of with_near is_beside push_empty_of push_beside_of push_of pop_of take_of release_of in_pool push_call pop_call clear_call counted_push counted_pop clear_on is_slot values_along lengths_fit quick_push quick_pop
quick_turns_tried = (refl, refl, refl)

pub quick_damage_tried : (quick_refused ≡ true) × (c_quick_turns_pass c_damaged quick_damaged ≡ true) × (quick_unseen ≡ true)
unfolding tabulate sizes_fit decided kept near_of with_near is_beside push_empty_of push_beside_of push_of pop_of take_of release_of in_pool counted_push counted_pop lengths_fit quick_push quick_pop
quick_damage_tried = (refl, refl, refl)
