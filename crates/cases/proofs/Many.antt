-- Pools of many slots are told apart, computed.
use mathlib.Core.Path.{◌≡◌, refl}
use mathlib.Core.Bool.{true}
use Rattle.books.specs.Tabulate.{tabulate}
use Rattle.books.specs.Test.{is_fair, is_zero, gather, all_zero, keeps_rules}
use Rattle.shapes.specs.Ends.{near_of, with_near}
use Rattle.shapes.specs.Met.{is_met_of, mark_of, unmet}
use Rattle.shapes.specs.Walk.{walk_on, walkable}
use Rattle.shapes.specs.Numbers.{decided}
use Rattle.shapes.specs.Setup.{fresh_value}
use Rattle.shapes.specs.Faults.{nothing_met, count_fault, spare_fault, idle_fault}
use Rattle.engines.specs.Check.{sizes_fit, idle_path, gather_all, null_slot_zero, pool_found, check_found}
use Rattle.engines.specs.Reads.{is_slot, values_along, clear_on}
use Rattle.engines.specs.Calls.{setup_call, length_call, push_call, pop_call, clear_call, read_call}
use Rattle.books.specs.Place.{numbered}
use Rattle.engines.specs.Trial.{trial}
use Rattle.engines.specs.Places.{faults_found}
use Rattle.engines.specs.Counted.{counted_push, counted_pop}
use Rattle.cases.specs.Many.{many_pools, long_list, long_passes}

pub many_slots_tried : faults_found many_pools ≡ true
unfolding tabulate is_fair is_zero gather all_zero keeps_rules sizes_fit decided fresh_value setup_call nothing_met gather_all count_fault spare_fault idle_fault null_slot_zero pool_found check_found is_met_of mark_of unmet walk_on walkable idle_path
many_slots_tried = refl

-- a list of all of them is sound, and its length is 259
pub long_list_tried : length_call trial long_list.links long_list.values long_list.book 0 ≡ record { refusal = numbered 0; length = 259 }
unfolding tabulate is_fair is_zero gather all_zero keeps_rules sizes_fit decided fresh_value setup_call nothing_met gather_all count_fault spare_fault idle_fault null_slot_zero pool_found check_found is_met_of mark_of unmet walk_on walkable idle_path length_call
long_list_tried = refl

-- it is read from either end, popped, pushed and cleared whole
pub long_calls_tried : long_passes ≡ true
unfolding tabulate is_fair is_zero gather all_zero keeps_rules near_of with_near sizes_fit decided fresh_value setup_call nothing_met gather_all count_fault spare_fault idle_fault null_slot_zero pool_found check_found is_met_of mark_of unmet walk_on walkable idle_path is_slot values_along clear_on push_call pop_call clear_call read_call counted_push counted_pop
long_calls_tried = refl
