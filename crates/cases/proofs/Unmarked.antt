-- 01's unmarked pools and edges pass, each by one computed test.
use mathlib.Core.Path.{◌≡◌, refl}
use mathlib.Core.Bool.{true}
use Rattle.books.specs.Tabulate.{tabulate}
use Rattle.books.specs.Test.{is_fair, is_zero, gather, all_zero, keeps_rules}
use Rattle.shapes.specs.Ends.{near_of, with_near}
use Rattle.shapes.specs.Faults.{nothing_met, count_fault, spare_fault, idle_fault}
use Rattle.shapes.specs.Setup.{fresh_value}
use Rattle.shapes.specs.Met.{is_met_of, mark_of, unmet}
use Rattle.shapes.specs.Walk.{walk_on, walkable}
use Rattle.shapes.specs.Numbers.{decided}
use Rattle.engines.specs.Reads.{is_slot, values_along, clear_on}
use Rattle.engines.specs.Check.{sizes_fit, gather_all, null_slot_zero, pool_found, check_found, idle_path}
use Rattle.engines.specs.Calls.{setup_call, length_call, push_call, pop_call, clear_call, read_call}
use Rattle.xor.specs.Steps.{is_beside, push_empty_of, push_beside_of, push_of, pop_of}
use Rattle.xor.specs.Engine.{fresh_link}
use Rattle.xor.specs.Slots.{take_of, release_of}
use Rattle.xor.specs.Slot.{in_pool}
use Rattle.engines.specs.Counted.{counted_push, counted_pop}
use Rattle.cases.specs.Cases.{all_pass}
use Rattle.cases.specs.Unmarked.{starts, starts_pass, readings, readings_pass, not_marked, refused_start}

pub starts_pass_lem : starts_pass starts ≡ true
unfolding tabulate is_fair is_zero gather all_zero keeps_rules sizes_fit decided fresh_link fresh_value setup_call
starts_pass_lem = refl

pub refused_start_zero : refused_start ≡ true
unfolding tabulate is_fair is_zero gather all_zero keeps_rules sizes_fit decided fresh_link fresh_value setup_call
refused_start_zero = refl

pub readings_pass_lem : readings_pass readings ≡ true
unfolding read_call is_slot values_along is_fair is_zero gather all_zero keeps_rules near_of nothing_met gather_all count_fault spare_fault idle_fault null_slot_zero pool_found check_found sizes_fit decided is_met_of mark_of unmet walk_on walkable idle_path
readings_pass_lem = refl

-- a free slot's value is 0 after a setup, a pop and a clear, whatever bits it had
pub unmarked_pass : all_pass not_marked ≡ true
unfolding tabulate is_fair is_zero gather all_zero keeps_rules near_of with_near is_beside push_empty_of push_beside_of push_of pop_of nothing_met gather_all count_fault spare_fault idle_fault null_slot_zero pool_found check_found sizes_fit decided length_call read_call push_call pop_call clear_call clear_on fresh_link fresh_value setup_call is_met_of mark_of unmet take_of release_of in_pool walk_on walkable idle_path counted_push counted_pop
unmarked_pass = refl
