-- 01's marked pools pass: one computed test over the list of cases.
use mathlib.Core.Path.{◌≡◌, refl}
use mathlib.Core.Bool.{true}
use Rattle.books.specs.Tabulate.{tabulate}
use Rattle.books.specs.Test.{is_fair, is_zero, gather, all_zero, keeps_rules}
use Rattle.shapes.specs.Ends.{near_of, with_near}
use Rattle.xor.specs.Steps.{is_beside, push_empty_of, push_beside_of, push_of, pop_of}
use Rattle.shapes.specs.Faults.{nothing_met, count_fault, spare_fault, idle_fault}
use Rattle.engines.specs.Check.{sizes_fit, gather_all, null_slot_zero, pool_found, check_found, idle_path}
use Rattle.engines.specs.Calls.{setup_call, check_call, push_call, pop_call}
use Rattle.xor.specs.Engine.{fresh_link}
use Rattle.shapes.specs.Setup.{fresh_value}
use Rattle.shapes.specs.Met.{is_met_of, mark_of, unmet}
use Rattle.xor.specs.Slots.{take_of, release_of}
use Rattle.xor.specs.Slot.{in_pool}
use Rattle.shapes.specs.Walk.{walk_on, walkable}
use Rattle.shapes.specs.Numbers.{decided}
use Rattle.engines.specs.Counted.{counted_push, counted_pop}
use Rattle.cases.specs.Cases.{marked, all_pass}

-- P1 to P10
pub marked_pass : all_pass marked ≡ true
unfolding tabulate is_fair is_zero gather all_zero keeps_rules near_of with_near is_beside push_empty_of push_beside_of push_of pop_of nothing_met gather_all count_fault spare_fault idle_fault null_slot_zero pool_found check_found sizes_fit decided check_call push_call pop_call fresh_link fresh_value setup_call is_met_of mark_of unmet take_of release_of in_pool walk_on walkable idle_path counted_push counted_pop
marked_pass = refl
