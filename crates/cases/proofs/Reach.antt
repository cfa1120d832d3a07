-- No promise is hollow: every number of the table is given by its call on some pool, and there are traces whose pushes are refused by 6 and by 7, checked, quick and mixed.
use mathlib.Core.Path.{◌≡◌, refl}
use mathlib.Core.Bool.{true}
use mathlib.Core.List.{[], ◌∷◌}
use lib.ListN.{replicate}
use Rattle.books.specs.Tabulate.{tabulate}
use Rattle.books.specs.Table.{may_give}
use Rattle.books.specs.Test.{is_fair, is_zero, gather, all_zero, keeps_rules}
use Rattle.shapes.specs.Ends.{near_of, with_near}
use Rattle.xor.specs.Steps.{is_beside, push_empty_of, push_beside_of, push_of, pop_of}
use Rattle.engines.specs.Reads.{is_slot, values_along, clear_on}
use Rattle.shapes.specs.Faults.{nothing_met, count_fault, spare_fault, idle_fault}
use Rattle.engines.specs.Check.{sizes_fit, gather_all, null_slot_zero, pool_found, check_found, idle_path}
use Rattle.engines.specs.Calls.{setup_call, length_call, clear_call, read_call, check_call, push_call, pop_call}
use Rattle.xor.specs.Engine.{fresh_link}
use Rattle.shapes.specs.Setup.{fresh_value}
use Rattle.shapes.specs.Met.{is_met_of, mark_of, unmet}
use Rattle.xor.specs.Slots.{take_of, release_of}
use Rattle.xor.specs.Slot.{in_pool}
use Rattle.shapes.specs.Walk.{walk_on, walkable}
use Rattle.shapes.specs.Numbers.{decided}
use Rattle.xor.specs.Moves.{Pool, number_given, quick_given, begun, called}
use Rattle.shapes.specs.Moves.{push_back, push_front, pop_front, clear, quick_push_back, quick_push_front, quick_pop_back, quick_pop_front, checked, quick}
use Rattle.shapes.specs.Ledger.{Ledger}
use Rattle.engines.specs.Counted.{counted_push, counted_pop}
use Rattle.shapes.specs.Quick.{lengths_fit}
use Rattle.engines.specs.Quick.{quick_push, quick_pop}
use Rattle.cases.specs.Reach.{numbers_tried, calls_shown, two_list_trace}

-- one computed test
pub every_number_shown : calls_shown 14 numbers_tried ≡ true
unfolding may_give length_call clear_call read_call clear_on is_slot values_along tabulate is_fair is_zero gather all_zero keeps_rules near_of with_near is_beside push_empty_of push_beside_of push_of pop_of nothing_met gather_all count_fault spare_fault idle_fault null_slot_zero pool_found check_found sizes_fit decided check_call push_call pop_call fresh_link fresh_value setup_call is_met_of mark_of unmet take_of release_of in_pool walk_on walkable idle_path counted_push counted_pop lengths_fit quick_push quick_pop
every_number_shown = refl

-- ---- traces of two lists, with the shares and limits of 01's pools

-- four pushes on list 0, as in P3: one slot is free, and list 1 lacks one. A fifth is refused, and not noted
pub seven_reached : (p : Pool) × (d : Ledger) × two_list_trace p d × (number_given p (push_back 0 50) ≡ 7) × (number_given p (push_back 1 60) ≡ 0) × (d.pushes 0 ≡ 4)
unfolding may_give length_call clear_call read_call clear_on is_slot values_along tabulate is_fair is_zero gather all_zero keeps_rules near_of with_near is_beside push_empty_of push_beside_of push_of pop_of nothing_met gather_all count_fault spare_fault idle_fault null_slot_zero pool_found check_found sizes_fit decided check_call push_call pop_call fresh_link fresh_value setup_call is_met_of mark_of unmet take_of release_of in_pool walk_on walkable idle_path counted_push counted_pop lengths_fit quick_push quick_pop
seven_reached = (
  _,
  _,
  called (called (called (called (called (begun (replicate 6 9) (replicate 6 7) refl) (checked (push_back 0 20))) (checked (push_back 0 30))) (checked (push_front 0 10))) (checked (push_back 0 40))) (checked (push_back 0 50)),
  refl,
  refl,
  refl,
)

-- three pushes on list 1, whose limit is three
pub six_reached : (p : Pool) × (d : Ledger) × two_list_trace p d × (number_given p (push_back 1 14) ≡ 6)
unfolding may_give length_call clear_call read_call clear_on is_slot values_along tabulate is_fair is_zero gather all_zero keeps_rules near_of with_near is_beside push_empty_of push_beside_of push_of pop_of nothing_met gather_all count_fault spare_fault idle_fault null_slot_zero pool_found check_found sizes_fit decided check_call push_call pop_call fresh_link fresh_value setup_call is_met_of mark_of unmet take_of release_of in_pool walk_on walkable idle_path counted_push counted_pop lengths_fit quick_push quick_pop
six_reached = (_, _, called (called (called (begun (replicate 6 9) (replicate 6 7) refl) (checked (push_back 1 11))) (checked (push_back 1 12))) (checked (push_back 1 13)), refl)

-- two pushes and a pop on list 1, and then a clear: the ledger begins anew
pub cleared_again : (p : Pool) × (d : Ledger) × two_list_trace p d × (d.pushes 1 ≡ 0) × (d.pops 1 ≡ 0) × (number_given p (push_back 1 14) ≡ 0)
unfolding may_give length_call clear_call read_call clear_on is_slot values_along tabulate is_fair is_zero gather all_zero keeps_rules near_of with_near is_beside push_empty_of push_beside_of push_of pop_of nothing_met gather_all count_fault spare_fault idle_fault null_slot_zero pool_found check_found sizes_fit decided check_call push_call pop_call fresh_link fresh_value setup_call is_met_of mark_of unmet take_of release_of in_pool walk_on walkable idle_path counted_push counted_pop lengths_fit quick_push quick_pop
cleared_again = (_, _, called (called (called (called (begun (replicate 6 9) (replicate 6 7) refl) (checked (push_back 1 11))) (checked (push_back 1 12))) (checked (pop_front 1))) (checked (clear 1)), refl, refl, refl)

-- ---- 02 d): "any mixture of quick and checked calls"

-- P3 again, by quick and checked calls in turn, with a pop at each end on the way. Then a quick push is refused at either end by 7, and a quick one on list 1 is done; the refused ones, quick and checked, are not noted
pub seven_reached_quickly : (p : Pool) × (d : Ledger) × two_list_trace p d
    × (quick_given p (quick_push_back 0 50) ≡ 7) × (quick_given p (quick_push_front 0 50) ≡ 7) × (quick_given p (quick_push_back 1 60) ≡ 0) × (quick_given p (quick_push_front 1 60) ≡ 0)
    × (d.held 0 ≡ 10 ∷ 20 ∷ 30 ∷ 40 ∷ []) × (d.pushes 0 ≡ 6) × (d.pops 0 ≡ 2)
unfolding may_give length_call clear_call read_call clear_on is_slot values_along tabulate is_fair is_zero gather all_zero keeps_rules near_of with_near is_beside push_empty_of push_beside_of push_of pop_of nothing_met gather_all count_fault spare_fault idle_fault null_slot_zero pool_found check_found sizes_fit decided check_call push_call pop_call fresh_link fresh_value setup_call is_met_of mark_of unmet take_of release_of in_pool walk_on walkable idle_path counted_push counted_pop lengths_fit quick_push quick_pop
seven_reached_quickly = (
  _,
  _,
  called (called (called (called (called (called (called (called (called (called (begun (replicate 6 9) (replicate 6 7) refl) (quick (quick_push_back 0 20))) (checked (push_back 0 99))) (quick (quick_pop_back 0))) (quick (quick_push_back 0 30))) (checked (push_front 0 98))) (quick (quick_pop_front 0))) (quick (quick_push_front 0 10))) (checked (push_back 0 40))) (quick (quick_push_back 0 50))) (checked (push_front 0 50)),
  refl,
  refl,
  refl,
  refl,
  refl,
  refl,
  refl,
)

-- list 1 filled to its limit of three by quick pushes at both ends; a quick push is refused there by 6, and a quick pop on list 0 by 5, and neither is noted
pub six_reached_quickly : (p : Pool) × (d : Ledger) × two_list_trace p d
    × (quick_given p (quick_push_back 1 14) ≡ 6) × (quick_given p (quick_push_front 1 14) ≡ 6) × (quick_given p (quick_pop_back 0) ≡ 5) × (number_given p (push_back 1 14) ≡ 6)
    × (d.held 1 ≡ 13 ∷ 11 ∷ 12 ∷ []) × (d.pushes 1 ≡ 3) × (d.pops 0 ≡ 0)
unfolding may_give length_call clear_call read_call clear_on is_slot values_along tabulate is_fair is_zero gather all_zero keeps_rules near_of with_near is_beside push_empty_of push_beside_of push_of pop_of nothing_met gather_all count_fault spare_fault idle_fault null_slot_zero pool_found check_found sizes_fit decided check_call push_call pop_call fresh_link fresh_value setup_call is_met_of mark_of unmet take_of release_of in_pool walk_on walkable idle_path counted_push counted_pop lengths_fit quick_push quick_pop
six_reached_quickly = (
  _,
  _,
  called (called (called (called (called (begun (replicate 6 9) (replicate 6 7) refl) (quick (quick_push_back 1 11))) (quick (quick_push_back 1 12))) (quick (quick_push_front 1 13))) (quick (quick_push_back 1 14))) (quick (quick_pop_front 0)),
  refl,
  refl,
  refl,
  refl,
  refl,
  refl,
  refl,
)
