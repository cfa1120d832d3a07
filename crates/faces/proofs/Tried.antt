-- The C functions on 01's pools, computed: what setup leaves and returns, each of the nine calls from P1 on, the ledger of that trace, and what is handed out.
use mathlib.Core.Path.{◌≡◌, refl}
use mathlib.Core.Bool.{true}
use mathlib.Core.List.{[], ◌∷◌}
use lib.ListN.{take, replicate}
use Rattle.books.specs.Tabulate.{tabulate}
use Rattle.books.specs.Test.{is_fair, is_zero, gather, all_zero, keeps_rules}
use Rattle.shapes.specs.Ends.{near_of, with_near}
use Rattle.shapes.specs.Faults.{nothing_met, count_fault, spare_fault, idle_fault}
use Rattle.shapes.specs.Setup.{fresh_value}
use Rattle.shapes.specs.Met.{is_met_of, mark_of, unmet}
use Rattle.shapes.specs.Walk.{walk_on, walkable}
use Rattle.shapes.specs.Numbers.{decided}
use Rattle.shapes.specs.Ledger.{Ledger}
use Rattle.shapes.specs.Moves.{push_back}
use Rattle.shapes.specs.Moves as M
use Rattle.engines.specs.Counted.{counted_push, counted_pop}
use Rattle.engines.specs.Reads.{is_slot, values_along, clear_on}
use Rattle.engines.specs.Check.{sizes_fit, gather_all, null_slot_zero, pool_found, check_found, idle_path}
use Rattle.engines.specs.Calls.{setup_call, check_call, length_call, push_call, pop_call, clear_call, read_call}
use Rattle.xor.specs.Steps.{is_beside, push_empty_of, push_beside_of, push_of, pop_of}
use Rattle.xor.specs.Engine.{fresh_link}
use Rattle.xor.specs.Slots.{take_of, release_of}
use Rattle.xor.specs.Slot.{in_pool}
use Rattle.faces.specs.Words.{kept}
use Rattle.faces.specs.Version.{face_version}
use Rattle.faces.specs.Trace.{Memory, returned, FaceTrace, started, continued}
use Rattle.faces.specs.Tried.{c_p1, c_p2, c_setups, c_setups_pass, c_turns, c_damaged, c_refused, c_broken_pools, c_broken_pass, c_undone, c_full, c_at_limit, c_undone_hands, c_turns_pass, noted_from, notes, c_answers_pass}

pub c_setups_tried : c_setups_pass c_setups ≡ true
unfolding tabulate is_fair is_zero gather all_zero keeps_rules sizes_fit decided fresh_link fresh_value setup_call kept
c_setups_tried = refl

pub c_turns_tried : c_turns_pass c_p1 c_turns ≡ true
unfolding tabulate is_fair is_zero gather all_zero keeps_rules nothing_met gather_all count_fault spare_fault idle_fault null_slot_zero pool_found check_found sizes_fit decided is_met_of mark_of unmet walk_on walkable idle_path kept near_of with_near is_beside push_empty_of push_beside_of push_of pop_of take_of release_of in_pool check_call length_call push_call pop_call clear_call counted_push counted_pop clear_on read_call is_slot values_along
c_turns_tried = refl

pub c_refused_tried : c_turns_pass c_damaged c_refused ≡ true
unfolding tabulate is_fair is_zero gather all_zero keeps_rules nothing_met gather_all count_fault spare_fault idle_fault null_slot_zero pool_found check_found sizes_fit decided is_met_of mark_of unmet walk_on walkable idle_path kept near_of with_near is_beside push_empty_of push_beside_of push_of pop_of take_of release_of in_pool check_call length_call push_call pop_call clear_call counted_push counted_pop clear_on read_call is_slot values_along
c_refused_tried = refl

-- 02 b) and c): each of 9 to 16, with its list and position, of all nine functions
pub c_broken_tried : c_broken_pass c_broken_pools ≡ true
unfolding tabulate is_fair is_zero gather all_zero keeps_rules nothing_met gather_all count_fault spare_fault idle_fault null_slot_zero pool_found check_found sizes_fit decided is_met_of mark_of unmet walk_on walkable idle_path kept near_of with_near is_beside push_empty_of push_beside_of push_of pop_of take_of release_of in_pool check_call length_call push_call pop_call clear_call counted_push counted_pop clear_on read_call is_slot values_along
c_broken_tried = refl

pub c_undone_tried : (c_turns_pass c_p2 c_undone ≡ true) × (c_turns_pass c_full c_at_limit ≡ true) × (c_undone_hands ≡ true)
unfolding tabulate is_fair is_zero gather all_zero keeps_rules nothing_met gather_all count_fault spare_fault idle_fault null_slot_zero pool_found check_found sizes_fit decided is_met_of mark_of unmet walk_on walkable idle_path kept near_of with_near is_beside push_empty_of push_beside_of push_of pop_of take_of release_of in_pool check_call length_call push_call pop_call clear_call counted_push counted_pop clear_on read_call is_slot values_along
c_undone_tried = (refl, refl, refl)

-- after P7: list 0 had four pushes and one pop, list 1 two pushes; the refused ones are not noted
pub c_ledger_tried : (notes (noted_from (take 10 c_turns)) 0 4 1 (20 ∷ 30 ∷ 40 ∷ []) ≡ true) × (notes (noted_from (take 10 c_turns)) 1 2 0 (60 ∷ 61 ∷ []) ≡ true)
unfolding tabulate is_fair is_zero gather all_zero keeps_rules nothing_met gather_all count_fault spare_fault idle_fault null_slot_zero pool_found check_found sizes_fit decided is_met_of mark_of unmet walk_on walkable idle_path kept near_of with_near is_beside push_empty_of push_beside_of push_of pop_of take_of release_of in_pool check_call length_call push_call pop_call clear_call counted_push counted_pop clear_on read_call is_slot values_along
c_ledger_tried = (refl, refl)

-- at the end: list 0 was cleared, and of list 1 the last was popped
pub c_ledger_cleared : (notes (noted_from c_turns) 0 0 0 [] ≡ true) × (notes (noted_from c_turns) 1 2 1 (60 ∷ []) ≡ true)
unfolding tabulate is_fair is_zero gather all_zero keeps_rules nothing_met gather_all count_fault spare_fault idle_fault null_slot_zero pool_found check_found sizes_fit decided is_met_of mark_of unmet walk_on walkable idle_path kept near_of with_near is_beside push_empty_of push_beside_of push_of pop_of take_of release_of in_pool check_call length_call push_call pop_call clear_call counted_push counted_pop clear_on read_call is_slot values_along
c_ledger_cleared = (refl, refl)

pub c_answers_tried : c_answers_pass ≡ true
unfolding tabulate is_fair is_zero gather all_zero keeps_rules nothing_met gather_all count_fault spare_fault idle_fault null_slot_zero pool_found check_found sizes_fit decided is_met_of mark_of unmet walk_on walkable idle_path kept near_of with_near is_beside push_empty_of push_beside_of push_of pop_of take_of release_of in_pool check_call length_call push_call pop_call clear_call counted_push counted_pop clear_on read_call is_slot values_along
c_answers_tried = refl

-- include/flailreeve.h says the same number
pub version_is : face_version ≡ 4
version_is = refl

-- there are traces: three pushes on list 1, whose limit is three, begun on words of which there are none
pub face_six_reached : (m : Memory) × (d : Ledger) × FaceTrace 2 (2 ∷ 1 ∷ replicate 6 0) (5 ∷ 3 ∷ replicate 6 0) m d × (returned m (push_back 1 14) ≡ 6) × (d.pushes 1 ≡ 3)
unfolding tabulate is_fair is_zero gather all_zero keeps_rules nothing_met gather_all count_fault spare_fault idle_fault null_slot_zero pool_found check_found sizes_fit decided is_met_of mark_of unmet walk_on walkable idle_path kept near_of with_near is_beside push_empty_of push_beside_of push_of pop_of take_of release_of in_pool check_call length_call push_call pop_call clear_call counted_push counted_pop clear_on read_call is_slot values_along fresh_link fresh_value setup_call
face_six_reached = (_, _, continued (continued (continued (started (replicate 6 9) (replicate 6 7) [] refl) (M.checked (push_back 1 11))) (M.checked (push_back 1 12))) (M.checked (push_back 1 13)), refl, refl)
