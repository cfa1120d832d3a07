-- Each number is given just where 01 says so, and each call leaves what 01 says: the calls of `Turns` and `Left`, computed.
use mathlib.Core.Path.{◌≡◌, refl}
use mathlib.Core.Bool.{true}
use mathlib.Core.List.{[], ◌∷◌}
use Rattle.books.specs.Tabulate.{tabulate}
use Rattle.books.specs.Test.{is_fair, is_zero, gather, all_zero, keeps_rules}
use Rattle.shapes.specs.Ends.{near_of, with_near}
use Rattle.shapes.specs.Met.{is_met_of, mark_of, unmet}
use Rattle.shapes.specs.Walk.{walk_on, walkable}
use Rattle.shapes.specs.Numbers.{decided}
use Rattle.shapes.specs.Setup.{fresh_value}
use Rattle.shapes.specs.Faults.{nothing_met, count_fault, spare_fault, idle_fault}
use Rattle.engines.specs.Check.{sizes_fit, idle_path, gather_all, null_slot_zero, pool_found, check_found}
use Rattle.engines.specs.Counted.{counted_push, counted_pop}
use Rattle.engines.specs.Reads.{is_slot, values_along, clear_on}
use Rattle.engines.specs.Calls.{setup_call, check_call, length_call, push_call, pop_call, clear_call, read_call}
use Rattle.engines.specs.Trace.{others_lack}
use Rattle.engines.specs.Turns.{trial_p3, ones, list_numbers, push_numbers, every_push, read_numbers, numbers_pass}
use Rattle.engines.specs.Left.{turns, calls_pass, reads_tried, reads_pass, lengths, eight_lengths, refused_lengths, setups, setups_pass, size_gives}

pub ones_tried : numbers_pass ones ≡ true
unfolding is_fair is_zero gather all_zero keeps_rules near_of with_near is_met_of mark_of unmet walk_on walkable decided nothing_met count_fault spare_fault idle_fault sizes_fit idle_path gather_all null_slot_zero pool_found check_found is_slot values_along counted_push counted_pop clear_on check_call length_call push_call pop_call clear_call read_call
ones_tried = refl

pub list_numbers_tried : numbers_pass list_numbers ≡ true
unfolding is_fair is_zero gather all_zero keeps_rules near_of with_near is_met_of mark_of unmet walk_on walkable decided nothing_met count_fault spare_fault idle_fault sizes_fit idle_path gather_all null_slot_zero pool_found check_found is_slot values_along counted_push counted_pop clear_on check_call length_call push_call pop_call clear_call read_call
list_numbers_tried = refl

pub push_numbers_tried : numbers_pass push_numbers ≡ true
unfolding is_fair is_zero gather all_zero keeps_rules near_of with_near is_met_of mark_of unmet walk_on walkable decided nothing_met count_fault spare_fault idle_fault sizes_fit idle_path gather_all null_slot_zero pool_found check_found is_slot values_along counted_push counted_pop clear_on check_call length_call push_call pop_call clear_call read_call
push_numbers_tried = refl

pub every_push_tried : numbers_pass every_push ≡ true
unfolding is_fair is_zero gather all_zero keeps_rules near_of with_near is_met_of mark_of unmet walk_on walkable decided nothing_met count_fault spare_fault idle_fault sizes_fit idle_path gather_all null_slot_zero pool_found check_found is_slot values_along counted_push counted_pop clear_on check_call length_call push_call pop_call clear_call read_call
every_push_tried = refl

pub read_numbers_tried : numbers_pass read_numbers ≡ true
unfolding is_fair is_zero gather all_zero keeps_rules near_of with_near is_met_of mark_of unmet walk_on walkable decided nothing_met count_fault spare_fault idle_fault sizes_fit idle_path gather_all null_slot_zero pool_found check_found is_slot values_along counted_push counted_pop clear_on check_call length_call push_call pop_call clear_call read_call
read_numbers_tried = refl

-- ---- what is left

-- a free slot's value is 0 after a pop and after a clear, whatever bits it had
pub turns_tried : calls_pass turns ≡ true
unfolding is_fair is_zero gather all_zero keeps_rules near_of with_near is_met_of mark_of unmet walk_on walkable decided nothing_met count_fault spare_fault idle_fault sizes_fit idle_path gather_all null_slot_zero pool_found check_found is_slot values_along counted_push counted_pop clear_on check_call length_call push_call pop_call clear_call read_call
turns_tried = refl

pub reads_tried_lem : reads_pass reads_tried ≡ true
unfolding is_fair is_zero gather all_zero keeps_rules near_of with_near is_met_of mark_of unmet walk_on walkable decided nothing_met count_fault spare_fault idle_fault sizes_fit idle_path gather_all null_slot_zero pool_found check_found is_slot values_along counted_push counted_pop clear_on check_call length_call push_call pop_call clear_call read_call
reads_tried_lem = refl

pub lengths_tried : (lengths ≡ 4 ∷ 1 ∷ 0 ∷ 0 ∷ []) × (eight_lengths ≡ 0 ∷ 0 ∷ 0 ∷ 1 ∷ 0 ∷ 0 ∷ 0 ∷ 2 ∷ 0 ∷ []) × (refused_lengths ≡ 0 ∷ 0 ∷ 0 ∷ 0 ∷ 0 ∷ 0 ∷ [])
unfolding is_fair is_zero gather all_zero keeps_rules is_met_of mark_of unmet walk_on walkable decided nothing_met count_fault spare_fault idle_fault sizes_fit idle_path gather_all null_slot_zero pool_found check_found length_call
lengths_tried = (refl, refl, refl)

-- and after a setup; and setup's numbers
pub setups_tried : setups_pass setups ≡ true
unfolding tabulate is_fair is_zero gather all_zero keeps_rules sizes_fit setup_call decided fresh_value
setups_tried = refl

-- 01: "N = 1 gives 1, N = 2 gives 0, N = 4,096 gives 0, N = 4,097 gives 1"; and lengths that differ
pub setup_sizes_tried : (size_gives 0 0 0 ≡ 1) × (size_gives 1 1 1 ≡ 1) × (size_gives 2 2 2 ≡ 0) × (size_gives 4096 4096 4096 ≡ 0) × (size_gives 4097 4097 4097 ≡ 1)
    × (size_gives 6 6 5 ≡ 1) × (size_gives 6 6 7 ≡ 1) × (size_gives 6 5 6 ≡ 1) × (size_gives 5 6 6 ≡ 1)
unfolding tabulate is_fair is_zero gather all_zero keeps_rules sizes_fit setup_call decided fresh_value
setup_sizes_tried = (refl, refl, refl, refl, refl, refl, refl, refl, refl)

-- ---- what the others lack

-- P3: list 1 lacks one slot; list 0 none, and its own share is never counted against a list
pub others_tried : (others_lack trial_p3.book (record { chains = (3 ∷ 1 ∷ 2 ∷ 4 ∷ []) ∷ [] ∷ []; idle = 5 ∷ [] }) 0 ≡ 1) × (others_lack trial_p3.book (record { chains = (3 ∷ 1 ∷ 2 ∷ 4 ∷ []) ∷ [] ∷ []; idle = 5 ∷ [] }) 1 ≡ 0)
    × (others_lack trial_p3.book (record { chains = [] ∷ [] ∷ []; idle = [] }) 0 ≡ 1) × (others_lack trial_p3.book (record { chains = [] ∷ [] ∷ []; idle = [] }) 1 ≡ 2)
others_tried = (refl, refl, refl, refl)
