-- The first fault of a pool is found at its place: the pools of `Places`, computed.
use mathlib.Core.Path.{◌≡◌, refl}
use mathlib.Core.Bool.{true}
use mathlib.Core.List.{[], ◌∷◌}
use Rattle.books.specs.Tried.{numbers_from}
use Rattle.books.specs.Test.{is_fair, is_zero, gather, all_zero, keeps_rules}
use Rattle.shapes.specs.Met.{is_met_of, mark_of, unmet}
use Rattle.shapes.specs.Walk.{walk_on, walkable}
use Rattle.shapes.specs.Faults.{fault, no_fault, nothing_met, count_fault, spare_fault, idle_fault}
use Rattle.engines.specs.Check.{idle_path, gather_all, null_slot_zero, pool_found, check_found}
use Rattle.engines.specs.Places.{fault_pools, faults_found, last_holds, largest_found}

pub first_faults_tried : faults_found fault_pools ≡ true
unfolding is_fair is_zero gather all_zero keeps_rules nothing_met gather_all count_fault spare_fault idle_fault null_slot_zero pool_found check_found is_met_of mark_of unmet walk_on walkable idle_path
first_faults_tried = refl

-- the last slot of 4,096: wiped or not, free or live
pub last_slot_tried : (last_holds 0 4094 (4095 ∷ []) ≡ no_fault) × (last_holds 9223372036854775808 4094 (4095 ∷ []) ≡ fault 14 0 4095) × (last_holds 1 4094 (4095 ∷ []) ≡ fault 14 0 4095) × (last_holds 1 4095 [] ≡ no_fault)
unfolding count_fault spare_fault idle_fault is_met_of
last_slot_tried = (refl, refl, refl, refl)

pub largest_found_tried : (largest_found 0 4095 (numbers_from 1 4095) 4095 ≡ 0 ∷ 4095 ∷ []) × (largest_found 4095 0 [] 0 ≡ 0 ∷ 0 ∷ []) × (largest_found 0 4095 (numbers_from 1 4095) 4094 ≡ 16 ∷ 4095 ∷ []) × (largest_found 4095 0 [] 4096 ≡ 16 ∷ 0 ∷ [])
unfolding count_fault spare_fault idle_fault is_met_of
largest_found_tried = (refl, refl, refl, refl)
