-- Each clause of 01's "sound" is asked for: small pools that break it are refused by their number. One computed test. One of the place of a pool's first fault, and one of what a look finds that the lists lack.
use mathlib.Core.Path.{◌≡◌, refl}
use mathlib.Core.Bool.{true}
use mathlib.Core.List.{[], ◌∷◌}
use Rattle.books.specs.Book.{most_lists, AnyBook}
use Rattle.books.specs.Tried.{entry, none}
use Rattle.books.specs.Test.{is_fair, is_zero, gather, all_zero, keeps_rules}
use Rattle.shapes.specs.Met.{is_met_of, mark_of, unmet}
use Rattle.shapes.specs.Walk.{walk_on, walkable}
use Rattle.shapes.specs.Faults.{nothing_met, count_fault, spare_fault, idle_fault}
use Rattle.engines.specs.Check.{sizes_fit, idle_path, gather_all, null_slot_zero, pool_found, check_found, look_of}
use Rattle.xor.specs.Engine.{xor}
use Rattle.xor.specs.Edges.{edges, edges_pass, broken_pools}

pub every_clause_asked : edges_pass edges ≡ true
unfolding is_fair is_zero gather all_zero keeps_rules nothing_met gather_all count_fault spare_fault idle_fault null_slot_zero pool_found check_found sizes_fit look_of is_met_of mark_of unmet walk_on walkable idle_path
every_clause_asked = refl

pub first_fault_tried : edges_pass broken_pools ≡ true
unfolding is_fair is_zero gather all_zero keeps_rules nothing_met gather_all count_fault spare_fault idle_fault null_slot_zero pool_found check_found sizes_fit look_of is_met_of mark_of unmet walk_on walkable idle_path
first_fault_tried = refl

-- list 0 has slots 2 and 1, list 1 has none and share 2, list 2 none and share 1: a look finds that three are lacked
abbrev three_lists : AnyBook
three_lists = record { places = most_lists; lists = 3; entries = entry 2 1 1 2 2 ∷ entry 0 0 2 2 0 ∷ entry 0 0 1 1 0 ∷ none 5; free = record { head = 3; count = 3 } }

pub found_lacks_tried : ((look_of xor (0 ∷ 2 ∷ 1 ∷ 4 ∷ 5 ∷ 0 ∷ []) (0 ∷ 8 ∷ 9 ∷ 0 ∷ 0 ∷ 0 ∷ []) three_lists).found.lacks ≡ 3) × ((look_of xor (0 ∷ 2 ∷ 1 ∷ 4 ∷ 5 ∷ 0 ∷ []) (0 ∷ 8 ∷ 9 ∷ 0 ∷ 0 ∷ 0 ∷ []) three_lists).refusal.number ≡ 0)
unfolding is_fair is_zero gather all_zero keeps_rules nothing_met gather_all count_fault spare_fault idle_fault null_slot_zero pool_found check_found sizes_fit look_of is_met_of mark_of unmet walk_on walkable idle_path
found_lacks_tried = (refl, refl)
