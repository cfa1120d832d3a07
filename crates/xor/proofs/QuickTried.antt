-- The quick calls of `QuickTried`, `QuickPushTried` and `QuickPopTried` give and leave what 02 d) says, and the slots that a call touches are those that 02 d) names. Computed.
use mathlib.Core.Path.{◌≡◌, refl}
use mathlib.Core.Bool.{true}
use mathlib.Core.List.{[], ◌∷◌}
use Rattle.books.specs.Tried.{entry}
use Rattle.shapes.specs.declared.End.TheVariants.{Front, Back}
use Rattle.shapes.specs.Ends.{near_of, with_near}
use Rattle.shapes.specs.Numbers.{decided}
use Rattle.shapes.specs.Quick.{lengths_fit}
use Rattle.engines.specs.Check.{sizes_fit}
use Rattle.engines.specs.Counted.{counted_push, counted_pop}
use Rattle.engines.specs.Quick.{quick_push, quick_pop}
use Rattle.xor.specs.Slot.{in_pool}
use Rattle.xor.specs.Slots.{take_of, release_of}
use Rattle.xor.specs.Steps.{is_beside, push_empty_of, push_beside_of, push_of, pop_of}
use Rattle.xor.specs.StepDone.{touched_by_push, touched_by_pop}
use Rattle.xor.specs.QuickTried.{quick_pass, sizes_tried, lists_tried, four_tried, counts_tried, six_cells}
use Rattle.xor.specs.QuickPushTried.{six_tried, seven_tried, push_counts_tried, free_head_tried, ends_tried, push_leaves_tried}
use Rattle.xor.specs.QuickPopTried.{five_tried, end_slot_tried, neighbour_tried, pop_leaves_tried}

-- 1, 17 for L, 4, 17 for a stored count, at all four
pub quick_tests_tried : (quick_pass sizes_tried ≡ true) × (quick_pass lists_tried ≡ true) × (quick_pass four_tried ≡ true) × (quick_pass counts_tried ≡ true)
unfolding near_of with_near decided lengths_fit sizes_fit counted_push counted_pop quick_push quick_pop in_pool take_of release_of is_beside push_empty_of push_beside_of push_of pop_of
quick_tests_tried = (refl, refl, refl, refl)

-- 6, 7, 17 for the rest, and what is left
pub quick_pushes_tried : (quick_pass six_tried ≡ true) × (quick_pass seven_tried ≡ true) × (quick_pass push_counts_tried ≡ true) × (quick_pass free_head_tried ≡ true) × (quick_pass ends_tried ≡ true)
    × (quick_pass push_leaves_tried ≡ true)
unfolding near_of with_near decided lengths_fit sizes_fit counted_push counted_pop quick_push quick_pop in_pool take_of release_of is_beside push_empty_of push_beside_of push_of pop_of
quick_pushes_tried = (refl, refl, refl, refl, refl, refl)

-- 5, 17 for the rest, and what is left
pub quick_pops_tried : (quick_pass five_tried ≡ true) × (quick_pass end_slot_tried ≡ true) × (quick_pass neighbour_tried ≡ true) × (quick_pass pop_leaves_tried ≡ true)
unfolding near_of with_near decided lengths_fit sizes_fit counted_push counted_pop quick_push quick_pop in_pool take_of release_of is_beside push_empty_of push_beside_of push_of pop_of
quick_pops_tried = (refl, refl, refl, refl)

-- ---- the slots that a call touches

-- the free head and, where the tail is not 0, the slot at the end, which may be 0 at the front
pub push_touches_tried : (touched_by_push Back (entry 3 5 0 0 0) (record { head = 7; count = 0 }) ≡ 7 ∷ 5 ∷ []) × (touched_by_push Front (entry 3 5 0 0 0) (record { head = 7; count = 0 }) ≡ 7 ∷ 3 ∷ [])
    × (touched_by_push Back (entry 3 0 0 0 0) (record { head = 7; count = 0 }) ≡ 7 ∷ []) × (touched_by_push Front (entry 3 0 0 0 0) (record { head = 7; count = 0 }) ≡ 7 ∷ [])
    × (touched_by_push Back (entry 0 5 0 0 0) (record { head = 0; count = 0 }) ≡ 0 ∷ 5 ∷ []) × (touched_by_push Front (entry 0 5 0 0 0) (record { head = 5; count = 0 }) ≡ 5 ∷ 0 ∷ [])
unfolding near_of
push_touches_tried = (refl, refl, refl, refl, refl, refl)

-- the slot at the end and, where its link is not 0, the neighbour, whatever the other end is
pub pop_touches_tried : (touched_by_pop Back (six_cells 9 2 1 0 5 65535) (entry 3 2 0 0 0) ≡ 2 ∷ 1 ∷ []) × (touched_by_pop Front (six_cells 9 2 1 0 5 65535) (entry 4 2 0 0 0) ≡ 4 ∷ 5 ∷ [])
    × (touched_by_pop Back (six_cells 9 2 1 0 5 65535) (entry 2 3 0 0 0) ≡ 3 ∷ []) × (touched_by_pop Front (six_cells 9 2 1 0 5 65535) (entry 3 2 0 0 0) ≡ 3 ∷ [])
    × (touched_by_pop Back (six_cells 9 2 1 0 5 65535) (entry 2 5 0 0 0) ≡ 5 ∷ 65535 ∷ []) × (touched_by_pop Front (six_cells 9 2 1 0 5 65535) (entry 0 2 0 0 0) ≡ 0 ∷ 9 ∷ [])
unfolding near_of
pop_touches_tried = (refl, refl, refl, refl, refl, refl)
