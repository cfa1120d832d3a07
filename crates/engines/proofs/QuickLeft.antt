-- Quick calls give the number and leave what 02 d) says: the calls of `QuickLeft`, computed. And the rows of the table that belong to them.
use mathlib.Core.Path.{◌≡◌, refl}
use mathlib.Core.Bool.{true}
use mathlib.Core.List.{[], ◌∷◌}
use Prim.Native.Nat.{ℕ}
use Rattle.shapes.specs.Ends.{near_of, with_near}
use Rattle.shapes.specs.Numbers.{decided}
use Rattle.shapes.specs.Quick.{lengths_fit}
use Rattle.shapes.specs.Moves.{quick_push_back, quick_push_front, quick_pop_back, quick_pop_front}
use Rattle.engines.specs.Check.{sizes_fit}
use Rattle.engines.specs.Counted.{counted_push, counted_pop}
use Rattle.engines.specs.Quick.{quick_push_on, quick_pop_on, quick_push, quick_pop}
use Rattle.engines.specs.Rows.{quick_row_of}
use Rattle.engines.specs.QuickLeft.{quick_lists, quick_counts, quick_own, quick_turns_pass, quick_sizes, pushes_on, pops_on, quick_noted}

pub quick_lists_tried : quick_turns_pass quick_lists ≡ true
unfolding near_of with_near decided lengths_fit sizes_fit counted_push counted_pop quick_push quick_pop
quick_lists_tried = refl

pub quick_counts_tried : quick_turns_pass quick_counts ≡ true
unfolding near_of with_near decided lengths_fit sizes_fit counted_push counted_pop quick_push quick_pop
quick_counts_tried = refl

pub quick_own_tried : quick_turns_pass quick_own ≡ true
unfolding near_of with_near decided lengths_fit sizes_fit counted_push counted_pop quick_push quick_pop
quick_own_tried = refl

-- a push and a pop: N = 1, 2, 4,096 and 4,097; and lengths that differ
pub quick_sizes_tried : (quick_sizes 1 1 1 ≡ 1 ∷ 1 ∷ []) × (quick_sizes 2 2 2 ≡ 0 ∷ 0 ∷ []) × (quick_sizes 4096 4096 4096 ≡ 0 ∷ 0 ∷ []) × (quick_sizes 4097 4097 4097 ≡ 1 ∷ 1 ∷ [])
    × (quick_sizes 4096 4096 4095 ≡ 1 ∷ 1 ∷ []) × (quick_sizes 4096 4095 4096 ≡ 1 ∷ 1 ∷ []) × (quick_sizes 4095 4096 4096 ≡ 1 ∷ 1 ∷ [])
unfolding near_of with_near decided lengths_fit sizes_fit counted_push counted_pop quick_push quick_pop
quick_sizes_tried = (refl, refl, refl, refl, refl, refl, refl)

-- the number and the value, then the entry, the free head and the free count
pub quick_on_list_tried : (pushes_on
    ≡ (0 ∷ 0 ∷ 1 ∷ 4 ∷ 0 ∷ 5 ∷ 3 ∷ 5 ∷ 1 ∷ [])
    ∷ (6 ∷ 0 ∷ 1 ∷ 2 ∷ 0 ∷ 2 ∷ 2 ∷ 4 ∷ 2 ∷ [])
    ∷ (7 ∷ 0 ∷ 1 ∷ 2 ∷ 0 ∷ 5 ∷ 2 ∷ 4 ∷ 2 ∷ [])
    ∷ (0 ∷ 0 ∷ 1 ∷ 4 ∷ 0 ∷ 5 ∷ 3 ∷ 5 ∷ 1 ∷ [])
    ∷ (17 ∷ 0 ∷ 1 ∷ 2 ∷ 0 ∷ 9 ∷ 5 ∷ 4 ∷ 2 ∷ [])
    ∷ (17 ∷ 0 ∷ 1 ∷ 2 ∷ 3 ∷ 5 ∷ 2 ∷ 4 ∷ 0 ∷ [])
    ∷ (17 ∷ 0 ∷ 1 ∷ 2 ∷ 3 ∷ 5 ∷ 2 ∷ 0 ∷ 1 ∷ [])
    ∷ [])
    × (pops_on
    ≡ (0 ∷ 20 ∷ 1 ∷ 1 ∷ 1 ∷ 5 ∷ 1 ∷ 2 ∷ 3 ∷ [])
    ∷ (5 ∷ 0 ∷ 1 ∷ 2 ∷ 1 ∷ 5 ∷ 0 ∷ 4 ∷ 2 ∷ [])
    ∷ (0 ∷ 20 ∷ 1 ∷ 1 ∷ 1 ∷ 5 ∷ 1 ∷ 2 ∷ 5 ∷ [])
    ∷ (17 ∷ 0 ∷ 1 ∷ 2 ∷ 1 ∷ 5 ∷ 2 ∷ 4 ∷ 5 ∷ [])
    ∷ (17 ∷ 0 ∷ 1 ∷ 0 ∷ 1 ∷ 5 ∷ 2 ∷ 4 ∷ 2 ∷ [])
    ∷ [])
unfolding near_of with_near decided quick_push_on quick_pop_on
quick_on_list_tried = (refl, refl)

-- a done quick call is noted, and a refused one is not
pub quick_noted_tried : quick_noted ≡ 1 ∷ 0 ∷ 1 ∷ 0 ∷ 0 ∷ []
unfolding near_of with_near decided lengths_fit sizes_fit counted_push counted_pop quick_push quick_pop
quick_noted_tried = refl

-- 02 d): the four rows behind the ten
pub quick_rows_tried : (l value : ℕ) → (quick_row_of (quick_push_back l value) ≡ 10) × (quick_row_of (quick_push_front l value) ≡ 11) × (quick_row_of (quick_pop_back l) ≡ 12) × (quick_row_of (quick_pop_front l) ≡ 13)
quick_rows_tried l value = (refl, refl, refl, refl)
