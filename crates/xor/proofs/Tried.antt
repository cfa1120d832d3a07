-- Walks, a read and an emptying of the XOR list, computed: a walk passes a chain whole and stops where it must, and document 01's first pools give 01's cells.
use mathlib.Core.Path.{◌≡◌, refl}
use mathlib.Core.Bool.{true, false}
use mathlib.Core.List.{List, [], ◌∷◌}
use Prim.Native.Nat.{ℕ}
use Rattle.books.specs.declared.Free.{Free}
use Rattle.books.specs.declared.Entry.{Entry}
use Rattle.books.specs.Outcome.{outcome}
use Rattle.shapes.specs.declared.End.TheVariants.{Front, Back}
use Rattle.shapes.specs.Ends.{near_of, with_near}
use Rattle.shapes.specs.Met.{is_met_of, mark_of, unmet}
use Rattle.shapes.specs.Walk.{walk_on, walkable}
use Rattle.engines.specs.Check.{idle_path}
use Rattle.engines.specs.Reads.{is_slot, values_along, count_read, buffer_after, clear_on}
use Rattle.xor.specs.Slot.{in_pool}
use Rattle.xor.specs.Slots.{take_of, release_of}
use Rattle.xor.specs.Steps.{is_beside, push_empty_of, push_beside_of, push_of, pop_of}
use Rattle.engines.specs.Counted.{counted_push, counted_pop}
use Rattle.xor.specs.Engine.{xor}
use Rattle.xor.specs.Along.{clear_along, clear_on_list}
use Rattle.xor.proofs.Pools.{six, list, idle}

abbrev four : ℕ → ℕ → ℕ → ℕ → List ℕ
four a b c d = a ∷ b ∷ c ∷ d ∷ []

-- 1, 3, 2 and the end; then 2 leads back to 1; then 3 was met before; then 3 leads to 4, which the four slots have not;
-- then a record in which the null slot is met, one with a place too many, and a link without a value, which are refused
pub walks_tried_lem : (idle_path xor (four 0 3 0 2) (four 0 0 0 0) (four 0 0 0 0) (idle 1) ≡ record { ok = true; slots = 1 ∷ 3 ∷ 2 ∷ [] })
    × (idle_path xor (four 0 3 1 2) (four 0 0 0 0) (four 0 0 0 0) (idle 1) ≡ record { ok = false; slots = 1 ∷ 3 ∷ 2 ∷ [] })
    × (idle_path xor (four 0 3 0 2) (four 0 0 0 0) (four 0 0 0 1) (idle 1) ≡ record { ok = false; slots = 1 ∷ [] })
    × (idle_path xor (four 0 3 0 4) (four 0 0 0 0) (four 0 0 0 0) (idle 1) ≡ record { ok = false; slots = 1 ∷ 3 ∷ [] })
    × (idle_path xor (four 0 3 0 2) (four 0 0 0 0) (four 1 0 0 0) (idle 1) ≡ record { ok = false; slots = [] })
    × (idle_path xor (four 0 3 0 2) (four 0 0 0 0) (0 ∷ four 0 0 0 0) (idle 1) ≡ record { ok = false; slots = [] })
    × (idle_path xor (four 0 3 0 2) (0 ∷ []) (four 0 0 0 0) (idle 1) ≡ record { ok = false; slots = [] })
unfolding idle_path walkable walk_on is_met_of mark_of unmet
walks_tried_lem = (refl, refl, refl, refl, refl, refl, refl)

-- P3 read into five places from the second on: forward, and from the tail backward
pub p3_read : (count_read xor Front (six 0 1 5 1 2 0) (six 0 20 30 10 40 0) 3 (7 ∷ 7 ∷ 7 ∷ 7 ∷ 7 ∷ []) 1 ≡ 4)
    × (buffer_after xor Front (six 0 1 5 1 2 0) (six 0 20 30 10 40 0) 3 (7 ∷ 7 ∷ 7 ∷ 7 ∷ 7 ∷ []) 1 ≡ 7 ∷ 10 ∷ 20 ∷ 30 ∷ 40 ∷ [])
    × (buffer_after xor Back (six 0 1 5 1 2 0) (six 0 20 30 10 40 0) 4 (7 ∷ 7 ∷ 7 ∷ 7 ∷ 7 ∷ []) 1 ≡ 7 ∷ 40 ∷ 30 ∷ 20 ∷ 10 ∷ [])
unfolding values_along is_slot
p3_read = (refl, refl, refl)

-- P2 with its counts: three slots in the list, two free
abbrev pub second : Entry
second = record { head = 3; tail = 2; share = 2; limit = 5; length = 3 }

abbrev pub second_free : Free
second_free = record { head = 4; count = 2 }

-- P2 emptied: every slot is idle, the last of the list first, every value is wiped, and five are counted as free
pub p2_cleared : ((clear_on xor 3 (six 0 1 1 1 5 0) (six 0 20 30 10 0 0) second second_free).free ≡ record { head = 2; count = 5 })
    × ((clear_on xor 3 (six 0 1 1 1 5 0) (six 0 20 30 10 0 0) second second_free).entry ≡ record { head = 0; tail = 0; share = 2; limit = 5; length = 0 })
    × ((clear_on xor 3 (six 0 1 1 1 5 0) (six 0 20 30 10 0 0) second second_free).links ≡ six 0 3 1 4 5 0)
    × ((clear_on xor 3 (six 0 1 1 1 5 0) (six 0 20 30 10 0 0) second second_free).values ≡ six 0 0 0 0 0 0)
unfolding clear_on counted_pop pop_of is_beside near_of with_near release_of in_pool
p2_cleared = (refl, refl, refl, refl)

-- the same on the list as it runs
pub p2_on_list : ((clear_on_list (six 0 1 1 1 5 0) (six 0 20 30 10 0 0) second second_free).free ≡ record { head = 2; count = 5 })
    × ((clear_on_list (six 0 1 1 1 5 0) (six 0 20 30 10 0 0) second second_free).entry ≡ record { head = 0; tail = 0; share = 2; limit = 5; length = 0 })
unfolding clear_on_list clear_along
p2_on_list = (refl, refl)

-- P3's push and a pop after P2, counted: the list has four slots, or two; and a push on an empty list, and the pop that empties it. Where the engine refuses its step nothing is counted
pub p2_counted : ((counted_push xor Back (six 0 1 1 1 5 0) (six 0 20 30 10 0 0) second second_free 40).entry ≡ record { head = 3; tail = 4; share = 2; limit = 5; length = 4 })
    × ((counted_push xor Back (six 0 1 1 1 5 0) (six 0 20 30 10 0 0) second second_free 40).free ≡ record { head = 5; count = 1 })
    × ((counted_pop xor Front (six 0 1 1 1 5 0) (six 0 20 30 10 0 0) second second_free).entry ≡ record { head = 1; tail = 2; share = 2; limit = 5; length = 2 })
    × ((counted_pop xor Front (six 0 1 1 1 5 0) (six 0 20 30 10 0 0) second second_free).free ≡ record { head = 3; count = 3 })
    × ((counted_push xor Front (six 0 2 3 4 5 0) (six 0 0 0 0 0 0) (list 0 0) (record { head = 1; count = 5 }) 20).entry ≡ record { head = 1; tail = 1; share = 2; limit = 5; length = 1 })
    × ((counted_push xor Front (six 0 2 3 4 5 0) (six 0 0 0 0 0 0) (list 0 0) (record { head = 1; count = 5 }) 20).free ≡ record { head = 2; count = 4 })
    × ((counted_pop xor Back (six 0 0 3 4 5 0) (six 0 20 0 0 0 0) (record { head = 1; tail = 1; share = 2; limit = 5; length = 1 }) (record { head = 2; count = 4 })).entry ≡ list 0 0)
    × ((counted_pop xor Back (six 0 0 3 4 5 0) (six 0 20 0 0 0 0) (record { head = 1; tail = 1; share = 2; limit = 5; length = 1 }) (record { head = 2; count = 4 })).free ≡ record { head = 1; count = 5 })
    × ((counted_push xor Back (six 0 1 1 1 5 0) (six 0 20 30 10 0 0) second (record { head = 0; count = 2 }) 40).entry ≡ second)
    × ((counted_pop xor Back (six 0 1 1 1 5 0) (six 0 20 30 10 0 0) (record { head = 3; tail = 6; share = 2; limit = 5; length = 3 }) second_free).free ≡ second_free)
unfolding counted_push counted_pop push_of push_empty_of push_beside_of pop_of is_beside near_of with_near take_of release_of in_pool
p2_counted = (refl, refl, refl, refl, refl, refl, refl, refl, refl, refl)

-- P2 emptied along the list, then with no slot, then from a link that leads to 6, which the six slots have not
pub p2_along : (clear_along 3 (six 0 1 1 1 5 0) (six 0 20 30 10 0 0) 0 3 (idle 4) ≡ outcome (idle 2) (six 0 3 1 4 5 0) (six 0 0 0 0 0 0))
    × (clear_along 0 (six 0 1 1 1 5 0) (six 0 20 30 10 0 0) 0 0 (idle 4) ≡ outcome (idle 4) (six 0 1 1 1 5 0) (six 0 20 30 10 0 0))
    × (clear_along 3 (six 0 5 1 1 5 0) (six 0 20 30 10 0 0) 0 3 (idle 4) ≡ outcome (idle 1) (six 0 3 1 4 5 0) (six 0 0 30 0 0 0))
unfolding clear_along
p2_along = (refl, refl, refl)
