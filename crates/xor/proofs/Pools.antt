-- Document 01's first pools, computed on one list: what the laws speak of exists, and the steps give 01's cells.
use mathlib.Core.Path.{◌≡◌, refl}
use mathlib.Core.List.{List, [], ◌∷◌}
use Prim.Native.Nat.{ℕ, zero, suc, ◌<◌, ◌≤◌}
use native.Mathlib.Nat.{not-suc-le-zero}
use native.Mathlib.Omega.{arith}
use lib.Dec.{lit<}
use Rattle.books.specs.declared.Free.{Free}
use Rattle.books.specs.declared.Entry.{Entry}
use Rattle.chains.specs.Count.{count}
use Rattle.chains.specs.Chain.{cell, following}
use Rattle.chains.proofs.Chain.{linked_iff}
use Rattle.xor.specs.Slot.{InPool, in_pool}
use Rattle.xor.specs.Slots.{take_of, release_of}
use Rattle.shapes.specs.declared.End.TheVariants.{Front, Back}
use Rattle.shapes.specs.Ends.{near_of, with_near, contents}
use Rattle.xor.specs.Steps.{is_beside, push_empty_of, push_beside_of, push_of, pop_of}
use Rattle.xor.specs.StepDone.{Apart, CellsHold}
use Rattle.xor.proofs.Ends.{push_held, new_held}

abbrev pub six : ℕ → ℕ → ℕ → ℕ → ℕ → ℕ → List ℕ
six a b c d e f = a ∷ b ∷ c ∷ d ∷ e ∷ f ∷ []

-- the steps do not count: the stored length and count are as they were
abbrev pub list : ℕ → ℕ → Entry
list h t = record { head = h; tail = t; share = 2; limit = 5; length = 0 }

abbrev pub idle : ℕ → Free
idle h = record { head = h; count = 0 }

slot_of_six : (y : ℕ) → 0 < y → y < 6 → InPool (six 0 2 3 4 5 0) (six 0 0 0 0 0 0) y
slot_of_six y p q = record { not_null = p; has_link = q; has_value = q }

all_apart : Apart (six 0 2 3 4 5 0) (six 0 0 0 0 0 0) (1 ∷ 2 ∷ 3 ∷ 4 ∷ 5 ∷ [])
all_apart = record { slots = slots; once = once }
  where
    slots : (y : ℕ) → 0 < count y (1 ∷ 2 ∷ 3 ∷ 4 ∷ 5 ∷ []) → InPool (six 0 2 3 4 5 0) (six 0 0 0 0 0 0) y
    slots zero h = absurd (not-suc-le-zero h)
    slots (suc zero) h = slot_of_six 1 (lit< tt) (lit< tt)
    slots (suc (suc zero)) h = slot_of_six 2 (lit< tt) (lit< tt)
    slots (suc (suc (suc zero))) h = slot_of_six 3 (lit< tt) (lit< tt)
    slots (suc (suc (suc (suc zero)))) h = slot_of_six 4 (lit< tt) (lit< tt)
    slots (suc (suc (suc (suc (suc zero))))) h = slot_of_six 5 (lit< tt) (lit< tt)
    slots (suc (suc (suc (suc (suc (suc y)))))) h = absurd (not-suc-le-zero h)

    once : (y : ℕ) → count y (1 ∷ 2 ∷ 3 ∷ 4 ∷ 5 ∷ []) ≤ 1
    once zero = omega arith
    once (suc zero) = omega arith
    once (suc (suc zero)) = omega arith
    once (suc (suc (suc zero))) = omega arith
    once (suc (suc (suc (suc zero)))) = omega arith
    once (suc (suc (suc (suc (suc zero))))) = omega arith
    once (suc (suc (suc (suc (suc (suc y)))))) = omega arith

-- P1: all slots are idle
pub p1_held : CellsHold (six 0 2 3 4 5 0) (six 0 0 0 0 0 0) (list 0 0) (idle 1) [] (1 ∷ 2 ∷ 3 ∷ 4 ∷ 5 ∷ [])
p1_held = new_held 2 5 all_apart refl ((linked_iff following (cell (six 0 2 3 4 5 0)) (1 ∷ 2 ∷ 3 ∷ 4 ∷ 5 ∷ [])).1 (refl, (refl, (refl, (refl, (refl, tt))))))

-- P2: back 20, back 30, front 10
pub p2_held : CellsHold (six 0 1 1 1 5 0) (six 0 20 30 10 0 0) (list 3 2) (idle 4) (3 ∷ 1 ∷ 2 ∷ []) (4 ∷ 5 ∷ [])
unfolding push_of push_empty_of push_beside_of is_beside near_of with_near take_of in_pool
p2_held = (push_held 10 Front (push_held 30 Back (push_held 20 Back p1_held).held).held).held

pub p2_holds : contents (six 0 20 30 10 0 0) (3 ∷ 1 ∷ 2 ∷ []) ≡ 10 ∷ 20 ∷ 30 ∷ []
p2_holds = refl

-- P3: then back 40
pub p3_held : CellsHold (six 0 1 5 1 2 0) (six 0 20 30 10 40 0) (list 3 4) (idle 5) (3 ∷ 1 ∷ 2 ∷ 4 ∷ []) (5 ∷ [])
unfolding push_of push_empty_of push_beside_of is_beside near_of with_near take_of in_pool
p3_held = (push_held 40 Back p2_held).held

-- a pop at the front following P2, as P6 does it: the value 10, slot 3 wiped and in front of the idle chain
pub p2_popped : ((pop_of Front (six 0 1 1 1 5 0) (six 0 20 30 10 0 0) (list 3 2) (idle 4)).answer.value ≡ 10)
    × ((pop_of Front (six 0 1 1 1 5 0) (six 0 20 30 10 0 0) (list 3 2) (idle 4)).links ≡ six 0 2 1 4 5 0)
    × ((pop_of Front (six 0 1 1 1 5 0) (six 0 20 30 10 0 0) (list 3 2) (idle 4)).values ≡ six 0 20 30 0 0 0)
unfolding pop_of is_beside near_of with_near release_of in_pool
p2_popped = (refl, refl, refl)
