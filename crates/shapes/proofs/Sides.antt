-- The cases of `Sides` pass, and declared ones on both sides of `Room` and of setup's rules.
use mathlib.Core.Path.{◌≡◌, refl}
use mathlib.Core.Bool.{true, false}
use mathlib.Core.List.{List, [], ◌∷◌, ◌++◌}
use mathlib.Core.Logic.{◌⊎◌, inl, inr}
use Prim.Native.Nat.{ℕ, zero, suc, ◌≤◌, ◌<◌}
use native.Mathlib.Omega.{arith}
use lib.Dec.{lit<}
use lib.ListN.{get_or, replicate}
use Rattle.books.specs.declared.Entry.{Entry}
use Rattle.shapes.specs.Met.{is_met_of, mark_of, unmet}
use Rattle.shapes.specs.Walk.{walk_on, walkable}
use Rattle.shapes.specs.Faults.{nothing_met, count_fault, spare_fault, idle_fault}
use Rattle.shapes.specs.Shape.{Shape, Room, lacks}
use Rattle.shapes.specs.Setup.{fresh_value, SetupRules}
use Rattle.shapes.specs.Sides.{pairs_pass, own_numbers, unwiped_slots, walks_tried, walks_pass, faults_tried, faults_pass}

pub own_numbers_tried : pairs_pass own_numbers ≡ true
own_numbers_tried = refl

pub unwiped_slots_tried : pairs_pass unwiped_slots ≡ true
unwiped_slots_tried = refl

pub all_walks_tried : walks_pass walks_tried ≡ true
unfolding is_met_of mark_of unmet walk_on walkable
all_walks_tried = refl

pub all_faults_tried : faults_pass faults_tried ≡ true
unfolding idle_fault spare_fault count_fault is_met_of
all_faults_tried = refl

-- the record has a place for each of N slots, none met; a slot with no place counts as met
pub record_tried : (nothing_met 4 ≡ 0 ∷ 0 ∷ 0 ∷ 0 ∷ []) × (is_met_of (0 ∷ 0 ∷ 1 ∷ []) 1 ≡ false) × (is_met_of (0 ∷ 0 ∷ 1 ∷ []) 2 ≡ true) × (is_met_of (0 ∷ 0 ∷ 1 ∷ []) 3 ≡ true)
    × (mark_of (0 ∷ 0 ∷ 0 ∷ []) 2 ≡ 0 ∷ 0 ∷ 1 ∷ [])
unfolding nothing_met is_met_of mark_of
record_tried = (refl, refl, refl, refl, refl)

-- 01: "all values 0", in any slot
pub fresh_values_tried : (fresh_value 0 ≡ 0) × (fresh_value 1 ≡ 0) × (fresh_value 2 ≡ 0) × (fresh_value 4095 ≡ 0)
unfolding fresh_value
fresh_values_tried = (refl, refl, refl, refl)

-- ---- what each list lacks

-- a list's share and limit
abbrev granting : ℕ → ℕ → Entry
granting share limit = record { head = 0; tail = 0; share = share; limit = limit; length = 0 }

-- "share less length, or 0": below the share, at it and over it; the sum, of the first list, the last, and one with no sequence
pub lacks_sides : (lacks (granting 2 5 ∷ []) ([] ∷ []) ≡ 2) × (lacks (granting 2 5 ∷ []) ((1 ∷ []) ∷ []) ≡ 1) × (lacks (granting 2 5 ∷ []) ((1 ∷ 2 ∷ []) ∷ []) ≡ 0)
    × (lacks (granting 2 5 ∷ []) ((1 ∷ 2 ∷ 3 ∷ []) ∷ []) ≡ 0) × (lacks (granting 0 5 ∷ granting 1 5 ∷ granting 1 5 ∷ []) ((1 ∷ 2 ∷ 3 ∷ []) ∷ [] ∷ [] ∷ []) ≡ 2)
    × (lacks (granting 4095 4095 ∷ []) ([] ∷ []) ≡ 4095) × (lacks (granting 2 5 ∷ granting 3 5 ∷ []) ([] ∷ []) ≡ 5) × (lacks [] ([] ∷ []) ≡ 0)
lacks_sides = (refl, refl, refl, refl, refl, refl, refl, refl)

-- ---- room for a push

-- list 0 has slot 1; these are free; list 1 has nothing
abbrev one_of : List ℕ → Shape
one_of idle = record { chains = (1 ∷ []) ∷ [] ∷ []; idle = idle }

-- under the limit: list 1 lacks one slot and two are free; list 0 lacks a slot of its own, though no more are free than are lacked
pub room_had : Room (granting 0 2 ∷ granting 1 1 ∷ []) (one_of (2 ∷ 3 ∷ [])) 0 × Room (granting 2 2 ∷ granting 1 1 ∷ []) (one_of (2 ∷ 3 ∷ [])) 0
    × Room (granting 1 2 ∷ granting 0 1 ∷ []) (one_of (2 ∷ [])) 0 × Room (granting 0 1 ∷ granting 1 1 ∷ []) (one_of (2 ∷ [])) 1
room_had = (
  record { under = lit< tt; enough = inr (lit< tt) },
  record { under = lit< tt; enough = inl (lit< tt) },
  record { under = lit< tt; enough = inr (lit< tt) },
  record { under = lit< tt; enough = inl (lit< tt) },
)

-- at the limit; at the share, and with as many free as are lacked; a list of limit 0; none free and none lacked
pub room_none : (Room (granting 0 1 ∷ granting 0 1 ∷ []) (one_of (2 ∷ 3 ∷ [])) 0 → ⊥) × (Room (granting 1 2 ∷ granting 1 1 ∷ []) (one_of (2 ∷ [])) 0 → ⊥)
    × (Room (granting 0 1 ∷ granting 0 0 ∷ []) (one_of (2 ∷ 3 ∷ [])) 1 → ⊥) × (Room (granting 0 2 ∷ granting 0 1 ∷ []) (one_of []) 0 → ⊥)
room_none = (λ r. omega (arith, r.under), λ r. neither r.enough, λ r. omega (arith, r.under), λ r. none r.enough)
  where
    neither : (1 < 1) ⊎ (1 < 1) → ⊥
    neither (inl h) = omega (arith, h)
    neither (inr h) = omega (arith, h)

    none : (1 < 0) ⊎ (0 < 0) → ⊥
    none (inl h) = omega (arith, h)
    none (inr h) = omega (arith, h)

-- ---- setup's rules

-- the largest pool: one list of one that there is room for, whose share and limit are N-1
pub rules_largest : SetupRules 4096 1 1 (4095 ∷ []) (4095 ∷ [])
rules_largest = record { least = lit< tt; most = lit< tt; fair = fair; fits = lit< tt; unused = λ l h k. absurd (omega (arith, h, k)) }
  where
    fair : (l : ℕ) → l < 1 → (get_or (4095 ∷ []) l 0 ≤ get_or (4095 ∷ []) l 0) × (get_or (4095 ∷ []) l 0 < 4096)
    fair zero h = (lit< tt, lit< tt)
    fair (suc l) h = absurd (omega (arith, h))

abbrev eight_of : ℕ → List ℕ
eight_of x = replicate 7 0 ++ x ∷ []

-- a limit of N there, and the last bit of a word; a share in the last of eight places, and a limit; nine lists; shares that add up to N in the last list
pub rules_edges : (SetupRules 4096 1 1 (4095 ∷ []) (4096 ∷ []) → ⊥) × (SetupRules 4096 1 1 (0 ∷ []) (32768 ∷ []) → ⊥) × (SetupRules 4096 1 1 (32768 ∷ []) (4095 ∷ []) → ⊥)
    × (SetupRules 6 8 7 (eight_of 1) (eight_of 0) → ⊥) × (SetupRules 6 8 7 (eight_of 0) (eight_of 1) → ⊥) × (SetupRules 6 8 1 (eight_of 32768) (eight_of 0) → ⊥)
    × (SetupRules 6 8 1 (eight_of 0) (eight_of 32768) → ⊥) × (SetupRules 6 8 9 (eight_of 0) (eight_of 0) → ⊥) × (SetupRules 6 8 8 (eight_of 6) (eight_of 6) → ⊥)
rules_edges = (
  λ r. omega (arith, (r.fair 0 (lit< tt)).1),
  λ r. omega (arith, (r.fair 0 (lit< tt)).1),
  λ r. omega (arith, (r.fair 0 (lit< tt)).0),
  λ r. omega (arith, (r.unused 7 (lit< tt) (lit< tt)).0),
  λ r. omega (arith, (r.unused 7 (lit< tt) (lit< tt)).1),
  λ r. omega (arith, (r.unused 7 (lit< tt) (lit< tt)).0),
  λ r. omega (arith, (r.unused 7 (lit< tt) (lit< tt)).1),
  λ r. omega (arith, r.most),
  λ r. omega (arith, (r.fair 7 (lit< tt)).1),
)
