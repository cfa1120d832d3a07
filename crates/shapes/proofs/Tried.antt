-- Small cases, computed, on each side of what must be believed: the ends, a call's own tests, the faults and their order, setup and its rules, and the ledger.
use mathlib.Core.Path.{◌≡◌, refl}
use mathlib.Core.Bool.{true, false}
use mathlib.Core.List.{List, [], ◌∷◌}
use Prim.Native.Nat.{ℕ, zero, suc, ◌≤◌, ◌<◌}
use native.Mathlib.Omega.{arith}
use lib.Dec.{lit<}
use lib.ListN.{get_or, set, replicate}
use Rattle.books.specs.declared.Entry.{Entry}
use Rattle.books.specs.Book.{wipe_word}
use Rattle.books.specs.Place.{no_place}
use Rattle.shapes.specs.declared.End.TheVariants.{Front, Back}
use Rattle.shapes.specs.Records.{Gathered}
use Rattle.shapes.specs.Ends.{joined, contents, from_end, end_slot}
use Rattle.shapes.specs.Counts.{word_up, word_down, word_sum}
use Rattle.shapes.specs.Shape.{lacks, stored_lacks}
use Rattle.shapes.specs.Numbers.{test, first_that, Condition, condition, Given, this, later}
use Rattle.shapes.proofs.Numbers.{given_only}
use Rattle.shapes.specs.Tests.{push_own_tests, pop_own_tests, read_own_tests}
use Rattle.shapes.specs.Met.{is_met_of}
use Rattle.shapes.specs.Walk.{unwiped_from}
use Rattle.shapes.specs.Faults.{fault, no_fault, place_for, answering, naming, gathered_none, gather_one, gather_fault, lowest_unmet, count_fault, spare_fault, idle_fault}
use Rattle.shapes.specs.Setup.{fresh_value, fresh_entry, fresh_shape, SetupRules}
use Rattle.shapes.specs.Moves.{push_back, push_front, pop_back, pop_front, clear}
use Rattle.shapes.specs.Ledger.{Ledger, nothing_noted, noted_done}

abbrev three : ℕ → ℕ → ℕ → List ℕ
three a b c = a ∷ b ∷ c ∷ []

-- a list's share and limit
abbrev granted : ℕ → ℕ → Entry
granted share limit = record { head = 0; tail = 0; share = share; limit = limit; length = 0 }

-- and its stored length
abbrev storing : ℕ → ℕ → ℕ → Entry
storing share limit length = record { head = 0; tail = 0; share = share; limit = limit; length = length }

-- ---- the ends

pub ends_tried_lem : (joined Front 1 (2 ∷ 3 ∷ []) ≡ three 1 2 3) × (joined Back 1 (2 ∷ 3 ∷ []) ≡ three 2 3 1)
    × (from_end Front (three 1 2 3) ≡ three 1 2 3) × (from_end Back (three 1 2 3) ≡ three 3 2 1)
    × (end_slot Front (three 1 2 3) ≡ 1 ∷ []) × (end_slot Back (three 1 2 3) ≡ 3 ∷ [])
    × (contents (three 0 10 20) (2 ∷ 1 ∷ []) ≡ 20 ∷ 10 ∷ [])
ends_tried_lem = (refl, refl, refl, refl, refl, refl, refl)

-- ---- the numbers

-- 01: "the first that applies is given"
pub first_tried : (first_that (test 1 false ∷ test 3 true ∷ test 4 true ∷ []) ≡ 3) × (first_that (test 1 false ∷ []) ≡ 0)
first_tried = (refl, refl)

-- 3 holds and 4 too: 3 is given, and neither 1, nor 4, nor 0
abbrev two_hold : List Condition
two_hold = condition 1 ⊥ ∷ condition 3 Unit ∷ condition 4 Unit ∷ []

pub given_tried : Given two_hold 3 × (Given two_hold 1 → ⊥) × (Given two_hold 4 → ⊥) × (Given two_hold 0 → ⊥)
given_tried = (three_given, λ g. omega (arith, given_only g three_given), λ g. omega (arith, given_only g three_given), λ g. omega (arith, given_only g three_given))
  where
    three_given : Given two_hold 3
    three_given = later (λ h. h) (this tt)

-- share 2 and limit 5: 6 at the limit, whatever is free; 7 under it with the share, where the free slots are what the lists lack; a slot to spare; and a list that has not its share
pub push_tried : (first_that (push_own_tests (granted 2 5) 5 1 1) ≡ 6) × (first_that (push_own_tests (granted 2 5) 4 1 1) ≡ 7) × (first_that (push_own_tests (granted 2 5) 2 0 0) ≡ 7)
    × (first_that (push_own_tests (granted 2 5) 4 1 2) ≡ 0) × (first_that (push_own_tests (granted 2 5) 1 1 1) ≡ 0)
push_tried = (refl, refl, refl, refl, refl)

pub pop_tried : (first_that (pop_own_tests 0) ≡ 5) × (first_that (pop_own_tests 1) ≡ 0)
pop_tried = (refl, refl)

-- three values in five places: from 2 on they fit, from 3 on not; none fit at the buffer's end, and not past it
pub read_tried : (first_that (read_own_tests 3 5 2) ≡ 0) × (first_that (read_own_tests 3 5 3) ≡ 8) × (first_that (read_own_tests 0 5 5) ≡ 0) × (first_that (read_own_tests 0 5 6) ≡ 8)
read_tried = (refl, refl, refl, refl)

-- ---- what the check gathers, and the faults

-- shares 2, 1 and 3: the first list has more than its share, the others lack one and two
pub lacks_tried : lacks (granted 2 5 ∷ granted 1 5 ∷ granted 3 5 ∷ []) (three 1 2 3 ∷ [] ∷ (4 ∷ []) ∷ []) ≡ 3
lacks_tried = refl

-- from the stored lengths: more than the share, the share, less
pub stored_lacks_tried : (stored_lacks (storing 2 5 3 ∷ storing 1 5 0 ∷ storing 3 5 1 ∷ []) ≡ 3) × (stored_lacks (storing 2 5 2 ∷ []) ≡ 0) × (stored_lacks (storing 65535 0 0 ∷ storing 65535 0 1 ∷ []) ≡ 131069) × (stored_lacks [] ≡ 0)
stored_lacks_tried = (refl, refl, refl, refl)

-- of three lists: 0 has three slots, of share 2 and limit 3; 1 has two, of share 4 and limit 1; 2 has one, of share 0 and limit 0. The stored lengths of 1 and 2 are wrong
abbrev gathered : Gathered
gathered = gather_one 3 2 (storing 0 0 2) 1 (gather_one 3 1 (storing 4 1 1) 2 (gather_one 3 0 (storing 2 3 3) 3 (gathered_none 3)))

pub gather_tried : (gathered.live ≡ 6) × (gathered.lacks ≡ 2) × (gathered.over ≡ 1) × (gathered.wrong ≡ 1) × (gathered.fault ≡ no_fault)
    × ((gather_fault 1 4 gathered).fault ≡ fault 11 1 4) × ((gather_fault 7 4095 gathered).fault ≡ fault 11 7 4095)
gather_tried = (refl, refl, refl, refl, refl, refl, refl)

-- the largest pool: one list has every slot, or lacks every one. Its stored length is right, one less, a bit more
pub gather_largest : ((gather_one 1 0 (storing 4095 4095 4095) 4095 (gathered_none 1)).live ≡ 4095) × ((gather_one 1 0 (storing 4095 4095 4095) 4095 (gathered_none 1)).wrong ≡ 1)
    × ((gather_one 1 0 (storing 4095 4095 4095) 0 (gathered_none 1)).lacks ≡ 4095)
    × ((gather_one 1 0 (storing 4095 4095 4094) 4095 (gathered_none 1)).wrong ≡ 0) × ((gather_one 1 0 (storing 4095 4095 36863) 4095 (gathered_none 1)).wrong ≡ 0)
gather_largest = (refl, refl, refl, refl, refl)

-- of two lists with the same fault, over the limit or with a wrong length, the first is kept, the later one's length being too large or too small; a limit of 0 hides nothing
abbrev both_wrong : ℕ → ℕ → Gathered
both_wrong first second = gather_one 2 1 (storing 0 0 second) 1 (gather_one 2 0 (storing 0 0 first) 1 (gathered_none 2))

pub lowest_kept : ((both_wrong 2 0).wrong ≡ 0) × ((both_wrong 0 0).wrong ≡ 0) × ((both_wrong 0 2).wrong ≡ 0) × ((both_wrong 1 0).wrong ≡ 1) × ((both_wrong 1 1).wrong ≡ 2) × ((both_wrong 1 1).over ≡ 0)
    × ((gather_one 1 0 (storing 0 0 5) 0 (gathered_none 1)).wrong ≡ 0)
lowest_kept = (refl, refl, refl, refl, refl, refl, refl)

-- a count in a word: from its least to its largest, and round
pub words_up_and_down : (word_up 0 ≡ 1) × (word_up 4094 ≡ 4095) × (word_up 65535 ≡ 0) × (word_down 1 ≡ 0) × (word_down 4095 ≡ 4094) × (word_down 0 ≡ 65535)
    × (word_sum 4095 0 ≡ 4095) × (word_sum 2 3 ≡ 5) × (word_sum 65535 1 ≡ 0)
words_up_and_down = (refl, refl, refl, refl, refl, refl, refl, refl, refl)

-- of slots 3, 1, 2, of which 1 is wiped, the lowest that is not is 2
pub unwiped_tried : unwiped_from (0 ∷ three 0 7 9) (three 3 1 2) 0 ≡ 2
unwiped_tried = refl

-- of slots 1 to 3 slot 1 was met; then all were; of the last two slots of the largest pool the last was not
pub unmet_tried : (lowest_unmet (0 ∷ three 1 0 0) 1 3 ≡ 2) × (lowest_unmet (0 ∷ three 1 1 1) 1 3 ≡ 4)
    × (lowest_unmet (set (replicate 4096 1) 4095 0) 4094 2 ≡ 4095)
unfolding is_met_of
unmet_tried = (refl, refl, refl)

-- what was gathered of two lists: the live slots, what is lacked, and the list over its limit, 2 for none. The stored length of list 1 is wrong
abbrev found : ℕ → ℕ → ℕ → Gathered
found live lacking over = record { fault = no_fault; live = live; lacks = lacking; over = over; wrong = 1 }

-- a fault's place goes with its own number and with no other, and so does the answer; the answer that names it has its rule, its list and its position
pub fault_places_tried : (place_for (fault 11 7 4095) 11 ≡ record { list = 7; position = 4095 }) × (place_for (fault 11 7 4095) 12 ≡ no_place)
    × (answering (fault 15 2 0) 15 ≡ record { number = 15; list = 2; position = 0 }) × (answering (fault 15 2 0) 4 ≡ record { number = 4; list = 0; position = 0 })
    × (naming (fault 14 0 9) ≡ record { number = 14; list = 0; position = 9 })
fault_places_tried = (refl, refl, refl, refl, refl)

-- four slots, of which slot 1 alone was met: each rule in its order, where the later ones are broken too, and at last none
pub faults_tried_lem : (idle_fault (0 ∷ three 1 0 0) 4 2 (found 1 9 1) false 1 3 5 ≡ fault 12 0 1) × (idle_fault (0 ∷ three 1 0 0) 4 2 (found 1 9 1) true 1 3 5 ≡ fault 13 0 2)
    × (idle_fault (0 ∷ three 1 0 0) 4 2 (found 1 9 1) true 2 3 5 ≡ fault 14 0 3) × (idle_fault (0 ∷ three 1 0 0) 4 2 (found 1 9 1) true 2 0 5 ≡ fault 15 1 0)
    × (idle_fault (0 ∷ three 1 0 0) 4 2 (found 1 3 2) true 2 0 5 ≡ fault 15 2 0) × (idle_fault (0 ∷ three 1 0 0) 4 2 (found 1 2 2) true 2 0 5 ≡ fault 16 1 0)
    × (count_fault 2 2 5 2 ≡ fault 16 2 0) × (count_fault 2 2 2 2 ≡ no_fault)
unfolding idle_fault spare_fault count_fault is_met_of
faults_tried_lem = (refl, refl, refl, refl, refl, refl, refl, refl)

-- ---- setup

pub fresh_tried : (fresh_value 0 ≡ 0) × (fresh_value 1 ≡ wipe_word) × (fresh_entry (2 ∷ 1 ∷ []) (5 ∷ 3 ∷ []) 1 ≡ granted 1 3)
    × (fresh_shape 4 2 ≡ record { chains = [] ∷ [] ∷ []; idle = three 1 2 3 })
unfolding fresh_value
fresh_tried = (refl, refl, refl, refl)

-- six slots and a book of three entries: shares 2 and 3 with limits 2 and 5 keep the rules
pub rules_kept : SetupRules 6 3 2 (three 2 3 0) (three 2 5 0)
rules_kept =
    record {
      least = lit< tt;
      most = lit< tt;
      fair = fair;
      fits = lit< tt;
      unused = unused;
    }
  where
    fair : (l : ℕ) → l < 2 → (get_or (three 2 3 0) l 0 ≤ get_or (three 2 5 0) l 0) × (get_or (three 2 5 0) l 0 < 6)
    fair zero h = (lit< tt, lit< tt)
    fair (suc zero) h = (lit< tt, lit< tt)
    fair (suc (suc l)) h = absurd (omega (arith, h))

    unused : (l : ℕ) → 2 ≤ l → l < 3 → (get_or (three 2 3 0) l 0 ≡ 0) × (get_or (three 2 5 0) l 0 ≡ 0)
    unused zero h k = absurd (omega (arith, h))
    unused (suc zero) h k = absurd (omega (arith, h))
    unused (suc (suc zero)) h k = (refl, refl)
    unused (suc (suc (suc l))) h k = absurd (omega (arith, k))

-- no list; four lists; a share over its limit; a limit of N; shares that add up to N; a share, and a limit, from L on
pub rules_broken_lem : (SetupRules 6 3 0 (three 0 0 0) (three 0 0 0) → ⊥) × (SetupRules 6 3 4 (three 0 0 0) (three 0 0 0) → ⊥)
    × (SetupRules 6 3 2 (three 2 3 0) (three 1 5 0) → ⊥) × (SetupRules 6 3 2 (three 2 3 0) (three 2 6 0) → ⊥)
    × (SetupRules 6 3 2 (three 3 3 0) (three 3 5 0) → ⊥) × (SetupRules 6 3 2 (three 2 3 1) (three 2 5 0) → ⊥) × (SetupRules 6 3 2 (three 2 3 0) (three 2 5 1) → ⊥)
rules_broken_lem = (
  λ r. omega (arith, r.least),
  λ r. omega (arith, r.most),
  λ r. omega (arith, (r.fair 0 (lit< tt)).0),
  λ r. omega (arith, (r.fair 1 (lit< tt)).1),
  λ r. omega (arith, r.fits),
  λ r. omega (arith, (r.unused 2 (lit< tt) (lit< tt)).0),
  λ r. omega (arith, (r.unused 2 (lit< tt) (lit< tt)).1),
)

-- ---- the ledger

-- 4 at the back of list 1; then 2 and 3 at the back of list 0, and 1 at its front
abbrev pushed : Ledger
pushed = noted_done (push_front 0 1) (noted_done (push_back 0 3) (noted_done (push_back 0 2) (noted_done (push_back 1 4) nothing_noted)))

-- and a pop at each end of list 0
abbrev popped : Ledger
popped = noted_done (pop_front 0) (noted_done (pop_back 0) pushed)

abbrev cleared : Ledger
cleared = noted_done (clear 0) popped

pub pushes_noted : (pushed.held 0 ≡ three 1 2 3) × (pushed.pushes 0 ≡ 3) × (pushed.pops 0 ≡ 0) × (pushed.held 1 ≡ 4 ∷ []) × (pushed.pushes 1 ≡ 1)
pushes_noted = (refl, refl, refl, refl, refl)

pub pops_noted : (popped.held 0 ≡ 2 ∷ []) × (popped.pushes 0 ≡ 3) × (popped.pops 0 ≡ 2) × (popped.held 1 ≡ 4 ∷ []) × (popped.pops 1 ≡ 0)
    × ((noted_done (pop_front 0) pushed).held 0 ≡ 2 ∷ 3 ∷ [])
pops_noted = (refl, refl, refl, refl, refl, refl)

pub clear_noted : (cleared.held 0 ≡ []) × (cleared.pushes 0 ≡ 0) × (cleared.pops 0 ≡ 0) × (cleared.held 1 ≡ 4 ∷ []) × (cleared.pushes 1 ≡ 1)
clear_noted = (refl, refl, refl, refl, refl)
