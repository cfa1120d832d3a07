-- Cases on both sides of what runs below the calls: the tests 5 to 8, the lowest slot that is not wiped, a walk, and the faults that the check gathers. Every bit of a value is tried.
use Rattle.std.specs.Prelude.{Bool, true, false, ◌&&◌, List, [], ◌∷◌, ◌++◌, map, ℕ, ◌+◌, eqb, set, replicate}
use Rattle.books.specs.Tried.{word_bits, value_bits, all_bits, same_numbers, same_answer, entry}
use Rattle.chains.specs.Chain.{cell}
use Rattle.shapes.specs.Records.{Fault}
use Rattle.shapes.specs.Numbers.{first_that}
use Rattle.shapes.specs.Tests.{push_own_tests, pop_own_tests, read_own_tests}
use Rattle.shapes.specs.Walk.{Path, walk_from, unwiped_from}
use Rattle.shapes.specs.Faults.{fault, no_fault, idle_fault}

-- what was computed, and what it must be
pub record NumberPair : Type 0 where
  pub is : ℕ
  pub must : ℕ

infixl 20 ◌is◌
abbrev ◌is◌ : ℕ → ℕ → NumberPair
n is m = record { is = n; must = m }

abbrev pub pairs_pass : List NumberPair → Bool
pairs_pass [] = true
pairs_pass (p ∷ ps) = eqb p.is p.must && pairs_pass ps

-- ---- the numbers 5 to 8

-- a push on a list with this share and limit and so many slots, where so much is lacked and so many are free
abbrev pushed : ℕ → ℕ → ℕ → ℕ → ℕ → ℕ
pushed share limit many lacking free = first_that (push_own_tests (entry 0 0 share limit many) many lacking free)

abbrev popped : ℕ → ℕ
popped many = first_that (pop_own_tests many)

-- a read of so many values into so many places, from `at` on
abbrev read_into : ℕ → ℕ → ℕ → ℕ
read_into many places at = first_that (read_own_tests many places at)

abbrev pub own_numbers : List NumberPair
own_numbers =
    -- 6: "length equals limit", whatever is free, at the least limit and at the largest
    (pushed 0 0 0 0 0 is 6)
    ∷ (pushed 0 0 0 0 9 is 6)
    ∷ (pushed 1 1 1 0 9 is 6)
    ∷ (pushed 0 4095 4095 0 0 is 6)
    ∷ (pushed 4095 4095 4095 0 9 is 6)
    -- one below the limit
    ∷ (pushed 0 1 0 0 1 is 0)
    ∷ (pushed 0 4095 4094 0 1 is 0)
    ∷ (pushed 1 2 1 0 1 is 0)
    -- 7: "length at least the share": at the share and over it, and one below it
    ∷ (pushed 2 5 2 1 1 is 7)
    ∷ (pushed 2 5 3 1 1 is 7)
    ∷ (pushed 0 5 0 1 1 is 7)
    ∷ (pushed 3 5 2 1 1 is 0)
    ∷ (pushed 5 5 4 1 1 is 0)
    ∷ (pushed 4095 4095 4094 1 1 is 0)
    -- 7: "free slots no more than the sum of lacks": none, as many, one more
    ∷ (pushed 2 5 2 0 0 is 7)
    ∷ (pushed 2 5 2 0 1 is 0)
    ∷ (pushed 2 5 2 3 2 is 7)
    ∷ (pushed 2 5 2 3 3 is 7)
    ∷ (pushed 2 5 2 3 4 is 0)
    ∷ (pushed 0 4095 0 4095 4095 is 7)
    ∷ (pushed 0 4095 0 4094 4095 is 0)
    -- 5: "the list is empty"
    ∷ (popped 0 is 5)
    ∷ (popped 1 is 0)
    ∷ (popped 2 is 0)
    ∷ (popped 4095 is 0)
    -- 8: "`at` past the buffer's end, or fewer than length places from `at`"
    ∷ (read_into 3 5 0 is 0)
    ∷ (read_into 3 5 2 is 0)
    ∷ (read_into 3 5 3 is 8)
    ∷ (read_into 3 5 5 is 8)
    ∷ (read_into 3 5 6 is 8)
    ∷ (read_into 5 5 0 is 0)
    ∷ (read_into 6 5 0 is 8)
    ∷ (read_into 0 5 0 is 0)
    ∷ (read_into 0 5 4 is 0)
    ∷ (read_into 0 5 5 is 0)
    ∷ (read_into 0 5 6 is 8)
    ∷ (read_into 0 0 0 is 0)
    ∷ (read_into 0 0 1 is 8)
    ∷ (read_into 1 0 0 is 8)
    ∷ (read_into 4095 4096 1 is 0)
    ∷ (read_into 4095 4096 2 is 8)
    -- a place so far on that the place of the last value would be a small number again
    ∷ (read_into 3 5 all_bits is 8)
    ∷ map (λ b. read_into 0 5 (5 + b) is 8) value_bits
    -- each bit of a length, a limit, a share and of how many are free
    ++ map (λ b. popped b is 0) word_bits
    ++ map (λ b. pushed 0 (b + 3) 3 0 1 is 0) word_bits
    ++ map (λ b. pushed (b + 3) (b + 3) 3 9 9 is 0) word_bits
    ++ map (λ b. pushed 0 9 3 3 (b + 3) is 0) word_bits
    ++ map (λ b. pushed 0 9 3 (b + 3) 3 is 7) word_bits

-- ---- the free slots that are not wiped

-- 01: "every free slot's value is 0": which of the slots is found, 0 for none. Every bit of a value counts, in any slot, and no other slot's does
abbrev pub unwiped_slots : List NumberPair
unwiped_slots =
    (unwiped_from (0 ∷ 0 ∷ 0 ∷ 0 ∷ []) (1 ∷ 2 ∷ 3 ∷ []) 0 is 0)
    ∷ (unwiped_from (9 ∷ 9 ∷ 0 ∷ 9 ∷ []) (2 ∷ []) 0 is 0)
    ∷ (unwiped_from (0 ∷ 1 ∷ 0 ∷ 0 ∷ []) (1 ∷ 2 ∷ 3 ∷ []) 0 is 1)
    ∷ (unwiped_from (0 ∷ 0 ∷ 1 ∷ 0 ∷ []) (1 ∷ 2 ∷ 3 ∷ []) 0 is 2)
    ∷ (unwiped_from (0 ∷ 0 ∷ 0 ∷ 1 ∷ []) (1 ∷ 2 ∷ 3 ∷ []) 0 is 3)
    ∷ (unwiped_from (0 ∷ 0 ∷ 1 ∷ 1 ∷ []) (3 ∷ 2 ∷ 1 ∷ []) 0 is 2)
    ∷ (unwiped_from (0 ∷ 1 ∷ 1 ∷ 1 ∷ []) (3 ∷ 1 ∷ 2 ∷ []) 0 is 1)
    ∷ (unwiped_from (0 ∷ all_bits ∷ []) (1 ∷ []) 0 is 1)
    -- in the last slot of the largest pool
    ∷ (unwiped_from (set (replicate 4096 0) 4095 9223372036854775808) (4095 ∷ []) 0 is 4095)
    ∷ (unwiped_from (replicate 4096 0) (4095 ∷ []) 0 is 0)
    ∷ map (λ b. unwiped_from (0 ∷ b ∷ []) (1 ∷ []) 0 is 1) value_bits
    ++ map (λ b. unwiped_from (0 ∷ 0 ∷ 0 ∷ b ∷ []) (1 ∷ 3 ∷ 2 ∷ []) 0 is 3) value_bits

-- ---- a walk

-- a walk in a pool of N slots, along the links `next`, where the slots of `met` that are not 0 were met and where `bad` does not fit: it must come to its end or not, and pass these slots
pub record WalkCase : Type 0 where
  pub path : Path
  pub ended : Bool
  pub slots : List ℕ

abbrev walk : List ℕ → ℕ → ℕ → List ℕ → ℕ → Bool → List ℕ → WalkCase
walk next size bad met head ended slots = record { path = walk_from (λ p x. cell next x) (λ p x. neither (eqb x bad)) size met head; ended = ended; slots = slots }
  where
    neither : Bool → Bool
    neither true = false
    neither false = true

abbrev five : ℕ → ℕ → ℕ → ℕ → ℕ → List ℕ
five a b c d e = a ∷ b ∷ c ∷ d ∷ e ∷ []

abbrev pub walks_tried : List WalkCase
walks_tried =
    -- none; one; all, in any order
    walk (five 0 2 3 4 0) 5 9 (replicate 5 0) 0 true []
    ∷ walk (five 0 2 3 4 0) 5 9 (replicate 5 0) 4 true (4 ∷ [])
    ∷ walk (five 0 3 0 4 2) 5 9 (replicate 5 0) 1 true (1 ∷ 3 ∷ 4 ∷ 2 ∷ [])
    -- a head of N and one more; a link of N; a link of a 16-bit word's last bit
    ∷ walk (five 0 2 3 4 0) 5 9 (replicate 5 0) 5 false []
    ∷ walk (five 0 2 3 4 0) 5 9 (replicate 5 0) 6 false []
    ∷ walk (five 0 2 3 5 0) 5 9 (replicate 5 0) 1 false (1 ∷ 2 ∷ 3 ∷ [])
    ∷ walk (five 0 2 32768 4 0) 5 9 (replicate 5 0) 1 false (1 ∷ 2 ∷ [])
    -- it comes back to a slot: the same one, the first, one that was met before
    ∷ walk (five 0 1 3 4 0) 5 9 (replicate 5 0) 1 false (1 ∷ [])
    ∷ walk (five 0 2 3 4 1) 5 9 (replicate 5 0) 1 false (1 ∷ 2 ∷ 3 ∷ 4 ∷ [])
    ∷ walk (five 0 2 3 4 0) 5 9 (five 0 0 0 1 0) 1 false (1 ∷ 2 ∷ [])
    ∷ walk (five 0 2 3 4 0) 5 9 (five 0 1 0 0 0) 1 false []
    -- a slot whose links do not fit: the first, and a later one
    ∷ walk (five 0 2 3 4 0) 5 1 (replicate 5 0) 1 false []
    ∷ walk (five 0 2 3 4 0) 5 4 (replicate 5 0) 1 false (1 ∷ 2 ∷ 3 ∷ [])
    -- the record has a place too few, or too many, or says that the null slot was met
    ∷ walk (five 0 2 3 4 0) 5 9 (replicate 4 0) 1 false []
    ∷ walk (five 0 2 3 4 0) 5 9 (replicate 6 0) 1 false []
    ∷ walk (five 0 2 3 4 0) 5 9 (five 1 0 0 0 0) 1 false []
    ∷ []

abbrev pub walks_pass : List WalkCase → Bool
walks_pass [] = true
walks_pass (w ∷ ws) = same_answer w.path.ok w.ended && (same_numbers w.path.slots w.slots && walks_pass ws)

-- ---- the faults

-- a fault, and what it must be
pub record FaultPair : Type 0 where
  pub found : Fault
  pub must : Fault

-- N slots, of which none is marked as met, and L lists: the live slots, what is lacked, the list over its limit, L for none, the list whose stored length is wrong, L for none, whether the free walk ended, how many are free, the lowest that is not wiped, and the stored count of the free slots
abbrev counts : ℕ → ℕ → ℕ → ℕ → ℕ → ℕ → Bool → ℕ → ℕ → ℕ → Fault → FaultPair
counts size lists live lacking over wrong ended free unwiped stored must =
    record { found = idle_fault (replicate size 0) size lists (record { fault = no_fault; live = live; lacks = lacking; over = over; wrong = wrong }) ended free unwiped stored; must = must }

-- where every stored count is right
abbrev gave : ℕ → ℕ → ℕ → ℕ → ℕ → Bool → ℕ → ℕ → Fault → FaultPair
gave size lists live lacking over ended free unwiped must = counts size lists live lacking over lists ended free unwiped free must

abbrev pub faults_tried : List FaultPair
faults_tried =
    -- none: live and free slots are N-1 together, and the free ones cover what is lacked, just so and with some to spare
    gave 6 2 3 2 2 true 2 0 no_fault
    ∷ gave 6 2 3 0 2 true 2 0 no_fault
    ∷ gave 6 2 0 5 2 true 5 0 no_fault
    ∷ gave 6 2 5 0 2 true 0 0 no_fault
    ∷ gave 4096 8 4095 0 8 true 0 0 no_fault
    ∷ gave 4096 8 0 4095 8 true 4095 0 no_fault
    -- 12: the free walk did not end
    ∷ gave 6 2 3 2 2 false 2 0 (fault 12 0 2)
    ∷ gave 4096 8 0 0 8 false 4095 0 (fault 12 0 4095)
    -- 12 before a list over its limit and uncovered shares, and before a slot of the walk that is not wiped
    ∷ gave 6 2 3 9 0 false 2 1 (fault 12 0 2)
    -- 13: a slot too few, and one too many
    ∷ gave 6 2 2 2 2 true 2 0 (fault 13 0 1)
    ∷ gave 6 2 3 2 2 true 3 0 (fault 13 0 1)
    ∷ gave 6 2 4 1 2 true 2 0 (fault 13 0 1)
    -- 14: any slot that is not wiped
    ∷ gave 6 2 3 2 2 true 2 1 (fault 14 0 1)
    ∷ gave 6 2 3 2 2 true 2 5 (fault 14 0 5)
    ∷ gave 4096 8 0 0 8 true 4095 4095 (fault 14 0 4095)
    -- 13 before a list over its limit, 14 before one, and both before uncovered shares where no list is over
    ∷ gave 6 2 2 2 0 true 2 0 (fault 13 0 1)
    ∷ gave 6 2 2 3 2 true 2 0 (fault 13 0 1)
    ∷ gave 6 2 3 2 0 true 2 5 (fault 14 0 5)
    ∷ gave 6 2 3 3 2 true 2 5 (fault 14 0 5)
    -- 15: any list that is over its limit; L, where one slot more is lacked than is free
    ∷ gave 6 2 3 2 0 true 2 0 (fault 15 0 0)
    ∷ gave 6 2 3 2 1 true 2 0 (fault 15 1 0)
    ∷ gave 6 8 3 2 7 true 2 0 (fault 15 7 0)
    ∷ gave 6 2 3 3 2 true 2 0 (fault 15 2 0)
    ∷ gave 6 2 5 1 2 true 0 0 (fault 15 2 0)
    ∷ gave 4096 8 0 4096 8 true 4095 0 (fault 15 8 0)
    -- 16: any list whose stored length is wrong, before the free count; L, where the free count alone is, by one or by a bit
    ∷ counts 6 2 3 2 2 0 true 2 0 2 (fault 16 0 0)
    ∷ counts 6 2 3 2 2 1 true 2 0 2 (fault 16 1 0)
    ∷ counts 6 8 3 2 8 7 true 2 0 3 (fault 16 7 0)
    ∷ counts 6 2 3 2 2 2 true 2 0 3 (fault 16 2 0)
    ∷ counts 6 2 3 2 2 2 true 2 0 1 (fault 16 2 0)
    ∷ counts 6 8 5 0 8 8 true 0 0 1 (fault 16 8 0)
    ∷ counts 4096 8 0 0 8 8 true 4095 0 0 (fault 16 8 0)
    -- 12 to 15 before 16
    ∷ counts 6 2 3 2 2 0 false 2 0 9 (fault 12 0 2)
    ∷ counts 6 2 2 2 2 0 true 2 0 9 (fault 13 0 1)
    ∷ counts 6 2 3 2 2 0 true 2 5 9 (fault 14 0 5)
    ∷ counts 6 2 3 2 1 0 true 2 0 9 (fault 15 1 0)
    ∷ counts 6 2 3 3 2 0 true 2 0 9 (fault 15 2 0)
    ∷ map (λ b. counts 6 2 3 2 2 2 true 2 0 (2 + b) (fault 16 2 0)) word_bits

abbrev pub faults_pass : List FaultPair → Bool
faults_pass [] = true
faults_pass (f ∷ fs) = eqb f.found.rule f.must.rule && (eqb f.found.list f.must.list && (eqb f.found.place f.must.place && faults_pass fs))
