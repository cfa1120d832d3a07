-- Pools over the engine `trial` with their first fault: the rule of 02 b) and c), the list and the place. Pools of many slots stand in crate cases, since they take long to compute.
use Rattle.std.specs.Prelude.{Bool, true, ◌&&◌, List, [], ◌∷◌, ℕ, eqb, length, set, replicate}
use Rattle.books.specs.declared.Entry.{Entry}
use Rattle.books.specs.Tried.{entry, none}
use Rattle.shapes.specs.Records.{Fault}
use Rattle.shapes.specs.Faults.{fault, no_fault, round}
use Rattle.engines.specs.Check.{idle_found, check_found}
use Rattle.engines.specs.Moves.{State}
use Rattle.engines.specs.Trial.{trial, counted_pool, pool}

-- a pool with its book, and its first fault
pub record FaultCase : Type 0 where
  pub first : Fault
  pub state : State trial

abbrev fault_case : ℕ → ℕ → ℕ → List ℕ → List ℕ → List ℕ → ℕ → List Entry → ℕ → FaultCase
fault_case rule list place next previous values lists entries free = record { first = fault rule list place; state = pool next previous values lists entries free }

-- and the stored count of the free slots
abbrev counted : ℕ → ℕ → ℕ → List ℕ → List ℕ → List ℕ → ℕ → List Entry → ℕ → ℕ → FaultCase
counted rule list place next previous values lists entries free count = record { first = fault rule list place; state = counted_pool next previous values lists entries free count }

abbrev two : ℕ → ℕ → List ℕ
two a b = a ∷ b ∷ []

abbrev three : ℕ → ℕ → ℕ → List ℕ
three a b c = a ∷ b ∷ c ∷ []

abbrev four : ℕ → ℕ → ℕ → ℕ → List ℕ
four a b c d = a ∷ b ∷ c ∷ d ∷ []

abbrev five : ℕ → ℕ → ℕ → ℕ → ℕ → List ℕ
five a b c d e = a ∷ b ∷ c ∷ d ∷ e ∷ []

abbrev pub fault_pools : List FaultCase
fault_pools =
    -- no fault: a list of two slots
    fault_case 0 0 0 (three 0 2 0) (three 0 0 1) (three 0 8 9) 1 (entry 1 2 0 2 2 ∷ none 7) 0
    -- rule 9 goes before rule 10, by each of its clauses, and rule 10 before rule 11: slot 0's links and its value
    ∷ fault_case 9 0 0 (two 1 0) (two 0 0) (two 0 0) 1 (entry 0 0 1 0 0 ∷ none 7) 1
    ∷ fault_case 9 0 0 (two 1 0) (two 0 0) (two 0 0) 1 (entry 0 0 0 2 0 ∷ none 7) 1
    ∷ fault_case 9 0 0 (two 1 0) (two 0 0) (two 0 0) 1 (entry 0 0 0 1 0 ∷ entry 0 0 0 1 0 ∷ none 6) 1
    ∷ fault_case 9 0 0 (two 1 0) (two 0 0) (two 0 0) 2 (entry 0 0 1 1 0 ∷ entry 0 0 1 1 0 ∷ none 6) 1
    ∷ fault_case 9 0 0 (two 1 0) (two 0 0) (two 0 0) 9 (none 8) 1
    ∷ fault_case 10 0 0 (two 1 0) (two 0 0) (two 0 0) 1 (entry 0 1 0 1 0 ∷ none 7) 1
    ∷ fault_case 10 0 0 (two 0 0) (two 1 0) (two 0 0) 1 (entry 0 1 0 1 0 ∷ none 7) 1
    ∷ fault_case 10 0 0 (two 0 0) (two 0 0) (two 1 0) 1 (entry 0 1 0 1 0 ∷ none 7) 1
    -- rule 11: a tail without a head; a head without a tail; a slot past the pool, at the head and behind it
    ∷ fault_case 11 0 0 (two 0 0) (two 0 0) (two 0 0) 1 (entry 0 1 0 1 0 ∷ none 7) 1
    ∷ fault_case 11 0 1 (two 0 0) (two 0 0) (two 0 5) 1 (entry 1 0 0 1 1 ∷ none 7) 0
    ∷ fault_case 11 0 0 (two 0 0) (two 0 0) (two 0 0) 1 (entry 2 1 0 1 2 ∷ none 7) 0
    ∷ fault_case 11 0 1 (two 0 2) (two 0 0) (two 0 5) 1 (entry 1 1 0 1 1 ∷ none 7) 0
    -- the chain comes back to a slot; it goes on behind the tail; it ends before the tail
    ∷ fault_case 11 0 2 (three 0 2 1) (three 0 0 1) (three 0 8 9) 1 (entry 1 2 0 2 2 ∷ none 7) 0
    ∷ fault_case 11 0 2 (three 0 2 0) (three 0 0 1) (three 0 8 9) 1 (entry 1 1 0 2 1 ∷ none 7) 0
    ∷ fault_case 11 0 1 (three 0 0 0) (three 0 0 0) (three 0 8 0) 1 (entry 1 2 0 2 2 ∷ none 7) 2
    -- it goes on behind the tail, to a slot past the pool and back to a slot; the tail is the head
    ∷ fault_case 11 0 2 (three 0 2 3) (three 0 0 1) (three 0 8 9) 1 (entry 1 1 0 2 1 ∷ none 7) 0
    ∷ fault_case 11 0 2 (three 0 2 1) (three 0 0 1) (three 0 8 9) 1 (entry 1 1 0 2 1 ∷ none 7) 0
    -- slot N-1 is one of the pool, N is not: at the head, behind it, and as a tail that is never come to
    ∷ fault_case 0 0 0 (three 0 0 0) (three 0 0 0) (three 0 0 9) 1 (entry 2 2 0 2 1 ∷ none 7) 1
    ∷ fault_case 11 0 0 (three 0 0 0) (three 0 0 0) (three 0 0 9) 1 (entry 3 2 0 2 3 ∷ none 7) 1
    ∷ fault_case 11 0 1 (three 0 3 0) (three 0 0 1) (three 0 8 9) 1 (entry 1 2 0 2 2 ∷ none 7) 0
    ∷ fault_case 11 0 2 (three 0 2 0) (three 0 0 1) (three 0 8 9) 1 (entry 1 3 0 2 3 ∷ none 7) 0
    -- 02 f): a wrong previous link, at the position of its slot
    ∷ fault_case 11 0 0 (three 0 2 0) (three 0 2 1) (three 0 8 9) 1 (entry 1 2 0 2 2 ∷ none 7) 0
    ∷ fault_case 11 0 1 (three 0 2 0) (three 0 0 2) (three 0 8 9) 1 (entry 1 2 0 2 2 ∷ none 7) 0
    -- a slot of list 0 in list 1: at its head, and behind it. List 0's fault goes before list 1's, and list 1's before list 2's
    ∷ fault_case 11 1 0 (two 0 0) (two 0 0) (two 0 5) 2 (entry 1 1 0 1 1 ∷ entry 1 1 0 1 1 ∷ none 6) 0
    ∷ fault_case 11 1 1 (three 0 0 1) (three 0 0 0) (three 0 8 9) 2 (entry 1 1 0 2 1 ∷ entry 2 1 0 2 2 ∷ none 6) 0
    ∷ fault_case 11 0 1 (two 0 0) (two 0 0) (two 0 5) 2 (entry 1 0 0 1 1 ∷ entry 1 1 0 1 1 ∷ none 6) 0
    ∷ fault_case 11 1 0 (two 0 0) (two 0 0) (two 0 5) 3 (entry 1 1 0 1 1 ∷ entry 0 1 0 1 0 ∷ entry 1 1 0 1 1 ∷ none 5) 0
    -- the wrong tail of list 0 goes before a slot of it in list 1, and before list 1's own wrong tail; after a whole list 0 the position in list 1 is its own
    ∷ fault_case 11 0 2 (three 0 2 0) (three 0 0 1) (three 0 8 9) 2 (entry 1 1 0 2 1 ∷ entry 2 2 0 2 1 ∷ none 6) 0
    ∷ fault_case 11 0 0 (three 0 0 0) (three 0 0 0) (three 0 8 9) 2 (entry 0 1 0 2 0 ∷ entry 1 2 0 2 2 ∷ none 6) 2
    ∷ fault_case 11 1 1 (three 0 0 0) (three 0 0 0) (three 0 8 9) 2 (entry 1 1 0 2 1 ∷ entry 2 1 0 2 2 ∷ none 6) 0
    ∷ fault_case 11 1 2 (five 0 2 0 4 0) (five 0 0 1 0 3) (five 0 6 7 8 9) 2 (entry 1 2 0 4 2 ∷ entry 3 3 0 4 1 ∷ none 6) 0
    ∷ fault_case 11 1 2 (five 0 2 0 4 2) (five 0 0 1 0 3) (five 0 6 7 8 9) 2 (entry 1 2 0 4 2 ∷ entry 3 2 0 4 3 ∷ none 6) 0
    -- a slot in two lists is met in the later one: list 0 goes on into list 1's slot, list 2 into list 0's, over an empty list
    ∷ fault_case 11 1 0 (three 0 2 0) (three 0 0 1) (three 0 8 9) 2 (entry 1 2 0 2 2 ∷ entry 2 2 0 2 1 ∷ none 6) 0
    ∷ fault_case 11 2 0 (three 0 0 0) (three 0 0 0) (three 0 8 9) 3 (entry 1 1 0 2 1 ∷ entry 2 2 0 2 1 ∷ entry 1 1 0 2 1 ∷ none 5) 0
    ∷ fault_case 11 2 1 (three 0 0 1) (three 0 0 0) (three 0 8 9) 3 (entry 1 1 0 2 1 ∷ entry 0 0 0 2 0 ∷ entry 2 1 0 2 2 ∷ none 5) 0
    ∷ fault_case 0 0 0 (three 0 0 0) (three 0 0 0) (three 0 8 9) 3 (entry 1 1 0 2 1 ∷ entry 0 0 0 2 0 ∷ entry 2 2 0 2 1 ∷ none 5) 0
    -- the wrong tail of list 1, where list 0 is over its limit; slot N at list 1's head, and behind it
    ∷ fault_case 11 1 1 (three 0 0 0) (three 0 0 0) (three 0 8 9) 2 (entry 1 1 0 0 1 ∷ entry 2 1 0 2 2 ∷ none 6) 0
    ∷ fault_case 11 1 0 (three 0 0 0) (three 0 0 0) (three 0 8 0) 2 (entry 1 1 0 2 1 ∷ entry 3 2 0 2 3 ∷ none 6) 2
    ∷ fault_case 11 1 1 (three 0 0 3) (three 0 0 0) (three 0 8 9) 2 (entry 1 1 0 2 1 ∷ entry 2 1 0 2 2 ∷ none 6) 0
    -- rule 12: a free head past the pool; a free chain that comes back; one that leaves the pool; one that goes into a list; a previous link; behind a wiped slot
    ∷ fault_case 12 0 0 (two 0 0) (two 0 0) (two 0 0) 1 (entry 0 0 0 1 0 ∷ none 7) 7
    ∷ fault_case 12 0 1 (two 0 1) (two 0 0) (two 0 0) 1 (entry 0 0 0 1 0 ∷ none 7) 1
    ∷ fault_case 12 0 1 (two 0 2) (two 0 0) (two 0 0) 1 (entry 0 0 0 1 0 ∷ none 7) 1
    ∷ fault_case 12 0 1 (three 0 0 1) (three 0 0 0) (three 0 8 0) 1 (entry 1 1 0 2 1 ∷ none 7) 2
    ∷ fault_case 12 0 0 (two 0 0) (two 0 1) (two 0 0) 1 (entry 0 0 0 1 0 ∷ none 7) 1
    ∷ fault_case 12 0 1 (three 0 2 0) (three 0 0 1) (three 0 0 0) 1 (entry 0 0 0 2 0 ∷ none 7) 1
    -- free slot N-1 is one of the pool, N is not, and is named before a slot that is nowhere; the chain comes back to its head and to a later slot
    ∷ fault_case 0 0 0 (three 0 2 0) (three 0 0 0) (three 0 0 0) 1 (entry 0 0 0 2 0 ∷ none 7) 1
    ∷ fault_case 12 0 1 (three 0 3 0) (three 0 0 0) (three 0 0 0) 1 (entry 0 0 0 2 0 ∷ none 7) 1
    ∷ fault_case 12 0 2 (three 0 2 1) (three 0 0 0) (three 0 0 0) 1 (entry 0 0 0 2 0 ∷ none 7) 1
    ∷ fault_case 12 0 2 (three 0 2 2) (three 0 0 0) (three 0 0 0) 1 (entry 0 0 0 2 0 ∷ none 7) 1
    -- a slot of list 0 and of list 1 in the free chain: at its head, and behind it. A list's fault goes before the free chain's
    ∷ fault_case 12 0 0 (three 0 0 0) (three 0 0 0) (three 0 8 9) 2 (entry 1 1 0 2 1 ∷ entry 2 2 0 2 1 ∷ none 6) 1
    ∷ fault_case 12 0 0 (three 0 0 0) (three 0 0 0) (three 0 8 9) 2 (entry 1 1 0 2 1 ∷ entry 2 2 0 2 1 ∷ none 6) 2
    ∷ fault_case 12 0 1 (four 0 0 0 2) (four 0 0 0 0) (four 0 8 9 0) 2 (entry 1 1 0 3 1 ∷ entry 2 2 0 3 1 ∷ none 6) 3
    ∷ fault_case 11 1 1 (three 0 0 0) (three 0 0 0) (three 0 8 9) 2 (entry 1 1 0 2 1 ∷ entry 2 1 0 2 2 ∷ none 6) 3
    -- rule 12 goes before a walked slot that has a value, a list over its limit, and shares that are not covered
    ∷ fault_case 12 0 1 (three 0 3 0) (three 0 0 0) (three 0 6 0) 1 (entry 0 0 0 2 0 ∷ none 7) 1
    ∷ fault_case 12 0 1 (three 0 0 3) (three 0 0 0) (three 0 8 0) 1 (entry 1 1 0 0 1 ∷ none 7) 2
    ∷ fault_case 12 0 1 (three 0 0 3) (three 0 0 0) (three 0 8 0) 2 (entry 1 1 0 2 1 ∷ entry 0 0 2 2 0 ∷ none 6) 2
    -- rule 13: the lowest slot that is nowhere, before a free slot that has a value
    ∷ fault_case 13 0 1 (three 0 0 0) (three 0 0 0) (three 0 0 9) 1 (entry 0 0 0 2 0 ∷ none 7) 2
    ∷ fault_case 13 0 2 (four 0 0 0 0) (four 0 0 0 0) (four 0 0 0 0) 1 (entry 1 1 0 3 1 ∷ none 7) 0
    ∷ fault_case 13 0 3 (four 0 2 0 0) (four 0 0 0 0) (four 0 0 0 0) 1 (entry 0 0 0 3 0 ∷ none 7) 1
    -- before a list over its limit, and before shares that are not covered
    ∷ fault_case 13 0 2 (three 0 0 0) (three 0 0 0) (three 0 8 0) 1 (entry 1 1 0 0 1 ∷ none 7) 0
    ∷ fault_case 13 0 2 (three 0 0 0) (three 0 0 0) (three 0 8 0) 2 (entry 1 1 0 2 1 ∷ entry 0 0 1 1 0 ∷ none 6) 0
    -- rule 14: slots 3, 1 and 2 are free in this order, 3 and 2 have values: the lowest slot is named, before a list over its limit
    ∷ fault_case 14 0 2 (four 0 2 0 1) (four 0 0 0 0) (four 0 0 8 9) 1 (entry 0 0 0 3 0 ∷ none 7) 3
    ∷ fault_case 14 0 1 (three 0 0 0) (three 0 0 0) (three 0 1 5) 1 (entry 2 2 0 0 1 ∷ none 7) 1
    -- and, where no list is over its limit, before shares that are not covered
    ∷ fault_case 14 0 2 (three 0 0 0) (three 0 0 0) (three 0 8 7) 2 (entry 1 1 0 2 1 ∷ entry 0 0 2 2 0 ∷ none 6) 2
    -- rule 15: lists 1 and 2 are over their limits; lists 0 and 1 are; no list is, and the free slots do not cover the lacks: L stands for the list
    ∷ fault_case 15 1 0 (four 0 0 0 0) (four 0 0 0 0) (four 0 8 9 7) 3 (entry 1 1 0 1 1 ∷ entry 2 2 0 0 1 ∷ entry 3 3 0 0 1 ∷ none 5) 0
    ∷ fault_case 15 0 0 (three 0 0 0) (three 0 0 0) (three 0 8 9) 2 (entry 1 1 0 0 1 ∷ entry 2 2 0 0 1 ∷ none 6) 0
    ∷ fault_case 15 2 0 (three 0 2 0) (three 0 0 1) (three 0 8 8) 2 (entry 1 2 0 2 2 ∷ entry 0 0 1 1 0 ∷ none 6) 0
    -- rule 16, after each of the others: with a list over its limit, shares that are not covered, a free slot that has a value, one that is nowhere, a broken free chain and a broken list
    ∷ counted 16 0 0 (three 0 0 0) (three 0 0 0) (three 0 8 0) 2 (entry 1 1 0 2 0 ∷ entry 0 0 1 1 1 ∷ none 6) 2 9
    ∷ counted 16 1 0 (three 0 0 0) (three 0 0 0) (three 0 8 0) 2 (entry 1 1 0 2 1 ∷ entry 0 0 1 1 1 ∷ none 6) 2 9
    ∷ counted 16 2 0 (three 0 0 0) (three 0 0 0) (three 0 8 0) 2 (entry 1 1 0 2 1 ∷ entry 0 0 1 1 0 ∷ none 6) 2 9
    ∷ counted 0 0 0 (three 0 0 0) (three 0 0 0) (three 0 8 0) 2 (entry 1 1 0 2 1 ∷ entry 0 0 1 1 0 ∷ none 6) 2 1
    ∷ counted 15 0 0 (three 0 0 0) (three 0 0 0) (three 0 8 0) 2 (entry 1 1 0 0 0 ∷ entry 0 0 1 1 1 ∷ none 6) 2 9
    ∷ counted 15 2 0 (three 0 0 0) (three 0 0 0) (three 0 8 0) 2 (entry 1 1 0 2 0 ∷ entry 0 0 2 2 2 ∷ none 6) 2 9
    ∷ counted 14 0 2 (three 0 0 0) (three 0 0 0) (three 0 8 7) 2 (entry 1 1 0 2 0 ∷ entry 0 0 1 1 1 ∷ none 6) 2 9
    ∷ counted 13 0 2 (three 0 0 0) (three 0 0 0) (three 0 8 0) 2 (entry 1 1 0 2 2 ∷ entry 0 0 1 1 1 ∷ none 6) 0 0
    ∷ counted 12 0 1 (three 0 0 2) (three 0 0 0) (three 0 8 0) 2 (entry 1 1 0 2 0 ∷ entry 0 0 1 1 1 ∷ none 6) 2 9
    ∷ counted 11 0 1 (three 0 0 0) (three 0 0 0) (three 0 8 0) 2 (entry 1 2 0 2 0 ∷ entry 0 0 1 1 1 ∷ none 6) 2 9
    ∷ counted 10 0 0 (three 0 0 0) (three 0 0 0) (three 1 8 0) 2 (entry 1 1 0 2 0 ∷ entry 0 0 1 1 1 ∷ none 6) 2 9
    ∷ counted 9 0 0 (three 0 0 0) (three 0 0 0) (three 0 8 0) 1 (entry 1 1 0 2 1 ∷ entry 0 0 0 0 1 ∷ none 6) 2 1
    -- the largest pool: a head, and a free head, of N
    ∷ fault_case 11 0 0 (replicate 4096 0) (replicate 4096 0) (replicate 4096 0) 1 (entry 4096 4096 0 4095 1 ∷ none 7) 0
    ∷ fault_case 12 0 0 (replicate 4096 0) (replicate 4096 0) (replicate 4096 0) 1 (entry 0 0 0 4095 0 ∷ none 7) 4096
    ∷ fault_case 9 0 0 (replicate 4096 0) (replicate 4096 0) (replicate 4096 0) 1 (entry 0 0 0 4096 0 ∷ none 7) 1
    ∷ fault_case 9 0 0 (replicate 4096 0) (replicate 4096 0) (replicate 4096 0) 1 (entry 0 0 65535 65535 0 ∷ none 7) 1
    ∷ []

-- does the check find each at its place?
abbrev pub faults_found : List FaultCase → Bool
faults_found [] = true
faults_found (b ∷ bs) =
    let found = (check_found trial b.state.links b.state.values b.state.book).fault in
    eqb found.rule b.first.rule && (eqb found.list b.first.list && (eqb found.place b.first.place && faults_found bs))

-- ---- the largest pool, once its walks are made: so many are live, the free slots are `slots`, and the last slot holds this value
abbrev pub last_holds : ℕ → ℕ → List ℕ → Fault
last_holds value live slots =
    (idle_found 4096 (set (replicate 4096 0) 4095 value) (record { head = 0; count = length slots }) 1 (round (record { fault = no_fault; live = live; lacks = 0; over = 1; wrong = 1 }) (replicate 4096 1)) (record { ok = true; slots = slots })).fault

-- and what the check finds there: 4,095 free slots, of which as many are lacked, or as many live ones; and the stored count of the free ones
abbrev pub largest_found : ℕ → ℕ → List ℕ → ℕ → List ℕ
largest_found live lacking slots count =
    let found = idle_found 4096 [] (record { head = 1; count = count }) 1 (round (record { fault = no_fault; live = live; lacks = lacking; over = 1; wrong = 1 }) (replicate 4096 0)) (record { ok = true; slots = slots }) in
    found.fault.rule ∷ found.lacks ∷ []
