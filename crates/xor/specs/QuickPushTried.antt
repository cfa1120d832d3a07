-- Quick pushes of the XOR list on both sides of each of 02 d)'s tests: 6, 7, "17 .. after 7 for the rest", and what a done one leaves on damaged cells.
use Rattle.std.specs.Prelude.{cond, List, [], ◌∷◌, ◌++◌, map, ℕ, ◌+◌, ◌-◌, eqb}
use Rattle.books.specs.declared.Entry.{Entry}
use Rattle.books.specs.Tried.{doubles, word_bits, value_bits, all_bits, numbers_from, entry, none}
use Rattle.shapes.specs.Moves.{quick_push_back, quick_push_front}
use Rattle.xor.specs.Moves.{Pool}
use Rattle.xor.specs.QuickTried.{QuickCase, turn, refused, quick_pushes, joined_cases, lent_pool, six_cells}

-- ---- 6 and 7

-- N = 6: list 0 has slots 1 and 2, and slots 4 and 5 are free. Its share, limit and stored length, the entries of the other lists, L and the free count are to be tried
abbrev pushing : (share limit length lists : ℕ) → List Entry → (count : ℕ) → Pool
pushing share limit length lists others count = lent_pool (six_cells 0 2 1 0 5 0) (six_cells 0 10 20 30 0 0) lists (entry 1 2 share limit length ∷ others) 4 count

abbrev done_pushes : (share limit length lists : ℕ) → List Entry → (count : ℕ) → List QuickCase
done_pushes share limit length lists others count =
    turn (pushing share limit length lists others count) (quick_push_back 0 all_bits) 0 0 (lent_pool (six_cells 0 2 5 0 2 0) (six_cells 0 10 20 30 all_bits 0) lists (entry 1 4 share limit (length + 1) ∷ others) 5 (count - 1))
    ∷ turn (pushing share limit length lists others count) (quick_push_front 0 all_bits) 0 0 (lent_pool (six_cells 0 6 1 0 1 0) (six_cells 0 10 20 30 all_bits 0) lists (entry 4 2 share limit (length + 1) ∷ others) 5 (count - 1))
    ∷ []

abbrev not_pushed : (number share limit length lists : ℕ) → List Entry → (count : ℕ) → List QuickCase
not_pushed number share limit length lists others count = refused number (pushing share limit length lists others count) (quick_pushes 0)

-- 6: "stored length equals the limit, equality as 01 has it"
abbrev pub six_tried : List QuickCase
six_tried =
    joined_cases (map (λ n. not_pushed 6 0 n n 1 (none 7) 2) (numbers_from 0 6))
    -- the limit one less, and 0: the length is over it, which is neither 6 nor 7, and the push goes on
    ++ done_pushes 0 1 2 1 (none 7) 2
    ++ done_pushes 0 0 2 1 (none 7) 2
    ++ done_pushes 0 0 4 1 (none 7) 2
    ++ done_pushes 0 3 4 1 (none 7) 2
    -- one more, and with any higher bit
    ++ done_pushes 0 3 2 1 (none 7) 2
    ++ done_pushes 0 65535 2 1 (none 7) 2
    ++ joined_cases (map (λ b. done_pushes 0 (2 + b) 2 1 (none 7) 2) word_bits)
    -- before 17: a length that would leave 0 to N-1, nothing free, a free head that is no slot, ends that are none
    ++ not_pushed 6 0 5 5 1 (none 7) 2
    ++ not_pushed 6 3 2 2 1 (none 7) 0
    ++ refused 6 (lent_pool (six_cells 0 2 1 0 5 0) (six_cells 0 10 20 30 0 0) 1 (entry 1 2 0 2 2 ∷ none 7) 65535 2) (quick_pushes 0)
    ++ refused 6 (lent_pool (six_cells 0 2 1 0 5 0) (six_cells 0 10 20 30 0 0) 1 (entry 65535 65535 0 2 2 ∷ none 7) 4 2) (quick_pushes 0)
    -- a limit of 0, as in 01: "every push gives 6"
    ++ refused 6 (lent_pool (six_cells 0 2 3 4 5 0) (six_cells 0 0 0 0 0 0) 1 (none 8) 1 5) (quick_pushes 0)

-- another list that lacks so many
abbrev lacking : ℕ → Entry
lacking n = entry 0 0 n n 0

-- so many are lacked of list 1, and as many are free, or one more
abbrev tight : ℕ → List QuickCase
tight n = not_pushed 7 0 5 2 2 (lacking n ∷ none 6) n ++ done_pushes 0 5 2 2 (lacking n ∷ none 6) (n + 1)

-- only list k, of eight, lacks what is free
abbrev one_lacks : ℕ → List QuickCase
one_lacks k = not_pushed 7 0 5 2 8 (none k ++ lacking 2 ∷ none (6 - k)) 2 ++ done_pushes 0 5 2 8 (none k ++ lacking 1 ∷ none (6 - k)) 2

-- 7: "under the limit, length at least the share, stored free count no more than the sum of the lacks from stored lengths"
abbrev pub seven_tried : List QuickCase
seven_tried =
    -- "no more than the sum of lacks"
    joined_cases (map tight (numbers_from 0 5))
    ++ not_pushed 7 0 5 2 2 (lacking 5 ∷ none 6) 5
    ++ not_pushed 7 0 5 2 2 (lacking 3 ∷ none 6) 2
    ++ not_pushed 7 0 5 2 2 (lacking 65535 ∷ none 6) 5
    ++ joined_cases (map one_lacks (numbers_from 0 7))
    -- "length at least the share": at it, one over it, and one under it, up to the largest share
    ++ not_pushed 7 2 5 2 2 (lacking 2 ∷ none 6) 2
    ++ not_pushed 7 1 5 2 2 (lacking 2 ∷ none 6) 2
    ++ done_pushes 3 5 2 2 (lacking 2 ∷ none 6) 2
    ++ done_pushes 65535 65535 2 2 (lacking 65535 ∷ none 6) 1
    ++ joined_cases (map (λ b. done_pushes (2 + b) 5 2 2 (lacking 2 ∷ none 6) 2) word_bits)
    -- "under the limit": one under it; at it it is 6; over it the push goes on. The limit may be any larger number
    ++ not_pushed 7 0 3 2 2 (lacking 2 ∷ none 6) 2
    ++ not_pushed 6 0 2 2 2 (lacking 2 ∷ none 6) 2
    ++ done_pushes 0 1 2 2 (lacking 2 ∷ none 6) 2
    ++ joined_cases (map (λ b. not_pushed 7 0 (2 + b) 2 2 (lacking 2 ∷ none 6) 2) word_bits)
    -- what a list lacks is its share less its stored length, or 0
    ++ not_pushed 7 0 5 2 2 (entry 0 0 5 5 3 ∷ none 6) 2
    ++ done_pushes 0 5 2 2 (entry 0 0 5 5 4 ∷ none 6) 2
    ++ done_pushes 0 5 2 2 (entry 0 0 3 5 5 ∷ none 6) 1
    ++ done_pushes 0 5 2 3 (entry 0 0 0 5 5 ∷ lacking 1 ∷ none 5) 2
    ++ not_pushed 7 0 5 2 3 (entry 0 0 0 5 5 ∷ lacking 1 ∷ none 5) 1
    -- the sum of all of them: two lists, seven
    ++ not_pushed 7 0 5 2 3 (lacking 2 ∷ lacking 1 ∷ none 5) 3
    ++ done_pushes 0 5 2 3 (lacking 2 ∷ lacking 1 ∷ none 5) 4
    ++ not_pushed 7 0 5 2 8 (map lacking (1 ∷ 0 ∷ 1 ∷ 1 ∷ 0 ∷ 1 ∷ 1 ∷ [])) 5
    ++ done_pushes 0 5 2 8 (map lacking (1 ∷ 0 ∷ 1 ∷ 1 ∷ 0 ∷ 0 ∷ 1 ∷ [])) 5
    -- "summed without wrapping: shares reach 65,535": sums that are 0 or 1 in a word
    ++ not_pushed 7 0 5 2 3 (lacking 65535 ∷ lacking 65535 ∷ none 5) 2
    ++ not_pushed 7 0 5 2 3 (lacking 65535 ∷ lacking 1 ∷ none 5) 2
    ++ not_pushed 7 0 5 2 3 (lacking 1 ∷ lacking 65535 ∷ none 5) 2
    ++ not_pushed 7 0 5 2 3 (lacking 65535 ∷ lacking 2 ∷ none 5) 2
    ++ not_pushed 7 0 5 2 3 (lacking 32768 ∷ lacking 32768 ∷ none 5) 5
    ++ not_pushed 7 0 5 2 4 (lacking 65535 ∷ lacking 65535 ∷ lacking 2 ∷ none 4) 5
    ++ not_pushed 7 0 5 2 5 (map lacking (16384 ∷ 16384 ∷ 16384 ∷ 16384 ∷ []) ++ none 3) 5
    ++ not_pushed 7 0 5 2 8 (map lacking (65535 ∷ 65535 ∷ 65535 ∷ 65535 ∷ 65535 ∷ 65535 ∷ 6 ∷ [])) 5
    -- the lists from L on are none
    ++ done_pushes 0 5 2 1 (lacking 65535 ∷ none 6) 1
    ++ done_pushes 0 5 2 2 (lacking 1 ∷ lacking 1 ∷ none 5) 2
    -- before 17: nothing is free; a free head that is no slot, ends that are none; a length that would leave 0 to N-1
    ++ not_pushed 7 0 5 2 1 (none 7) 0
    ++ not_pushed 7 0 6 5 2 (lacking 2 ∷ none 6) 2
    ++ refused 7 (lent_pool (six_cells 0 2 1 0 5 0) (six_cells 0 10 20 30 0 0) 2 (entry 1 2 0 5 2 ∷ lacking 2 ∷ none 6) 0 2) (quick_pushes 0)
    ++ refused 7 (lent_pool (six_cells 0 2 1 0 5 0) (six_cells 0 10 20 30 0 0) 2 (entry 65535 65535 0 5 2 ∷ lacking 2 ∷ none 6) 4 2) (quick_pushes 0)

-- ---- "after 7 for the rest": the counts

-- "a count would leave 0 to N-1": the length, which goes up, and the free count, which goes down
abbrev pub push_counts_tried : List QuickCase
push_counts_tried =
    done_pushes 0 65535 4 1 (none 7) 2
    ++ not_pushed 17 0 65535 5 1 (none 7) 2
    ++ not_pushed 17 0 4 5 1 (none 7) 2
    ++ not_pushed 17 65535 65535 5 1 (none 7) 2
    ++ done_pushes 0 65535 0 1 (none 7) 5
    ++ done_pushes 3 5 2 1 (none 7) 1
    ++ not_pushed 17 3 5 2 1 (none 7) 0
    ++ not_pushed 17 0 1 2 1 (none 7) 0
    ++ done_pushes 0 1 2 1 (none 7) 1

-- ---- the slots: "a slot whose cells it would read or write isn't from 1 to N-1", "two such slots that a sound pool keeps apart are the same"

-- any cells: slot 0 is not zero, free slots have values, slot 5's link is no slot. The list's ends, and the free head
abbrev any_cells : (head tail free : ℕ) → Pool
any_cells head tail free = lent_pool (six_cells 9 2 1 0 5 65535) (six_cells 7 10 20 30 44 55) 1 (entry head tail 1 5 2 ∷ none 7) free 2

-- both slices, the ends and the free head that are left
abbrev leaving : List ℕ → List ℕ → (head tail free : ℕ) → Pool
leaving links values head tail free = lent_pool links values 1 (entry head tail 1 5 3 ∷ none 7) free 1

abbrev back : Pool → Pool → QuickCase
back p q = turn p (quick_push_back 0 all_bits) 0 0 q

abbrev front : Pool → Pool → QuickCase
front p q = turn p (quick_push_front 0 all_bits) 0 0 q

abbrev not_back : Pool → QuickCase
not_back p = turn p (quick_push_back 0 all_bits) 17 0 p

abbrev not_front : Pool → QuickCase
not_front p = turn p (quick_push_front 0 all_bits) 17 0 p

abbrev pub free_head_tried : List QuickCase
free_head_tried =
    -- the free head from 1 to N-1; "A link that is only copied is not such a slot"
    back (any_cells 1 2 1) (leaving (six_cells 9 2 0 0 5 65535) (six_cells 7 all_bits 20 30 44 55) 1 1 2)
    ∷ back (any_cells 1 2 3) (leaving (six_cells 9 2 2 2 5 65535) (six_cells 7 10 20 all_bits 44 55) 1 3 0)
    ∷ back (any_cells 1 2 4) (leaving (six_cells 9 2 5 0 2 65535) (six_cells 7 10 20 30 all_bits 55) 1 4 5)
    ∷ back (any_cells 1 2 5) (leaving (six_cells 9 2 4 0 5 2) (six_cells 7 10 20 30 44 all_bits) 1 5 65535)
    ∷ front (any_cells 1 2 2) (leaving (six_cells 9 0 1 0 5 65535) (six_cells 7 10 all_bits 30 44 55) 2 2 1)
    ∷ front (any_cells 1 2 3) (leaving (six_cells 9 1 1 1 5 65535) (six_cells 7 10 20 all_bits 44 55) 3 2 0)
    ∷ front (any_cells 1 2 4) (leaving (six_cells 9 6 1 0 1 65535) (six_cells 7 10 20 30 all_bits 55) 4 2 5)
    ∷ front (any_cells 1 2 5) (leaving (six_cells 9 7 1 0 5 1) (six_cells 7 10 20 30 44 all_bits) 5 2 65535)
    -- it is the slot at the pushed end; at the other end it is not
    ∷ not_back (any_cells 1 2 2)
    ∷ not_front (any_cells 1 2 1)
    -- 0, N, and higher bits over a slot, in a list that has slots and in one that has none
    ∷ joined_cases (map (λ f. refused 17 (any_cells 1 2 f) (quick_pushes 0) ++ refused 17 (any_cells 0 0 f) (quick_pushes 0)) (0 ∷ 6 ∷ 7 ∷ 256 ∷ 260 ∷ 4096 ∷ 65535 ∷ []))
    ++ joined_cases (map (λ b. refused 17 (any_cells 1 2 (4 + b)) (quick_pushes 0) ++ refused 17 (any_cells 0 0 (4 + b)) (quick_pushes 0)) (doubles 14 4))
    -- the first slot and the last, in a list that has none. 01: "the first slot has link 0"
    ++ back (any_cells 0 0 1) (leaving (six_cells 9 0 1 0 5 65535) (six_cells 7 all_bits 20 30 44 55) 1 1 2)
    ∷ front (any_cells 0 0 1) (leaving (six_cells 9 0 1 0 5 65535) (six_cells 7 all_bits 20 30 44 55) 1 1 2)
    ∷ back (any_cells 0 0 5) (leaving (six_cells 9 2 1 0 5 0) (six_cells 7 10 20 30 44 all_bits) 5 5 65535)
    ∷ front (any_cells 0 0 5) (leaving (six_cells 9 2 1 0 5 0) (six_cells 7 10 20 30 44 all_bits) 5 5 65535)
    ∷ []

-- slot 4 is pushed on a list of one end alone
abbrev both_ends : ℕ → List QuickCase
both_ends head =
    back (any_cells head 0 4) (leaving (six_cells 9 2 1 0 0 65535) (six_cells 7 10 20 30 all_bits 55) 4 4 5)
    ∷ front (any_cells head 0 4) (leaving (six_cells 9 2 1 0 0 65535) (six_cells 7 10 20 30 all_bits 55) 4 4 5)
    ∷ []

abbrev pub ends_tried : List QuickCase
ends_tried =
    -- 01: "both pushes test the tail only": tail 0, and the new slot is both ends, whatever the head was
    joined_cases (map both_ends (0 ∷ 1 ∷ 4 ∷ 5 ∷ 6 ∷ 65535 ∷ []))
    -- a tail, and a head of 0: a push at the back goes on, one at the front is refused
    ++ back (any_cells 0 2 4) (leaving (six_cells 9 2 5 0 2 65535) (six_cells 7 10 20 30 all_bits 55) 0 4 5)
    ∷ not_front (any_cells 0 2 4)
    -- the slot at the back from 1 to N-1
    ∷ back (any_cells 1 1 4) (leaving (six_cells 9 6 1 0 1 65535) (six_cells 7 10 20 30 all_bits 55) 1 4 5)
    ∷ back (any_cells 1 3 4) (leaving (six_cells 9 2 1 4 3 65535) (six_cells 7 10 20 30 all_bits 55) 1 4 5)
    ∷ back (any_cells 1 5 4) (leaving (six_cells 9 2 1 0 5 65531) (six_cells 7 10 20 30 all_bits 55) 1 4 5)
    -- and at the front
    ∷ front (any_cells 2 2 4) (leaving (six_cells 9 2 5 0 2 65535) (six_cells 7 10 20 30 all_bits 55) 4 2 5)
    ∷ front (any_cells 3 2 4) (leaving (six_cells 9 2 1 4 3 65535) (six_cells 7 10 20 30 all_bits 55) 4 2 5)
    ∷ front (any_cells 5 2 4) (leaving (six_cells 9 2 1 0 5 65531) (six_cells 7 10 20 30 all_bits 55) 4 2 5)
    -- N, higher bits over a slot, and the free head. The other end is only kept: it may be anything
    ∷ joined_cases (map (λ n. not_back (any_cells 1 n 4) ∷ not_front (any_cells n 2 4) ∷ []) (4 ∷ 6 ∷ 7 ∷ 256 ∷ 258 ∷ 4096 ∷ 65535 ∷ map (λ b. 2 + b) (doubles 14 4)))
    ++ joined_cases (map (λ n. back (any_cells n 2 4) (leaving (six_cells 9 2 5 0 2 65535) (six_cells 7 10 20 30 all_bits 55) n 4 5) ∷ []) (2 ∷ 4 ∷ 6 ∷ 65535 ∷ word_bits))
    ++ joined_cases (map (λ n. front (any_cells 1 n 4) (leaving (six_cells 9 6 1 0 1 65535) (six_cells 7 10 20 30 all_bits 55) 4 n 5) ∷ []) (1 ∷ 4 ∷ 6 ∷ 65535 ∷ word_bits))

-- ---- what is left

-- the link of the end slot is XORed with the new slot, 4, whatever it was; so is the value whole
abbrev link_flipped : ℕ → List QuickCase
link_flipped link =
    let flipped = cond (eqb link 4) 0 (link + 4) in
    turn (lent_pool (six_cells 0 2 link 0 5 0) (six_cells 0 10 20 30 0 0) 1 (entry 1 2 1 5 2 ∷ none 7) 4 2) (quick_push_back 0 7) 0 0 (lent_pool (six_cells 0 2 flipped 0 2 0) (six_cells 0 10 20 30 7 0) 1 (entry 1 4 1 5 3 ∷ none 7) 5 1)
    ∷ turn (lent_pool (six_cells 0 link 1 0 5 0) (six_cells 0 10 20 30 0 0) 1 (entry 1 2 1 5 2 ∷ none 7) 4 2) (quick_push_front 0 7) 0 0 (lent_pool (six_cells 0 flipped 1 0 1 0) (six_cells 0 10 20 30 7 0) 1 (entry 4 2 1 5 3 ∷ none 7) 5 1)
    ∷ []

-- the link of the free head is copied, whatever it is
abbrev link_copied : ℕ → List QuickCase
link_copied link =
    turn (lent_pool (six_cells 0 2 1 0 link 0) (six_cells 0 10 20 30 0 0) 1 (entry 1 2 1 5 2 ∷ none 7) 4 2) (quick_push_back 0 7) 0 0 (lent_pool (six_cells 0 2 5 0 2 0) (six_cells 0 10 20 30 7 0) 1 (entry 1 4 1 5 3 ∷ none 7) link 1)
    ∷ turn (lent_pool (six_cells 0 2 1 0 link 0) (six_cells 0 10 20 30 0 0) 1 (entry 1 2 1 5 2 ∷ none 7) 4 2) (quick_push_front 0 7) 0 0 (lent_pool (six_cells 0 6 1 0 1 0) (six_cells 0 10 20 30 7 0) 1 (entry 4 2 1 5 3 ∷ none 7) link 1)
    ∷ turn (lent_pool (six_cells 0 2 1 0 link 0) (six_cells 0 10 20 30 0 0) 1 (entry 0 0 1 5 0 ∷ none 7) 4 2) (quick_push_back 0 7) 0 0 (lent_pool (six_cells 0 2 1 0 0 0) (six_cells 0 10 20 30 7 0) 1 (entry 4 4 1 5 1 ∷ none 7) link 1)
    ∷ []

abbrev value_stored : ℕ → List QuickCase
value_stored value =
    turn (any_cells 1 2 4) (quick_push_back 0 value) 0 0 (leaving (six_cells 9 2 5 0 2 65535) (six_cells 7 10 20 30 value 55) 1 4 5)
    ∷ turn (any_cells 1 2 4) (quick_push_front 0 value) 0 0 (leaving (six_cells 9 6 1 0 1 65535) (six_cells 7 10 20 30 value 55) 4 2 5)
    ∷ turn (any_cells 1 0 4) (quick_push_front 0 value) 0 0 (leaving (six_cells 9 2 1 0 0 65535) (six_cells 7 10 20 30 value 55) 4 4 5)
    ∷ []

-- every word of the book another one, and nine slots, all of whose cells differ: list 1 of three
abbrev many : Entry → (free count : ℕ) → List ℕ → List ℕ → Pool
many middle free count links values = lent_pool links values 3 (entry 101 102 3 104 5 ∷ middle ∷ entry 111 112 1 114 4 ∷ map (λ n. entry (n + 1) (n + 2) (n + 3) (n + 4) (n + 5)) (120 ∷ 130 ∷ 140 ∷ 150 ∷ 65530 ∷ [])) free count

abbrev nine : ℕ → ℕ → ℕ → ℕ → List ℕ
nine a b c d = 51 ∷ 52 ∷ a ∷ 54 ∷ b ∷ c ∷ 57 ∷ d ∷ 59 ∷ []

abbrev pub push_leaves_tried : List QuickCase
push_leaves_tried =
    joined_cases (map link_flipped (0 ∷ word_bits))
    ++ joined_cases (map link_copied (0 ∷ 4 ∷ 65535 ∷ word_bits))
    ++ joined_cases (map value_stored (0 ∷ all_bits ∷ value_bits))
    -- an end slot's link of 65,535
    ++ turn (lent_pool (six_cells 0 2 65535 0 5 0) (six_cells 0 10 20 30 0 0) 1 (entry 1 2 1 5 2 ∷ none 7) 4 2) (quick_push_back 0 7) 0 0 (lent_pool (six_cells 0 2 65531 0 2 0) (six_cells 0 10 20 30 7 0) 1 (entry 1 4 1 5 3 ∷ none 7) 5 1)
    -- 01: "Only the new slot, the old end slot and, in the book, that list's ends and the free head change", and the counts
    ∷ turn (many (entry 2 4 7 106 6) 5 3 (nine 53 55 56 58) (nine 63 65 66 68)) (quick_push_back 1 69) 0 0 (many (entry 2 5 7 106 7) 56 2 (nine 53 50 4 58) (nine 63 65 69 68))
    ∷ turn (many (entry 2 4 7 106 6) 5 3 (nine 53 55 56 58) (nine 63 65 66 68)) (quick_push_front 1 69) 0 0 (many (entry 5 4 7 106 7) 56 2 (nine 48 55 2 58) (nine 63 65 69 68))
    ∷ turn (many (entry 2 0 7 106 6) 7 3 (nine 53 55 56 58) (nine 63 65 66 68)) (quick_push_front 1 69) 0 0 (many (entry 7 7 7 106 7) 58 2 (nine 53 55 56 0) (nine 63 65 66 69))
    ∷ refused 17 (many (entry 5 5 7 106 6) 5 3 (nine 53 55 56 58) (nine 63 65 66 68)) (quick_pushes 1)
    ++ refused 17 (many (entry 2 4 9 106 8) 5 3 (nine 53 55 56 58) (nine 63 65 66 68)) (quick_pushes 1)
    ++ refused 6 (many (entry 2 4 7 6 6) 5 3 (nine 53 55 56 58) (nine 63 65 66 68)) (quick_pushes 1)
    ++ refused 4 (many (entry 2 4 7 106 6) 5 3 (nine 53 55 56 58) (nine 63 65 66 68)) (quick_pushes 3)
