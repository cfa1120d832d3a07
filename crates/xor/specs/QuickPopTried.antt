-- Quick pops of the XOR list on both sides of each of 02 d)'s tests: 5, "17 .. after 7 for the rest", and what a done one leaves on damaged cells.
use Rattle.std.specs.Prelude.{cond, List, [], ◌∷◌, ◌++◌, map, ℕ, ◌+◌, ◌-◌, eqb}
use Rattle.books.specs.declared.Entry.{Entry}
use Rattle.books.specs.Tried.{doubles, word_bits, value_bits, all_bits, numbers_from, entry, none}
use Rattle.shapes.specs.Moves.{quick_pop_back, quick_pop_front}
use Rattle.xor.specs.Moves.{Pool}
use Rattle.xor.specs.QuickTried.{QuickCase, turn, refused, quick_pops, joined_cases, lent_pool, six_cells}

-- any cells: slot 0 is not zero, free slots have values, slot 5's link is no slot, slot 3's is 0. The entry, the free head and the free count
abbrev any_cells : Entry → (free count : ℕ) → Pool
any_cells list free count = lent_pool (six_cells 9 2 1 0 5 65535) (six_cells 7 10 20 30 44 55) 1 (list ∷ none 7) free count

-- both slices, the entry, the free head and the free count that are left
abbrev leaving : List ℕ → List ℕ → Entry → (free count : ℕ) → Pool
leaving links values list free count = lent_pool links values 1 (list ∷ none 7) free count

abbrev back : Pool → (value : ℕ) → Pool → QuickCase
back p value q = turn p (quick_pop_back 0) 0 value q

abbrev front : Pool → (value : ℕ) → Pool → QuickCase
front p value q = turn p (quick_pop_front 0) 0 value q

abbrev not_back : Pool → QuickCase
not_back p = turn p (quick_pop_back 0) 17 0 p

abbrev not_front : Pool → QuickCase
not_front p = turn p (quick_pop_front 0) 17 0 p

-- ---- 5 and the counts

-- a list of slots 1 and 2 with this share, limit and stored length, and this free count
abbrev counted : (share limit length count : ℕ) → List QuickCase
counted share limit length count =
    back (any_cells (entry 1 2 share limit length) 4 count) 20 (leaving (six_cells 9 0 4 0 5 65535) (six_cells 7 10 0 30 44 55) (entry 1 1 share limit (length - 1)) 2 (count + 1))
    ∷ front (any_cells (entry 1 2 share limit length) 4 count) 10 (leaving (six_cells 9 4 0 0 5 65535) (six_cells 7 0 20 30 44 55) (entry 2 2 share limit (length - 1)) 1 (count + 1))
    ∷ []

abbrev pub five_tried : List QuickCase
five_tried =
    -- "5 is a stored length of 0", though the ends are slots; and though they are none, or the free count would leave 0 to N-1
    refused 5 (any_cells (entry 1 2 1 5 0) 4 2) (quick_pops 0)
    ++ refused 5 (any_cells (entry 0 0 1 5 0) 4 2) (quick_pops 0)
    ++ refused 5 (any_cells (entry 0 0 0 0 0) 0 0) (quick_pops 0)
    ++ refused 5 (any_cells (entry 65535 65535 1 5 0) 4 2) (quick_pops 0)
    ++ refused 5 (any_cells (entry 5 5 1 5 0) 4 2) (quick_pops 0)
    ++ refused 5 (any_cells (entry 1 2 1 5 0) 4 5) (quick_pops 0)
    -- from 1 on it is taken as it is: the last one may be counted, and slots be left
    ++ joined_cases (map (λ n. counted 1 5 n 2) (numbers_from 1 5))
    -- and 0 slots where one is counted: the ends are no slots
    ++ refused 17 (any_cells (entry 0 0 1 5 1) 4 2) (quick_pops 0)
    -- "a count would leave 0 to N-1": the free count, which goes up
    ++ joined_cases (map (λ n. counted 1 5 2 n) (numbers_from 0 5))
    ++ refused 17 (any_cells (entry 1 2 1 5 2) 4 5) (quick_pops 0)
    -- "whether shares and limits keep the rules" is not tested: a limit below the length, shares over limits, and any
    ++ counted 0 1 2 2
    ++ counted 0 0 2 2
    ++ counted 5 2 2 2
    ++ counted 65535 0 2 2
    ++ counted 65535 65535 5 4

-- ---- the slots: "a slot whose cells it would read or write isn't from 1 to N-1", "two such slots that a sound pool keeps apart are the same"

abbrev pub end_slot_tried : List QuickCase
end_slot_tried =
    -- the end slot from 1 on. The other end is kept, whatever it is
    back (any_cells (entry 2 1 1 5 2) 4 2) 10 (leaving (six_cells 9 4 0 0 5 65535) (six_cells 7 0 20 30 44 55) (entry 2 2 1 5 1) 1 3)
    ∷ front (any_cells (entry 1 1 1 5 2) 4 2) 10 (leaving (six_cells 9 4 0 0 5 65535) (six_cells 7 0 20 30 44 55) (entry 2 1 1 5 1) 1 3)
    ∷ back (any_cells (entry 1 4 1 5 2) 4 2) 44 (leaving (six_cells 9 2 1 0 4 65531) (six_cells 7 10 20 30 0 55) (entry 1 5 1 5 1) 4 3)
    ∷ front (any_cells (entry 4 2 1 5 2) 4 2) 44 (leaving (six_cells 9 2 1 0 4 65531) (six_cells 7 10 20 30 0 55) (entry 5 2 1 5 1) 4 3)
    -- up to N-1, where its link is a slot and where it is 0; with a link that is none it is refused
    ∷ back (lent_pool (six_cells 9 2 1 0 5 3) (six_cells 7 10 20 30 44 55) 1 (entry 1 5 1 5 2 ∷ none 7) 4 2) 55 (leaving (six_cells 9 2 1 5 5 4) (six_cells 7 10 20 30 44 0) (entry 1 3 1 5 1) 5 3)
    ∷ front (lent_pool (six_cells 9 2 1 0 5 3) (six_cells 7 10 20 30 44 55) 1 (entry 5 2 1 5 2 ∷ none 7) 4 2) 55 (leaving (six_cells 9 2 1 5 5 4) (six_cells 7 10 20 30 44 0) (entry 3 2 1 5 1) 5 3)
    ∷ back (lent_pool (six_cells 9 2 1 0 5 0) (six_cells 7 10 20 30 44 55) 1 (entry 1 5 1 5 2 ∷ none 7) 4 2) 55 (leaving (six_cells 9 2 1 0 5 4) (six_cells 7 10 20 30 44 0) (entry 0 0 1 5 1) 5 3)
    ∷ front (lent_pool (six_cells 9 2 1 0 5 0) (six_cells 7 10 20 30 44 55) 1 (entry 5 2 1 5 2 ∷ none 7) 4 2) 55 (leaving (six_cells 9 2 1 0 5 4) (six_cells 7 10 20 30 44 0) (entry 0 0 1 5 1) 5 3)
    ∷ not_back (any_cells (entry 1 5 1 5 2) 4 2)
    ∷ not_front (any_cells (entry 5 2 1 5 2) 4 2)
    -- 0, N, and higher bits over a slot
    ∷ joined_cases (map (λ n. not_back (any_cells (entry 1 n 1 5 2) 4 2) ∷ not_front (any_cells (entry n 2 1 5 2) 4 2) ∷ []) (0 ∷ 6 ∷ 7 ∷ 256 ∷ 258 ∷ 4096 ∷ 65535 ∷ map (λ b. 2 + b) (doubles 14 4)))
    -- the other end is not tested
    ++ joined_cases
    (map
    (λ n.
    back (any_cells (entry n 2 1 5 2) 4 2) 20 (leaving (six_cells 9 0 4 0 5 65535) (six_cells 7 10 0 30 44 55) (entry n 1 1 5 1) 2 3)
    ∷ front (any_cells (entry 1 n 1 5 2) 4 2) 10 (leaving (six_cells 9 4 0 0 5 65535) (six_cells 7 0 20 30 44 55) (entry 2 n 1 5 1) 1 3)
    ∷ [])
    (0 ∷ 2 ∷ 4 ∷ 6 ∷ 65535 ∷ word_bits))

-- the list ends at slot 2, whose link this is, at the back or at the front
abbrev linked : ℕ → (head tail : ℕ) → Pool
linked link head tail = lent_pool (six_cells 9 2 link 0 5 65535) (six_cells 7 10 20 30 44 55) 1 (entry head tail 1 5 2 ∷ none 7) 4 2

-- what a pop of slot 2 leaves: the links, and the end that is new; with one at the other end
abbrev at_either : ℕ → List ℕ → ℕ → List QuickCase
at_either link links near =
    back (linked link 1 2) 20 (leaving links (six_cells 7 10 0 30 44 55) (entry 1 near 1 5 1) 2 3)
    ∷ front (linked link 2 1) 20 (leaving links (six_cells 7 10 0 30 44 55) (entry near 1 1 5 1) 2 3)
    ∷ []

abbrev pub neighbour_tried : List QuickCase
neighbour_tried =
    -- "nor is a neighbour link of 0 in a pop". 01: "a pop that reads link 0 sets head and tail to 0", whatever the other end was
    joined_cases
    (map
    (λ n.
    back (linked 0 n 2) 20 (leaving (six_cells 9 2 4 0 5 65535) (six_cells 7 10 0 30 44 55) (entry 0 0 1 5 1) 2 3)
    ∷ front (linked 0 2 n) 20 (leaving (six_cells 9 2 4 0 5 65535) (six_cells 7 10 0 30 44 55) (entry 0 0 1 5 1) 2 3)
    ∷ [])
    (0 ∷ 1 ∷ 2 ∷ 6 ∷ 65535 ∷ []))
    -- "otherwise the neighbour's link is XORed with the slot that left": 1, 3, the free head, N-1
    ++ at_either 1 (six_cells 9 0 4 0 5 65535) 1
    ++ at_either 3 (six_cells 9 2 4 2 5 65535) 3
    ++ at_either 4 (six_cells 9 2 4 0 7 65535) 4
    ++ at_either 5 (six_cells 9 2 4 0 5 65533) 5
    -- itself, N, and higher bits over a slot
    ++ joined_cases (map (λ n. not_back (linked n 1 2) ∷ not_front (linked n 2 1) ∷ []) (2 ∷ 6 ∷ 7 ∷ 256 ∷ 257 ∷ 4096 ∷ 65535 ∷ map (λ b. 1 + b) (doubles 13 8)))

-- ---- what is left

-- the free head is only copied into the link of the slot that left
abbrev free_copied : ℕ → List QuickCase
free_copied free =
    back (any_cells (entry 1 2 1 5 2) free 2) 20 (leaving (six_cells 9 0 free 0 5 65535) (six_cells 7 10 0 30 44 55) (entry 1 1 1 5 1) 2 3)
    ∷ front (any_cells (entry 1 2 1 5 2) free 2) 10 (leaving (six_cells 9 free 0 0 5 65535) (six_cells 7 0 20 30 44 55) (entry 2 2 1 5 1) 1 3)
    ∷ back (any_cells (entry 3 3 1 5 1) free 2) 30 (leaving (six_cells 9 2 1 free 5 65535) (six_cells 7 10 20 0 44 55) (entry 0 0 1 5 0) 3 3)
    ∷ []

-- the neighbour's link, whatever it was, is XORed with the slot that left: 2 at the back, 1 at the front
abbrev link_flipped : ℕ → List QuickCase
link_flipped link =
    back (lent_pool (six_cells 0 link 1 0 5 0) (six_cells 0 10 20 30 0 0) 1 (entry 1 2 1 5 2 ∷ none 7) 4 2) 20 (leaving (six_cells 0 (cond (eqb link 2) 0 (link + 2)) 4 0 5 0) (six_cells 0 10 0 30 0 0) (entry 1 1 1 5 1) 2 3)
    ∷ front (lent_pool (six_cells 0 2 link 0 5 0) (six_cells 0 10 20 30 0 0) 1 (entry 1 2 1 5 2 ∷ none 7) 4 2) 10 (leaving (six_cells 0 4 (cond (eqb link 1) 0 (link + 1)) 0 5 0) (six_cells 0 0 20 30 0 0) (entry 2 2 1 5 1) 1 3)
    ∷ []

-- the value is handed out whole, and the slot holds 0
abbrev value_out : ℕ → List QuickCase
value_out value =
    back (lent_pool (six_cells 0 2 1 0 5 0) (six_cells 0 10 value 30 0 0) 1 (entry 1 2 1 5 2 ∷ none 7) 4 2) value (leaving (six_cells 0 0 4 0 5 0) (six_cells 0 10 0 30 0 0) (entry 1 1 1 5 1) 2 3)
    ∷ front (lent_pool (six_cells 0 2 1 0 5 0) (six_cells 0 value 20 30 0 0) 1 (entry 1 2 1 5 2 ∷ none 7) 4 2) value (leaving (six_cells 0 4 0 0 5 0) (six_cells 0 0 20 30 0 0) (entry 2 2 1 5 1) 1 3)
    ∷ []

-- every word of the book another one, and nine slots, all of whose cells differ: list 1 of three
abbrev many : Entry → (free count : ℕ) → List ℕ → List ℕ → Pool
many middle free count links values = lent_pool links values 3 (entry 101 102 3 104 5 ∷ middle ∷ entry 111 112 1 114 4 ∷ map (λ n. entry (n + 1) (n + 2) (n + 3) (n + 4) (n + 5)) (120 ∷ 130 ∷ 140 ∷ 150 ∷ 65530 ∷ [])) free count

abbrev nine : ℕ → ℕ → ℕ → ℕ → List ℕ
nine a b c d = 51 ∷ 52 ∷ a ∷ 54 ∷ b ∷ c ∷ 57 ∷ d ∷ 59 ∷ []

abbrev pub pop_leaves_tried : List QuickCase
pop_leaves_tried =
    joined_cases (map free_copied (0 ∷ 1 ∷ 2 ∷ 3 ∷ 5 ∷ 6 ∷ 65535 ∷ word_bits))
    ++ joined_cases (map value_out (0 ∷ all_bits ∷ value_bits))
    ++ joined_cases (map link_flipped (0 ∷ word_bits))
    ++ back (lent_pool (six_cells 0 65535 1 0 5 0) (six_cells 0 10 20 30 0 0) 1 (entry 1 2 1 5 2 ∷ none 7) 4 2) 20 (leaving (six_cells 0 65533 4 0 5 0) (six_cells 0 10 0 30 0 0) (entry 1 1 1 5 1) 2 3)
    -- 01: "Only it, its neighbour and, in the book, that list's ends and the free head change", and the counts
    ∷ turn (many (entry 2 4 7 106 6) 159 3 (nine 53 5 56 58) (nine 63 65 66 68)) (quick_pop_back 1) 0 65 (many (entry 2 5 7 106 5) 4 4 (nine 53 159 60 58) (nine 63 0 66 68))
    ∷ turn (many (entry 2 4 7 106 6) 159 3 (nine 7 55 56 58) (nine 63 65 66 68)) (quick_pop_front 1) 0 63 (many (entry 7 4 7 106 5) 2 4 (nine 159 55 56 56) (nine 0 65 66 68))
    ∷ turn (many (entry 2 4 7 106 6) 159 3 (nine 53 0 56 58) (nine 63 65 66 68)) (quick_pop_back 1) 0 65 (many (entry 0 0 7 106 5) 4 4 (nine 53 159 56 58) (nine 63 0 66 68))
    ∷ refused 17 (many (entry 2 4 7 106 6) 159 3 (nine 53 55 56 58) (nine 63 65 66 68)) (quick_pops 1)
    ++ refused 17 (many (entry 2 4 7 106 6) 159 8 (nine 7 5 56 58) (nine 63 65 66 68)) (quick_pops 1)
    ++ refused 5 (many (entry 2 4 7 106 0) 159 3 (nine 7 5 56 58) (nine 63 65 66 68)) (quick_pops 1)
    ++ refused 4 (many (entry 2 4 7 106 6) 159 3 (nine 7 5 56 58) (nine 63 65 66 68)) (quick_pops 3)
