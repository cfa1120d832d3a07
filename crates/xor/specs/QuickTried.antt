-- Quick calls of the XOR list, by name, on both sides of each of 02 d)'s tests, on sound pools and on damaged ones: how the cases are written, and those of the tests that all four have: 1, 17 for L, 4, 17 for a stored count, and their order. Each says the number, the value and every cell and word afterwards.
use Rattle.std.specs.Prelude.{Bool, true, ◌&&◌, List, [], ◌∷◌, ◌++◌, map, ℕ, ◌+◌, ◌-◌, eqb, set}
use Rattle.books.specs.declared.Entry.{Entry}
use Rattle.books.specs.declared.Refusal.{Refusal}
use Rattle.books.specs.Book.{words_of}
use Rattle.books.specs.Place.{numbered}
use Rattle.books.specs.Tried.{word_bits, all_bits, numbers_from, same_numbers, entry, none}
use Rattle.shapes.specs.Moves.{QuickMove, quick_push_back, quick_push_front, quick_pop_back, quick_pop_front}
use Rattle.engines.specs.Edges.{same_refusal}
use Rattle.xor.specs.Four.{quick_push_back_of, quick_push_front_of, quick_pop_back_of, quick_pop_front_of}
use Rattle.xor.specs.Moves.{Pool, quick_after}

-- ---- how the cases are written

-- a pool, a quick call on it, the number and the value that it must give, and what it must leave
pub record QuickCase : Type 0 where
  pub pool : Pool
  pub call : QuickMove
  pub number : ℕ
  pub value : ℕ
  pub leaves : Pool

abbrev pub turn : Pool → QuickMove → ℕ → ℕ → Pool → QuickCase
turn pool call number value leaves = record { pool = pool; call = call; number = number; value = value; leaves = leaves }

-- refused by the number, whichever of the calls is made: the value is 0, and every cell and word is as it was
abbrev pub refused : ℕ → Pool → List QuickMove → List QuickCase
refused number pool calls = map (λ call. turn pool call number 0 pool) calls

abbrev pub quick_pushes : ℕ → List QuickMove
quick_pushes l = quick_push_back l all_bits ∷ quick_push_front l all_bits ∷ []

abbrev pub quick_pops : ℕ → List QuickMove
quick_pops l = quick_pop_back l ∷ quick_pop_front l ∷ []

abbrev pub all_four : ℕ → List QuickMove
all_four l = quick_pushes l ++ quick_pops l

abbrev pub joined_cases : List (List QuickCase) → List QuickCase
joined_cases [] = []
joined_cases (cs ∷ more) = cs ++ joined_cases more

-- both slices, L, the entries, the free head and the free count
abbrev pub lent_pool : List ℕ → List ℕ → ℕ → List Entry → ℕ → ℕ → Pool
lent_pool links values lists entries free count = record { links = links; values = values; book = record { lists = lists; entries = entries; free = record { head = free; count = count } } }

abbrev pub six_cells : ℕ → ℕ → ℕ → ℕ → ℕ → ℕ → List ℕ
six_cells a b c d e f = a ∷ b ∷ c ∷ d ∷ e ∷ f ∷ []

-- ---- the test

-- what a call answers: the number and, always 0, the list and the position; and the value that it hands out
abbrev answer_of : Pool → QuickMove → Refusal
answer_of p (quick_push_back l value) = (quick_push_back_of p.links p.values p.book l value).answer.refusal
answer_of p (quick_push_front l value) = (quick_push_front_of p.links p.values p.book l value).answer.refusal
answer_of p (quick_pop_back l) = (quick_pop_back_of p.links p.values p.book l).answer.given.refusal
answer_of p (quick_pop_front l) = (quick_pop_front_of p.links p.values p.book l).answer.given.refusal

abbrev value_of : Pool → QuickMove → ℕ
value_of p (quick_push_back l value) = 0
value_of p (quick_push_front l value) = 0
value_of p (quick_pop_back l) = (quick_pop_back_of p.links p.values p.book l).answer.given.value
value_of p (quick_pop_front l) = (quick_pop_front_of p.links p.values p.book l).answer.given.value

-- every cell of both slices and every word of the book
abbrev pub same_pool : Pool → Pool → Bool
same_pool s t = same_numbers s.links t.links && (same_numbers s.values t.values && same_numbers (words_of s.book) (words_of t.book))

abbrev pub quick_pass : List QuickCase → Bool
quick_pass [] = true
quick_pass (c ∷ cs) =
    same_refusal (answer_of c.pool c.call) (numbered c.number)
    && (eqb (value_of c.pool c.call) c.value && (same_pool (quick_after c.pool c.call) c.leaves && quick_pass cs))

-- ---- a pool that no test refuses, but for the counts

-- N = 6. List `at`, with share 1 and limit 5, has slots 1 and 2; slots 4 and 5 are free; slot 3 is another's. L, the other entries, the list's stored length and the free count are to be tried
abbrev held : (lists at : ℕ) → List Entry → (length count : ℕ) → Pool
held lists at others length count = lent_pool (six_cells 0 2 1 0 5 0) (six_cells 0 10 20 30 0 0) lists (set others at (entry 1 2 1 5 length)) 4 count

-- 01's steps, "with the stored counts taken as they are"
abbrev done_pushes : (lists at : ℕ) → List Entry → (length count : ℕ) → List QuickCase
done_pushes lists at others length count =
    turn (held lists at others length count) (quick_push_back at all_bits) 0 0 (lent_pool (six_cells 0 2 5 0 2 0) (six_cells 0 10 20 30 all_bits 0) lists (set others at (entry 1 4 1 5 (length + 1))) 5 (count - 1))
    ∷ turn (held lists at others length count) (quick_push_front at all_bits) 0 0 (lent_pool (six_cells 0 6 1 0 1 0) (six_cells 0 10 20 30 all_bits 0) lists (set others at (entry 4 2 1 5 (length + 1))) 5 (count - 1))
    ∷ []

abbrev done_pops : (lists at : ℕ) → List Entry → (length count : ℕ) → List QuickCase
done_pops lists at others length count =
    turn (held lists at others length count) (quick_pop_back at) 0 20 (lent_pool (six_cells 0 0 4 0 5 0) (six_cells 0 10 0 30 0 0) lists (set others at (entry 1 1 1 5 (length - 1))) 2 (count + 1))
    ∷ turn (held lists at others length count) (quick_pop_front at) 0 10 (lent_pool (six_cells 0 4 0 0 5 0) (six_cells 0 0 20 30 0 0) lists (set others at (entry 2 2 1 5 (length - 1))) 1 (count + 1))
    ∷ []

abbrev done_all : (lists at : ℕ) → List Entry → (length count : ℕ) → List QuickCase
done_all lists at others length count = done_pushes lists at others length count ++ done_pops lists at others length count

-- the other entries: that of list k has this stored length, and is zero but for it
abbrev storing : ℕ → ℕ → List Entry
storing k length = set (none 8) k (entry 0 0 0 0 length)

-- ---- 1: "lengths differ, or N under 2 or over 4,096"

-- the same list and book with other slices
abbrev sized : List ℕ → List ℕ → (lists : ℕ) → Pool
sized links values lists = lent_pool links values lists (entry 1 2 1 5 2 ∷ none 7) 4 2

-- a value cell too few and one too many; a link too few and one too many
abbrev uneven_ones : List ℕ → List ℕ → (lists : ℕ) → List Pool
uneven_ones links values lists =
    sized links (0 ∷ 10 ∷ 20 ∷ 30 ∷ 0 ∷ []) lists
    ∷ sized links (six_cells 0 10 20 30 0 0 ++ 0 ∷ []) lists
    ∷ sized (0 ∷ 2 ∷ 1 ∷ 0 ∷ 5 ∷ []) values lists
    ∷ sized (six_cells 0 2 1 0 5 0 ++ 0 ∷ []) values lists
    ∷ sized [] values lists
    ∷ sized links [] lists
    ∷ []

abbrev uneven : (lists : ℕ) → List Pool
uneven lists = uneven_ones (six_cells 0 2 1 0 5 0) (six_cells 0 10 20 30 0 0) lists

-- N = 2, the least pool: slot 1 is free, and then the list's
abbrev least_free : Pool
least_free = lent_pool (0 ∷ 0 ∷ []) (0 ∷ 0 ∷ []) 1 (entry 0 0 1 1 0 ∷ none 7) 1 1

abbrev least_held : Pool
least_held = lent_pool (0 ∷ 0 ∷ []) (0 ∷ all_bits ∷ []) 1 (entry 1 1 1 1 1 ∷ none 7) 0 0

abbrev pub sizes_tried : List QuickCase
sizes_tried =
    joined_cases (map (λ p. refused 1 p (all_four 0)) (uneven 1))
    ++ refused 1 (sized [] [] 1) (all_four 0)
    ++ refused 1 (lent_pool (0 ∷ []) (0 ∷ []) 1 (entry 0 0 0 0 0 ∷ none 7) 0 0) (all_four 0)
    ++ refused 1 (lent_pool (0 ∷ []) (0 ∷ []) 1 (entry 1 1 1 1 1 ∷ none 7) 1 1) (all_four 0)
    ++ map (λ call. turn least_free call 0 0 least_held) (quick_pushes 0)
    ++ map (λ call. turn least_held call 0 all_bits least_free) (quick_pops 0)
    ++ refused 6 least_held (quick_pushes 0)
    ++ refused 5 least_free (quick_pops 0)
    -- before every other test: no list, nine lists; a list that there is not; stored counts that are too large
    ++ joined_cases (map (λ p. refused 1 p (all_four 0)) (uneven 0 ++ uneven 9))
    ++ joined_cases (map (λ p. refused 1 p (all_four 1)) (uneven 1))
    ++ refused 1 (lent_pool (six_cells 0 2 1 0 5 0) [] 1 (entry 65535 65535 65535 65535 65535 ∷ none 7) 65535 65535) (all_four 0)

-- ---- "17 before 4 for an L outside 1 to 8"

abbrev pub lists_tried : List QuickCase
lists_tried =
    refused 17 (held 0 0 (none 8) 2 2) (all_four 0)
    ++ joined_cases (map (λ lists. done_all lists 0 (none 8) 2 2) (numbers_from 1 8))
    ++ joined_cases (map (λ lists. refused 17 (held lists 0 (none 8) 2 2) (all_four 0)) (9 ∷ 10 ∷ 256 ∷ 257 ∷ 32770 ∷ 65535 ∷ map (λ b. 8 + b) word_bits))
    -- before 4: the list number is not below L
    ++ refused 17 (held 0 0 (none 8) 2 2) (all_four 1)
    ++ refused 17 (held 0 0 (none 8) 2 2) (all_four 65535)
    ++ refused 17 (held 9 0 (none 8) 2 2) (all_four 9)
    ++ refused 17 (held 9 0 (none 8) 2 2) (all_four 65535)

-- ---- 4: "list number not below L"

abbrev pub four_tried : List QuickCase
four_tried =
    -- the last list, whatever L is; and the list behind it, which has the same entry
    joined_cases (map (λ l. done_all (l + 1) l (none 8) 2 2) (numbers_from 0 8))
    ++ joined_cases (map (λ l. refused 4 (held l l (none 8) 2 2) (all_four l)) (numbers_from 1 7))
    ++ refused 4 (held 8 7 (none 8) 2 2) (all_four 8)
    -- a list number whose low bits are a list's
    ++ joined_cases (map (λ l. refused 4 (held 1 0 (none 8) 2 2) (all_four l)) (1 ∷ 2 ∷ 8 ∷ 256 ∷ 32768 ∷ 65535 ∷ []))
    ++ joined_cases (map (λ b. refused 4 (held 8 0 (none 8) 2 2) (all_four (8 + b))) word_bits)
    -- before a stored count above N-1: of the free slots, and of a list
    ++ refused 4 (held 1 0 (none 8) 2 6) (all_four 1)
    ++ refused 4 (held 1 0 (none 8) 2 65535) (all_four 1)
    ++ refused 4 (held 1 0 (none 8) 6 2) (all_four 1)
    ++ refused 4 (held 2 0 (storing 1 65535) 2 2) (all_four 2)

-- ---- 17 "between 4 and 5 for a stored count of the L lists or of the free slots above N-1"

-- the stored length of each other list at N-1, at N, and bit by bit above; of list 0, and of the last
abbrev lengths_at : ℕ → List QuickCase
lengths_at k =
    done_all 8 0 (storing k 5) 2 2
    ++ refused 17 (held 8 0 (storing k 6) 2 2) (all_four 0)
    ++ refused 17 (held 8 0 (storing k 65535) 2 2) (all_four 0)

-- list k's, which is the first that is no list's: it may be anything
abbrev unused_at : ℕ → List QuickCase
unused_at k = done_all k 0 (storing k 6) 2 2 ++ done_all k 0 (storing k 65535) 2 2

abbrev pub counts_tried : List QuickCase
counts_tried =
    joined_cases (map lengths_at (numbers_from 1 7))
    ++ joined_cases (map unused_at (numbers_from 1 7))
    ++ done_all 8 7 (storing 0 5) 2 2
    ++ refused 17 (held 8 7 (storing 0 6) 2 2) (all_four 7)
    ++ joined_cases (map (λ b. refused 17 (held 8 7 (storing 0 (5 + b)) 2 2) (all_four 7) ++ refused 17 (held 8 0 (storing 7 (5 + b)) 2 2) (all_four 0)) word_bits)
    -- the last of the L lists is asked, and the one behind it is not
    ++ refused 17 (held 2 0 (storing 1 6) 2 2) (all_four 0)
    ++ done_all 2 0 (storing 2 65535) 2 2
    -- two of them, one too large
    ++ refused 17 (held 3 1 (set (storing 0 5) 2 (entry 0 0 0 0 6)) 2 2) (all_four 1)
    ++ done_all 3 1 (set (storing 0 5) 2 (entry 0 0 0 0 5)) 2 2
    -- "Not tested: unused entries": any words in all of them
    ++ done_all 1 0 (map (λ n. entry 65535 65535 65535 65535 65535) (numbers_from 0 8)) 2 2
    -- the list's own: a pop at N-1 is done, and at N is not
    ++ done_pops 1 0 (none 8) 5 2
    ++ joined_cases (map (λ n. refused 17 (held 1 0 (none 8) n 2) (all_four 0)) (6 ∷ 65535 ∷ map (λ b. 5 + b) word_bits))
    -- the free count: a push at N-1 is done, and at N is not; a pop's is one more below
    ++ done_pushes 1 0 (none 8) 2 5
    ++ done_pops 1 0 (none 8) 2 4
    ++ done_pops 1 0 (none 8) 2 0
    ++ joined_cases (map (λ n. refused 17 (held 1 0 (none 8) 2 n) (all_four 0)) (6 ∷ 65535 ∷ map (λ b. 5 + b) word_bits))
    -- before 5: a stored length of 0, where a count is above N-1, or at it
    ++ refused 17 (held 1 0 (none 8) 0 6) (quick_pops 0)
    ++ refused 17 (held 2 0 (storing 1 6) 0 2) (quick_pops 0)
    ++ refused 5 (held 1 0 (none 8) 0 5) (quick_pops 0)
    ++ refused 5 (held 2 0 (storing 1 5) 0 2) (quick_pops 0)
    -- before 6: the stored length is the limit
    ++ refused 17 (held 1 0 (none 8) 5 6) (quick_pushes 0)
    ++ refused 17 (held 2 0 (storing 1 6) 5 2) (quick_pushes 0)
    ++ refused 6 (held 1 0 (none 8) 5 5) (quick_pushes 0)
    ++ refused 6 (held 2 0 (storing 1 5) 5 2) (quick_pushes 0)
    -- before 7: list 2 lacks what is free
    ++ refused 17 (held 3 0 (set (storing 1 6) 2 (entry 0 0 2 2 0)) 2 2) (quick_pushes 0)
    ++ refused 7 (held 3 0 (set (storing 1 5) 2 (entry 0 0 2 2 0)) 2 2) (quick_pushes 0)
    ++ refused 17 (held 2 0 (set (none 8) 1 (entry 0 0 6 6 0)) 2 6) (quick_pushes 0)
    ++ refused 7 (held 2 0 (set (none 8) 1 (entry 0 0 6 6 0)) 2 5) (quick_pushes 0)
